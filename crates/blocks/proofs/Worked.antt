-- Blocks byte by byte, and what they encode.
use Rattle.std.specs.Prelude.{◌≡◌, refl, pos, true, false, List, [], ◌∷◌}
use Rattle.std.specs.Str.{is_utf8, chars}
use Rattle.meaning.specs.declared.value.ColType.TheVariants as of_type
use Rattle.meaning.specs.declared.value.Value.{Value}
use Rattle.meaning.specs.declared.value.Value.TheVariants.{Null, Int, Text}
use Rattle.blocks.specs.declared.kind.Kind.TheVariants as kind
use Rattle.blocks.specs.Block.{Block, is_block, values_of}

-- 2, NULL, 0, 4, 1
abbrev pub q : List Value
q = Int (pos 2) ∷ Null ∷ Int (pos 0) ∷ Int (pos 4) ∷ Int (pos 1) ∷ []

abbrev pub framed : Block
framed = record { kind = kind.Frame; col_type = of_type.Int; nullable = true; rows = 5; payload = 2 ∷ 0 ∷ 0 ∷ 0 ∷ 0 ∷ 0 ∷ 0 ∷ 0 ∷ 0 ∷ 3 ∷ 2 ∷ 24 ∷ [] }

pub framed_is_block : is_block framed ≡ true
framed_is_block = refl

pub framed_values : values_of framed ≡ q
framed_values = refl

-- 5, 7, 9, 1
abbrev pub unmasked : Block
unmasked = record { kind = kind.Frame; col_type = of_type.Int; nullable = false; rows = 4; payload = 1 ∷ 0 ∷ 0 ∷ 0 ∷ 0 ∷ 0 ∷ 0 ∷ 0 ∷ 4 ∷ 100 ∷ 8 ∷ [] }

pub unmasked_is_block : is_block unmasked ≡ true
unmasked_is_block = refl

pub unmasked_values : values_of unmasked ≡ (Int (pos 5) ∷ Int (pos 7) ∷ Int (pos 9) ∷ Int (pos 1) ∷ [])
unmasked_values = refl

-- texts "a", "", "a" behind a dictionary, the second NULL
abbrev pub texts : Block
texts = record { kind = kind.Dict; col_type = of_type.Text; nullable = true; rows = 3; payload = 2 ∷ 2 ∷ 0 ∷ 0 ∷ 0 ∷ 0 ∷ 0 ∷ 0 ∷ 0 ∷ 1 ∷ 0 ∷ 0 ∷ 0 ∷ 97 ∷ 1 ∷ 0 ∷ 0 ∷ 0 ∷ 1 ∷ 0 ∷ [] }

pub texts_are_block : is_block texts ≡ true
unfolding is_utf8 chars lib.Utf8.encode
texts_are_block = refl

pub texts_values : values_of texts ≡ (Text (97 ∷ []) ∷ Null ∷ Text (97 ∷ []) ∷ [])
texts_values = refl

-- one run of five
abbrev pub run : Block
run = record { kind = kind.Runs; col_type = of_type.Int; nullable = false; rows = 5; payload = 1 ∷ 0 ∷ 0 ∷ 0 ∷ 5 ∷ 0 ∷ 9 ∷ 0 ∷ 0 ∷ 0 ∷ 0 ∷ 0 ∷ 0 ∷ 0 ∷ [] }

pub run_values : values_of run ≡ (Int (pos 9) ∷ Int (pos 9) ∷ Int (pos 9) ∷ Int (pos 9) ∷ Int (pos 9) ∷ [])
run_values = refl

pub run_is_block : is_block run ≡ true
run_is_block = refl
