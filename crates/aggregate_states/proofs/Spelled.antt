-- Texts that are UTF-8: those of a column of texts are, and integers have none.
use Rattle.std.specs.Prelude.{◌≡◌, zero, suc, ℤ, Bool, true, false, List, [], ◌∷◌, length, nat_le, All}
use Rattle.std.specs.Str.{is_utf8}
use Rattle.std.proofs.Common.{refl, arith}
use Rattle.std.proofs.lemmas.Bool.{and_parts}
use Rattle.meaning.specs.declared.value.ColType.{ColType}
use Rattle.meaning.specs.declared.value.ColType.TheVariants as of_type
use Rattle.meaning.specs.declared.value.Value.{Value}
use Rattle.meaning.specs.declared.value.Value.TheVariants.{Null, Int, Text}
use Rattle.meaning.specs.Limits.{max_text_bytes}
use Rattle.meaning.specs.Typing.{is_of_type}
use Rattle.vectors.specs.Lanes.{lane_values}
use Rattle.aggregate_states.specs.Values.{is_spelled}

pub ints_spelled : (nulls : List Bool) (cells : List ℤ) → All (λ v. is_spelled v ≡ true) (lane_values Int nulls cells)
ints_spelled [] [] k d within = absurd (omega (arith, within))
ints_spelled [] (z ∷ cells) k d within = absurd (omega (arith, within))
ints_spelled (b ∷ nulls) [] k d within = absurd (omega (arith, within))
ints_spelled (true ∷ nulls) (z ∷ cells) zero d within = refl
ints_spelled (false ∷ nulls) (z ∷ cells) zero d within = refl
ints_spelled (b ∷ nulls) (z ∷ cells) (suc k) d within = ints_spelled nulls cells k d (omega (arith, within))

-- a value of a column's type
pub spelled_of_type : (kind : ColType) (v : Value) → is_of_type kind v ≡ true → is_spelled v ≡ true
spelled_of_type kind Null e = refl
spelled_of_type kind (Int n) e = refl
spelled_of_type of_type.Int (Text t) e = absurd cc
spelled_of_type of_type.Text (Text t) e = (and_parts (is_utf8 t) (nat_le (length t) max_text_bytes) e).0
