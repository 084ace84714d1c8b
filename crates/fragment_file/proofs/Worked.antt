-- A file of one integer column, with three rows and with none.
use Rattle.std.specs.Prelude.{◌≡◌, refl, ℕ, pos, negsuc, false, [], ◌∷◌, length}
use Rattle.meaning.specs.declared.value.ColType.TheVariants as of_type
use Rattle.meaning.specs.declared.value.Value.TheVariants.{Int}
use Rattle.blocks.specs.declared.kind.Kind.TheVariants as kind
use Rattle.blocks.specs.Block.{Block}
use Rattle.fragment_file.specs.declared.header.Header.{Header}
use Rattle.fragment_file.specs.Fragment.{FragmentSpec, fragment_bytes, columns_in, fragment_magic, header_bytes, column_bytes, name_bytes, groups_bytes, group_bytes, block_bytes}
use Rattle.wire.specs.Bytes.{number_bytes}

abbrev pub header : ℕ → Header
header rows = record { load = 7; table = 110 ∷ []; fragment = 0; first_row = 0; rows = rows; columns = record { name = 118 ∷ []; col_type = of_type.Int; nullable = false } ∷ [] }

abbrev pub three : Block
three = record { kind = kind.Plain; col_type = of_type.Int; nullable = false; rows = 3; payload = 255 ∷ 255 ∷ 255 ∷ 255 ∷ 255 ∷ 255 ∷ 255 ∷ 127 ∷ 1 ∷ 0 ∷ 0 ∷ 0 ∷ 0 ∷ 0 ∷ 0 ∷ 0 ∷ 255 ∷ 255 ∷ 255 ∷ 255 ∷ 255 ∷ 255 ∷ 255 ∷ 255 ∷ [] }

abbrev pub some_rows : FragmentSpec
some_rows = record { header = header 3; groups = (three ∷ []) ∷ [] }

abbrev pub no_rows : FragmentSpec
no_rows = record { header = header 0; groups = [] }

pub some_columns : columns_in some_rows ≡ record { col_type = of_type.Int; nullable = false; values = Int (pos 9223372036854775807) ∷ Int (pos 1) ∷ Int (negsuc 0) ∷ [] } ∷ []
some_columns = refl

-- 103 bytes with the seal
pub some_length : length (fragment_bytes some_rows) ≡ 71
unfolding fragment_bytes header_bytes column_bytes name_bytes number_bytes groups_bytes group_bytes block_bytes fragment_magic
some_length = refl

-- 70 bytes with the seal
pub no_length : length (fragment_bytes no_rows) ≡ 38
unfolding fragment_bytes header_bytes column_bytes name_bytes number_bytes groups_bytes group_bytes block_bytes fragment_magic
no_length = refl
