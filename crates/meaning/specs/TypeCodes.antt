-- The byte by which files and answers encode a column's type.
use Rattle.std.specs.Prelude.{ℕ}
use Rattle.meaning.specs.declared.value.ColType.{ColType}
use Rattle.meaning.specs.declared.value.ColType.TheVariants as of_type

abbrev pub type_code : ColType → ℕ
type_code of_type.Int = 1
type_code of_type.Text = 2
