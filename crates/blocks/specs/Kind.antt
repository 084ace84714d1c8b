-- The byte of each of the four kinds, and which may hold values of a type.
use Rattle.std.specs.Prelude.{ℕ, List, [], ◌∷◌}
use Rattle.meaning.specs.declared.value.ColType.{ColType}
use Rattle.blocks.specs.declared.kind.Kind.{Kind}
use Rattle.meaning.specs.declared.value.ColType.TheVariants as of_type
use Rattle.blocks.specs.declared.kind.Kind.TheVariants as kind

-- the byte as which a kind is written
abbrev pub kind_code : Kind → ℕ
kind_code kind.Plain = 0
kind_code kind.Dict = 1
kind_code kind.Runs = 2
kind_code kind.Frame = 3

-- the kinds that may hold values of a type
abbrev pub kinds_for : ColType → List Kind
kinds_for of_type.Int = kind.Plain ∷ kind.Dict ∷ kind.Runs ∷ kind.Frame ∷ []
kinds_for of_type.Text = kind.Plain ∷ kind.Dict ∷ kind.Runs ∷ []
