-- What another coordinator's cells add to one's own.
use Rattle.std.specs.Prelude.{Bool, if◌then◌else◌, List, map, zip}
use Rattle.meaning.specs.Said.{Cell}
use Rattle.meaning.specs.declared.answer.Cell.TheVariants.{Nothing, One, Conflict}
use Rattle.meaning.specs.Gather.{same_body}

-- equal answers are no delta
abbrev pub conflict_unless : Bool → Cell
conflict_unless is_known = if is_known then Nothing else Conflict

-- the least cell with which a cell becomes what it is joined with the other
abbrev pub delta_of : Cell → Cell → Cell
delta_of Nothing other = other
delta_of (One known) Nothing = Nothing
delta_of (One known) (One said) = conflict_unless (same_body known said)
delta_of (One known) Conflict = Conflict
delta_of Conflict other = Nothing

-- what is new of each cell
abbrev pub all_deltas : List Cell → List Cell → List Cell
all_deltas own others = map (λ p. delta_of p.0 p.1) (zip own others)
