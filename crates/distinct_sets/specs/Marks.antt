-- Marks of the groups of a block.
use Rattle.std.specs.Prelude.{◌≡◌, ℕ}
use Rattle.std.specs.Int.{bit_at}
use Rattle.distinct_sets.specs.declared.marks.Marks.{Marks}

-- the group at an offset is marked
abbrev pub IsMarked : Marks → ℕ → Type 0
IsMarked marks offset = bit_at marks.bits offset ≡ 1
