-- The row groups of an opened file, of which some have come.
use Rattle.std.specs.Prelude.{ℕ, ◌<◌, ◌+◌, List, [], ◌∷◌, length, Option, Some, None}
use Rattle.blocks.specs.Block.{Block}
use Rattle.fragment_file.specs.View.{rows_of}
use Rattle.group_reader.specs.Coming.{Coming}
use Rattle.fragment_file.specs.Fragment.{FragmentSpec}

-- the file, the row groups that are still to come, and the one that came last
pub record FileGroupsSpec : Type 0 where
  pub file : FragmentSpec
  pub coming : List (List Block)
  pub current : Option (List Block)

-- the index of the row group that came last is one of the file's
abbrev pub IsAt : List (List Block) → Option ℕ → Type 0
IsAt groups None = Unit {0}
IsAt groups (Some k) = k < length groups

-- all row groups of a file are still to come
abbrev pub all_groups : FragmentSpec → FileGroupsSpec
all_groups f = record { file = f; coming = f.groups; current = None }

-- these row groups, and then the end, at which nothing is wrong
abbrev pub all_coming : List (List Block) → Coming
all_coming groups = record { groups = groups; end = None }

abbrev pub rows_of_all : List (List Block) → ℕ
rows_of_all [] = 0
rows_of_all (group ∷ groups) = rows_of group + rows_of_all groups
