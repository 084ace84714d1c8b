-- Groups in the order of their keys, made or not.
use Rattle.std.specs.Prelude.{List}
use Rattle.meaning.specs.declared.answer.Group.{Group}
use Rattle.group_by.specs.declared.ordered_groups.HeldGroups.{HeldGroups}
use Rattle.group_by.specs.declared.ordered_groups.HeldGroups.TheVariants as held
use Rattle.group_by.specs.declared.group_slice.HeldSlice.{HeldSlice}
use Rattle.group_by.specs.declared.group_slice.HeldSlice.TheVariants as slice

abbrev pub groups_in : HeldGroups → List Group
groups_in (held.Made groups) = groups.items
groups_in (held.Unmade groups) = groups

abbrev pub groups_lent : HeldSlice → List Group
groups_lent (slice.Made groups) = groups.now
groups_lent (slice.Unmade groups) = groups
