-- The group indexes of rows.
use Rattle.std.specs.Prelude.{ℕ, suc, List, replicate}
use Rattle.group_index.specs.declared.row_groups.RowGroups.{RowGroups}
use Rattle.group_index.specs.declared.row_groups.RowGroups.TheVariants as row_groups

abbrev pub listed : RowGroups → List ℕ
listed (row_groups.One group_index behind) = replicate (suc behind) group_index
listed (row_groups.Each list) = list.items
