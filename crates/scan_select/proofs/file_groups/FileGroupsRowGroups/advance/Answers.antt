-- Proofs of the goals of `advance` (`file_groups`).
use Rattle.std.proofs.Common.{◌<◌, ◌≤◌, List, ap, sym, subst, ◌∙◌}
use Rattle.blocks.specs.Block.{Block}
use Rattle.fragment_file.specs.View.{rows_of}
use Rattle.scan_select.specs.FileGroups.{FileGroupsSpec, rows_of_all}
use Rattle.scan_select.proofs.Rows.{some_rows}
use Rattle.scan_select.proofs.Groups.{rows_behind}
use Rattle.scan_select.proofs.file_groups.FileGroupsRowGroups.advance.Goals as goal

pub returns-then-self-group_count-clause-counted : goal.returns-then-self-group_count-clause-counted
returns-then-self-group_count-clause-counted c =
    let groups : List (List Block) = c.self.inside.view.now.groups in
    let some = some_rows _ _ _ c.group-group.ensures.blocks c.header-header.ensures.sound.header.some in
    let below = subst (λ n. c.self.inside.next < n) c.group_count.ensures c.if-self-group_count.true in (
      subst (λ (g : List Block). 1 ≤ rows_of g) c.group-group.ensures.value some,
      ap (λ (g : FileGroupsSpec). rows_of_all g.coming) (sym c.self.view_is) ∙ rows_behind groups c.self.inside.next below,
    )
