-- Proofs of the goals of `group` (`file_groups`).
use Rattle.scan_select.proofs.Rows.{some_rows}
use Rattle.scan_select.proofs.file_groups.FileGroupsRowGroups.group.Goals as goal

pub returns-clause-some : goal.returns-clause-some
returns-clause-some c = some_rows _ _ _ c.group.ensures.blocks c.header-header.ensures.sound.header.some
