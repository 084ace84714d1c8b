-- Proofs of the goals of `advance` (`read_groups`).
use Rattle.scan_select.proofs.Groups.{read_on}
use Rattle.scan_select.proofs.read_groups.GroupReaderRowGroups.advance.Goals as goal

pub returns-clause-told : goal.returns-clause-told
returns-clause-told g c = read_on g.R.Read.remaining c.args.self.now c.advance.new.self c.advance.result c.advance.ensures.told
