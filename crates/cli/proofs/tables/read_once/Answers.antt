-- Proofs of the goals of `read_once` (`tables`).
use Rattle.std.proofs.Common.{rules}
use Rattle.cli.proofs.AskedFiles.{asked_among}
use Rattle.cli.proofs.tables.read_once.Goals as goal

pub returns-then-is_read-clause-one : goal.returns-then-is_read-clause-one
returns-then-is_read-clause-one g c = λ asked. asked_among (g.F.Folder.asks c.args.folder.now) c.args.directory.now c.args.files.now.items c.args.table.now asked (search rules)
