-- Proofs of the goals of `load_dimension_table` (`loading`).
use Rattle.std.proofs.Common.{rules}
use Rattle.loads.proofs.Refusals.{asked_behind}
use Rattle.loads.proofs.loading.load_dimension_table.Goals as goal

pub returns-clause-unread : goal.returns-clause-unread
returns-clause-unread g c =
    asked_behind (g.F.Folder.asks c.args.folder.now) c.args.directory.now c.args.dim.now.table.name c.in-Err.fault c.load_refusal.result
    (search rules) (search rules)
