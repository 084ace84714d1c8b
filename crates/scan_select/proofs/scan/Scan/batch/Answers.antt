-- Proofs of the goals of `batch` (`scan`).
use Rattle.std.proofs.lemmas.Result.{IfOk-weaker}
use Rattle.scan_select.proofs.Rows.{gives_all}
use Rattle.scan_select.proofs.scan.Scan.batch.Goals as goal

pub returns : goal.returns
returns g c = IfOk-weaker c.batch_without.result _ _ (gives_all c.args.self.now) c.batch_without.ensures
