-- Proofs of the goals of `line_of` (`line`).
use Rattle.std.proofs.lemmas.Result.{IfOk-weaker}
use Rattle.csv.specs.Reading.{strip_bom}
use Rattle.csv_lines.proofs.Walking.{line_is}
use Rattle.csv_lines.proofs.line.line_of.Goals as goal

pub returns-clause-place : goal.returns-clause-place
returns-clause-place g c = IfOk-weaker c.line_in-line.result _ _ (λ found is bytes known. line_is c.args.index (strip_bom bytes) found (is bytes known)) c.line_in-line.ensures.found
