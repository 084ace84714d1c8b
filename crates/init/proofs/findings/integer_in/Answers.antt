-- Proofs of the goals of `integer_in` (`findings`).
use Rattle.loader.proofs.Integers.{parsed_integer}
use Rattle.init.proofs.findings.integer_in.Goals as goal

pub returns : goal.returns
returns c = rw c.ok.ensures.value (parsed_integer c.args.text.now c.parse.result c.parse.ensures.value.0)
