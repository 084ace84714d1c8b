-- Proofs of the goals of `Printer::put_others` (`printer`).
use Rattle.std.proofs.Common.{rules}
use Rattle.sql_syntax.specs.Queries.{others_tokens_of}
use Rattle.sql_syntax.specs.Printing.{with_tokens, joined_tokens}
use Rattle.sql_syntax.proofs.Writing.{goes_on, others_step}
use Rattle.sql_syntax.proofs.printer.Printer.put_others.Goals as goal

pub loop-joined-preserved : goal.loop-joined-preserved
loop-joined-preserved c =
    goes_on others_tokens_of (λ w j. with_tokens w (joined_tokens j)) others_step
    c.args.others.now c.loop-joined.joined-index c.joined-item.result _ _ _ _ c.loop-joined-test.true c.joined-item.is
    (search rules) c.loop-joined.invariant
