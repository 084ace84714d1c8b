-- Proofs of the goals of `Printer::put_more_items` (`printer`).
use Rattle.std.proofs.Common.{rules}
use Rattle.sql_syntax.specs.declared.token.Sign.TheVariants as sign
use Rattle.sql_syntax.specs.Phrases.{mark}
use Rattle.sql_syntax.specs.Queries.{item_tokens}
use Rattle.sql_syntax.specs.Printing.{with_token, with_tokens, more_items}
use Rattle.sql_syntax.proofs.Writing.{goes_on, items_step}
use Rattle.sql_syntax.proofs.printer.Printer.put_more_items.Goals as goal

pub loop-item-preserved : goal.loop-item-preserved
loop-item-preserved c =
    goes_on more_items (λ w item. with_tokens (with_token w (mark sign.Comma)) (item_tokens item)) items_step
    c.args.items.now c.loop-item.item-index c.item-item.result _ _ _ _ c.loop-item-test.true c.item-item.is
    (search rules) c.loop-item.invariant
