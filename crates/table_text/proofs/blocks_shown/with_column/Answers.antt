-- Proofs of the goals of `with_column` (`blocks_shown`).
use Rattle.std.proofs.Common.{◌∙◌, ap, sym}
use Rattle.std.specs.Prelude.{Some}
use Rattle.std.proofs.lemmas.Option.{slice_get-get_or, slice_get_past}
use Rattle.table_text.proofs.Totals.{block_more, nothing_more}
use Rattle.table_text.proofs.blocks_shown.with_column.Goals as goal

pub returns-in-Some : goal.returns-in-Some
returns-in-Some c = λ blocks is. c.with_block.ensures blocks is ∙ block_more blocks c.args.number c.args.group.now c.in-Some.block.now
    (slice_get-get_or c.args.group.now c.args.number c.in-Some.block.now c.in-Some.ensures.lookup.3.0 ∙ ap (λ b. Some b) (sym c.in-Some.ensures.lookup.1))

pub returns-in-None : goal.returns-in-None
returns-in-None c = λ blocks is. is ∙ nothing_more blocks c.args.number c.args.group.now (slice_get_past c.args.group.now c.args.number c.in-None.ensures.lookup.3)
