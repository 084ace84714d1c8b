-- Proofs of the goals of `read_columns` (`copying`).
use Rattle.std.proofs.Common.{length, ap, ◌∙◌, arith}
use Rattle.fragment_file.specs.declared.header.Header.{Header}
use Rattle.fragment_file.proofs.CopiedColumns.{none, column_more, columns_are_all}
use Rattle.fragment_file.proofs.copying.read_columns.Goals as goal

pub loop-index-preserved : goal.loop-index-preserved
loop-index-preserved c =
    let below = c.loop-index-test.true in
    let count = c.len-index-end.ensures ∙ ap (λ (h : Header). length h.columns) c.header.ensures.value in
    column_more c.args.view.now c.loop-index.index none c.loop-index.columns.items c.push.new.self.items c.in_ok-column.column (omega (arith, below, count)) c.loop-index.invariant
    (c.in_ok-column.ensures.ok none) c.in_ok-push.ensures.items

pub returns-clause-ok : goal.returns-clause-ok
returns-clause-ok c =
    let end = c.loop-index-test.false in
    let count = c.len-index-end.ensures ∙ ap (λ (h : Header). length h.columns) c.header.ensures.value in
    columns_are_all c.args.view.now c.loop-index.index c.loop-index.columns.items (omega (arith, end, count)) c.loop-index.invariant
