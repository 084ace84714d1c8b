-- Proofs of the goals of `count_nulls` (`blocks_shown`).
use Rattle.std.proofs.Common.{◌∙◌, ◌+◌, ap, arith, refl}
use Rattle.std.specs.Prelude.{if◌then◌else◌}
use Rattle.answer_text.specs.Reading.{capped}
use Rattle.table_text.proofs.Totals.{all_nulls, null_more}
use Rattle.table_text.proofs.blocks_shown.count_nulls.Goals as goal

pub loop-row-init : goal.loop-row-init
loop-row-init c = (refl, omega arith)

pub loop-row-preserved : goal.loop-row-preserved
loop-row-preserved c =
    let (so_far, few) = c.loop-row.invariant in
    null_more c.args.block.now c.loop-row.row c.loop-row.nulls c.count_null-nulls.result (rw⁻¹ c.len-row-end.ensures.value c.loop-row-test.true) c.is_null.ensures.sound so_far few
    (c.count_null-nulls.ensures ∙ ap (λ t. if t then capped (c.loop-row.nulls + 1) else c.loop-row.nulls) c.is_null.ensures.value)

pub returns : goal.returns
returns c = all_nulls c.args.block.now c.loop-row.row c.loop-row.nulls (rw⁻¹ c.len-row-end.ensures.value c.loop-row-test.false) c.loop-row.invariant.0
