-- Proofs of the goals of `run_of` (`runs::view`).
use Rattle.std.proofs.Common.{◌≡◌, ◌+◌, ◌-◌, get_or, drop, sum, sym, ap, ◌∙◌, zip, arith}
use Rattle.std.proofs.lemmas.List.{at_drop_all}
use Rattle.std.proofs.lemmas.List.Sums.{sum_by-drop_more}
use Rattle.meaning.specs.declared.value.Value.TheVariants.{Null}
use Rattle.blocks.specs.Runs.{repeated}
use Rattle.bit_packing.specs.Bytes.{shorts}
use Rattle.blocks.proofs.RowCells.{in_run, past_run}
use Rattle.bit_packing.proofs.Chunks.{get_or-shorts, length-shorts}
use Rattle.blocks.proofs.runs.view.run_of.Goals as goal

pub returns-then-rest-run-clause-cell : goal.returns-then-rest-run-clause-cell
returns-then-rest-run-clause-cell c = λ values many.
    let lengths = shorts c.args.count c.args.lengths.now in
    let long = length-shorts c.args.count c.args.lengths.now in
    let same : get_or lengths c.loop-i.i 0 ≡ c.short_at-run.result = get_or-shorts c.args.count c.loop-i.i c.args.lengths.now c.loop-i-test.true ∙ sym c.short_at-run.ensures in
    c.loop-i.invariant.cell values many ∙ in_run values lengths c.loop-i.i c.loop-i.rest (omega arith) (omega arith) (omega arith)

pub loop-i-preserved : goal.loop-i-preserved
loop-i-preserved c =
    let lengths = shorts c.args.count c.args.lengths.now in
    let long = length-shorts c.args.count c.args.lengths.now in
    let same : get_or lengths c.loop-i.i 0 ≡ c.short_at-run.result = get_or-shorts c.args.count c.loop-i.i c.args.lengths.now c.loop-i-test.true ∙ sym c.short_at-run.ensures in
    let more : sum (drop c.loop-i.i lengths) ≡ get_or lengths c.loop-i.i 0 + sum (drop (c.loop-i.i + 1) lengths) = sum_by-drop_more (λ n. n) lengths c.loop-i.i 0 (omega arith) in
    record {
      within = omega arith;
      cell = λ values many. c.loop-i.invariant.cell values many ∙ past_run values lengths c.loop-i.i c.loop-i.rest (omega arith) (omega arith) (omega arith) ∙ ap (λ k. get_or (repeated (drop (c.loop-i.i + 1) (zip values lengths))) (c.loop-i.rest - k) Null) same;
    }

pub returns-clause-below : goal.returns-clause-below
returns-clause-below c =
    let lengths = shorts c.args.count c.args.lengths.now in
    let long = length-shorts c.args.count c.args.lengths.now in
    let none : sum (drop c.loop-i.i lengths) ≡ 0 = at_drop_all sum lengths c.loop-i.i (omega arith) in
    absurd (omega arith)

pub returns-clause-cell : goal.returns-clause-cell
returns-clause-cell c =
    let lengths = shorts c.args.count c.args.lengths.now in
    let long = length-shorts c.args.count c.args.lengths.now in
    let none : sum (drop c.loop-i.i lengths) ≡ 0 = at_drop_all sum lengths c.loop-i.i (omega arith) in
    absurd (omega arith)
