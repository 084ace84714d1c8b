-- Proofs of the goals of `check_cells` (`state_check`).
use Rattle.std.proofs.Common.{◌≡◌, ℕ, ◌<◌, length, List, Ok, Err, get_or, ap, sym, subst, ◌∙◌, ◌^◌, ◌+◌, arith}
use Rattle.std.specs.Prelude.{slice_index}
use Rattle.std.proofs.lemmas.Result.{err_from_is_err_and}
use Rattle.meaning.specs.Cut.{first_row}
use Rattle.meaning.specs.declared.plan.Plan.{Plan}
use Rattle.meaning.specs.Said.{Cell}
use Rattle.answer_layouts.specs.Found.{AreFoundInCell}
use Rattle.answer_layouts.specs.Layouts.{sums_in}
use Rattle.partial_codec.proofs.Steps.{cells_after, cells_end, found_at, next_first, no_findings, rows_fit, sum_at, sums_length}
use Rattle.partial_codec.proofs.state_check.check_cells.Goals as goal

pub returns-in_err-check_cell : goal.returns-in_err-check_cell
returns-in_err-check_cell c =
    let job = c.args.job.now in
    let k = c.loop-k.k in
    let lt : k < length c.args.cells.now = c.loop-k-test.true in
    let cells = c.requires.fragments in
    let returned = c.requires.returned in
    let rows : c.from-rows.result ≡ slice_index job.cut k = c.from-rows.ensures ∙ ap (λ (xs : List ℕ). get_or xs k 0) (c.lengths-lengths.ensures.value ∙ c.cut.ensures) in
    let after = cells_after job c.args.cells.now (sums_in c.args.findings.now) k _ no_findings.are_sums_possible c.plan.result.now c.loop-k.first c.from-rows.result c.index-cells-k.result (get_or c.args.findings.now k no_findings).are_sums_possible (Err c.in_err-check_cell.field-0.0) lt (omega (arith, lt, cells, returned, sums_length c.args.findings.now)) c.plan.ensures.value c.loop-k.invariant.first rows c.index-cells-k.is (sum_at c.args.findings.now k no_findings (omega (arith, lt, cells, returned)))
    c.in_err-check_cell.ensures in
    let p = err_from_is_err_and c.from_residual.result c.from_residual.ensures.1 in
    rw (p.1, p.2) (c.loop-k.invariant.rest ∙ after)

pub overflow_add-first : goal.overflow_add-first
overflow_add-first c =
    let job = c.args.job.now in
    let k = c.loop-k.k in
    let rows : c.from-rows.result ≡ slice_index job.cut k = c.from-rows.ensures ∙ ap (λ (xs : List ℕ). get_or xs k 0) (c.lengths-lengths.ensures.value ∙ c.cut.ensures) in
    let first = c.loop-k.invariant.first in
    let fit : first_row job.cut k + slice_index job.cut k < 2 ^ 64 = rows_fit job.cut k c.plan.ensures.within_limits.cut in
    record { fits = omega (arith, rows, first, fit) }

pub loop-k-preserved : goal.loop-k-preserved
loop-k-preserved c =
    let job = c.args.job.now in
    let k = c.loop-k.k in
    let rows : c.from-rows.result ≡ slice_index job.cut k = c.from-rows.ensures ∙ ap (λ (xs : List ℕ). get_or xs k 0) (c.lengths-lengths.ensures.value ∙ c.cut.ensures) in
    let lt : k < length c.args.cells.now = c.loop-k-test.true in
    let cells = c.requires.fragments in
    let returned = c.requires.returned in
    let next = next_first job.cut k (omega (arith, lt, cells)) in
    let after = cells_after job c.args.cells.now (sums_in c.args.findings.now) k _ no_findings.are_sums_possible c.plan.result.now c.loop-k.first c.from-rows.result c.index-cells-k.result (get_or c.args.findings.now k no_findings).are_sums_possible (Ok tt) lt (omega (arith, lt, cells, returned, sums_length c.args.findings.now)) c.plan.ensures.value c.loop-k.invariant.first rows c.index-cells-k.is (sum_at c.args.findings.now k no_findings (omega (arith, lt, cells, returned)))
    c.in_ok-check_cell.ensures in
    let firsts = c.loop-k.invariant.first in
    record { first = omega (arith, next, firsts, rows); rest = c.loop-k.invariant.rest ∙ after }

pub returns : goal.returns
returns c = c.loop-k.invariant.rest ∙ cells_end c.args.job.now c.args.cells.now (sums_in c.args.findings.now) c.loop-k.k c.loop-k-test.false

pub check_cell-requires : goal.check_cell-requires
check_cell-requires c =
    let k = c.loop-k.k in
    let here = found_at c.args.job.now.plan c.args.cells.now c.args.findings.now k c.index-cells-k.result no_findings c.loop-k-test.true c.requires.found in
    subst (λ (plan : Plan). AreFoundInCell plan c.index-cells-k.result (get_or c.args.findings.now k no_findings)) (sym c.plan.ensures.value)
    (subst (λ (cell : Cell). AreFoundInCell c.args.job.now.plan cell (get_or c.args.findings.now k no_findings)) (sym c.index-cells-k.is) here)
