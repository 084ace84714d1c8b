-- Proofs of the goals of `are_marked_in_word` (`marked`).
use Rattle.std.proofs.Common.{ℕ, ◌+◌, ◌*◌, ◌<◌, ◌≤◌, ◌==◌, true, sym, ap, ◌∙◌, arith}
use Rattle.std.specs.Int.{w64, trailing_zeros}
use Rattle.std.proofs.Math.Nat.{mul-le-mul_left}
use Rattle.std.proofs.lemmas.Bool.{eq-eqb}
use Rattle.bit_packing.specs.Offsets.{offset_at}
use Rattle.bit_packing.proofs.MarkedRows.{lowest_set, was_marked, marks_less, marks_stop, no_marks, differ}
use Rattle.bit_packing.proofs.marked.are_marked_in_word.Goals as goal

pub overflow_add-row : goal.overflow_add-row
overflow_add-row c =
    let below = c.loop-marks.invariant.marked (trailing_zeros w64 c.loop-marks.marks) (lowest_set (λ _. true) c.loop-marks.marks (omega arith) (omega arith)) in
    omega arith

pub row_offset-requires-clause-few : goal.row_offset-requires-clause-few
row_offset-requires-clause-few c =
    let below = c.loop-marks.invariant.marked (trailing_zeros w64 c.loop-marks.marks) (lowest_set (λ _. true) c.loop-marks.marks (omega arith) (omega arith)) in
    omega arith

pub row_offset-requires-clause-within : goal.row_offset-requires-clause-within
row_offset-requires-clause-within c =
    let row = c.args.first + trailing_zeros w64 c.loop-marks.marks in
    let below : row < c.args.rows = c.loop-marks.invariant.marked (trailing_zeros w64 c.loop-marks.marks) (lowest_set (λ _. true) c.loop-marks.marks (omega arith) (omega arith)) in
    let less : row ≤ c.args.rows = omega arith in
    let bits : c.args.width * row ≤ c.args.width * c.args.rows = mul-le-mul_left c.args.width less in
    omega arith

pub returns-then-row_offset-number : goal.returns-then-row_offset-number
returns-then-row_offset-number c =
    let p = λ (i : ℕ). offset_at c.args.width c.args.packed.now (c.args.first + i) == c.args.number in
    let fails = differ c.row_offset.result c.args.number c.if-row_offset-number.true in
    sym (marks_stop p c.loop-marks.marks (omega arith) (omega arith) (ap (λ n. n == c.args.number) (sym c.row_offset.ensures) ∙ fails)) ∙ c.loop-marks.invariant.rest

pub loop-marks-preserved : goal.loop-marks-preserved
loop-marks-preserved c =
    let p = λ (i : ℕ). offset_at c.args.width c.args.packed.now (c.args.first + i) == c.args.number in
    let passes = eq-eqb c.row_offset.result c.args.number c.if-row_offset-number.false in
    record {
      marked = λ i set. c.loop-marks.invariant.marked i (was_marked p c.loop-marks.marks (omega arith) (omega arith) i set);
      rest = marks_less p c.loop-marks.marks (omega arith) (omega arith) (ap (λ n. n == c.args.number) (sym c.row_offset.ensures) ∙ passes) ∙ c.loop-marks.invariant.rest;
    }

pub returns : goal.returns
returns c =
    let p = λ (i : ℕ). offset_at c.args.width c.args.packed.now (c.args.first + i) == c.args.number in
    sym (no_marks p c.loop-marks.marks (omega arith)) ∙ c.loop-marks.invariant.rest
