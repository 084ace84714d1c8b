-- Proofs of the goals of `first_row` (`decoding`).
use Rattle.std.proofs.Common.{◌<◌, ◌+◌, ◌^◌, arith}
use Rattle.std.specs.Prelude.{slice_index}
use Rattle.meaning.specs.Cut.{first_row}
use Rattle.partial_codec.proofs.Steps.{next_first, rows_fit}
use Rattle.partial_codec.proofs.decoding.first_row.Goals as goal

pub overflow_add-first : goal.overflow_add-first
overflow_add-first c =
    let rows = c.from-first.ensures in
    let first = c.loop-i.invariant in
    let fit : first_row c.args.lengths.now c.loop-i.i + slice_index c.args.lengths.now c.loop-i.i < 2 ^ 64 = rows_fit c.args.lengths.now c.loop-i.i c.requires.cut in
    record { fits = omega (arith, rows, first, fit) }

pub loop-i-preserved : goal.loop-i-preserved
loop-i-preserved c =
    let rows = c.from-first.ensures in
    let first = c.loop-i.invariant in
    let lt = c.loop-i-test.true in
    let within = c.requires.within in
    let next = next_first c.args.lengths.now c.loop-i.i (omega (arith, lt, within)) in
    omega (arith, rows, first, next)
