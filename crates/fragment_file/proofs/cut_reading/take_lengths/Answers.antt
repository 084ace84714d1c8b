-- Proofs of the goals of `take_lengths` (`cut_reading`).
use Rattle.std.proofs.lemmas.Result.{err_from_is_err_and}
use Rattle.wire.specs.Reading.{repeat_at}
use Rattle.wire.proofs.Loops.{goes_on, fails, finishes}
use Rattle.fragment_file.specs.CutFile.{length_at}
use Rattle.fragment_file.proofs.cut_reading.take_lengths.Goals as goal

pub returns-in_err-length : goal.returns-in_err-length
returns-in_err-length c =
    let p = err_from_is_err_and c.from_residual.result c.from_residual.ensures.1 in
    rw (p.1, p.2) (λ not_memory. fails length_at c.loop.lengths.items c.args.count c.loop.counter c.loop.rest.now c.in_err-length.field-0.0 (repeat_at length_at c.args.count c.args.bytes.now) c.loop-test.true c.in_err-length.ensures c.loop.invariant)

pub loop-preserved : goal.loop-preserved
loop-preserved c =
    rw c.in_ok-push.ensures.items
    (goes_on length_at c.loop.lengths.items c.args.count c.loop.counter c.loop.rest.now c.in_ok-length.length c.in_ok-length.after.now (repeat_at length_at c.args.count c.args.bytes.now) c.loop-test.true c.in_ok-length.ensures c.loop.invariant)

pub returns : goal.returns
returns c = finishes length_at c.loop.lengths.items c.args.count c.loop.counter c.loop.rest.now (repeat_at length_at c.args.count c.args.bytes.now) c.loop-test.false c.loop.invariant
