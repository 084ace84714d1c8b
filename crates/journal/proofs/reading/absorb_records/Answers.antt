-- Proofs of the goals of `absorb_records` (`reading`).
use Rattle.std.proofs.Common.{subst, arith}
use Rattle.std.proofs.lemmas.Result.{err_from_is_err_and}
use Rattle.partial_codec.specs.Job.{IsJob}
use Rattle.journal.specs.Journal.{max_records}
use Rattle.journal.proofs.OnlyReading.{only_then}
use Rattle.journal.proofs.ReadTo.{reads_next, reads_end, refuses_next, refuses_more}
use Rattle.journal.proofs.reading.absorb_records.Goals as goal

pub returns-in_err-next-clause-only : goal.returns-in_err-next-clause-only
returns-in_err-next-clause-only g c = only_then (g.D.Disk.shown c.args.disk.now) (g.D.Disk.shown c.loop.disk) (g.D.Disk.shown c.absorb_next.new.disk) c.loop.invariant.only c.absorb_next.ensures.only

pub returns-in_err-next-clause-refused : goal.returns-in_err-next-clause-refused
returns-in_err-next-clause-refused g c =
    let is_job : IsJob c.args.cells.now.job = subst IsJob c.job.ensures.value c.plan-plan.ensures.within_limits in
    let p = err_from_is_err_and c.from_residual.result c.from_residual.ensures.1 in
    rw (p.1, p.2) (refuses_next (g.D.Disk.shown c.args.disk.now) (g.D.Disk.shown c.loop.disk) c.args.cells.now c.loop.cells c.args.end c.loop.counter c.loop.at c.loop.invariant is_job c.requires.end (g.D.Disk.shown c.absorb_next.new.disk) _ c.in_err-next.ensures.refused)

pub returns-in-None-clause-only : goal.returns-in-None-clause-only
returns-in-None-clause-only g c = only_then (g.D.Disk.shown c.args.disk.now) (g.D.Disk.shown c.loop.disk) (g.D.Disk.shown c.absorb_next.new.disk) c.loop.invariant.only c.absorb_next.ensures.only

pub returns-in-None-clause-near : goal.returns-in-None-clause-near
unfolding max_records
returns-in-None-clause-near g c = omega (arith, c.loop.invariant.near, c.loop-test.true)

pub returns-in-None-clause-read : goal.returns-in-None-clause-read
unfolding max_records
returns-in-None-clause-read g c =
    let is_job : IsJob c.args.cells.now.job = subst IsJob c.job.ensures.value c.plan-plan.ensures.within_limits in
    reads_end (g.D.Disk.shown c.args.disk.now) (g.D.Disk.shown c.loop.disk) c.args.cells.now c.loop.cells c.args.end c.loop.counter c.loop.at c.loop.invariant is_job c.requires.end c.absorb_next.new.cells (omega (arith, c.loop-test.true))
    (rw c.in-None.is at c.in_ok-next.ensures.taken)

pub loop-preserved : goal.loop-preserved
loop-preserved g c =
    let is_job : IsJob c.args.cells.now.job = subst IsJob c.job.ensures.value c.plan-plan.ensures.within_limits in
    reads_next (g.D.Disk.shown c.args.disk.now) (g.D.Disk.shown c.loop.disk) c.args.cells.now c.loop.cells c.args.end c.loop.counter c.loop.at c.loop.invariant is_job c.requires.end
    (g.D.Disk.shown c.absorb_next.new.disk) c.absorb_next.new.cells c.in-Some.next c.absorb_next.ensures.only c.in_ok-next.ensures.counts c.absorb_next.ensures.job
    (rw c.in-Some.is at c.in_ok-next.ensures.next) (rw c.in-Some.is at c.in_ok-next.ensures.taken)

pub returns-clause-refused : goal.returns-clause-refused
unfolding max_records
returns-clause-refused g c honest =
    let is_job : IsJob c.args.cells.now.job = subst IsJob c.job.ensures.value c.plan-plan.ensures.within_limits in
    refuses_more (g.D.Disk.shown c.args.disk.now) (g.D.Disk.shown c.loop.disk) c.args.cells.now c.loop.cells c.args.end c.loop.counter c.loop.at c.loop.invariant is_job c.requires.end (omega (arith, c.loop-test.false)) honest
