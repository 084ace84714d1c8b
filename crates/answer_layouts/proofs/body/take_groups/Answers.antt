-- Proofs of the goals of `take_groups` (`body`).
use Rattle.std.proofs.Common.{refl}
use Rattle.std.proofs.lemmas.Result.{err_from_is_err_and}
use Rattle.answer_fields.specs.Fields.{shape_in}
use Rattle.answer_fields.specs.Keeping.{kept_group, has_possible_sums}
use Rattle.answer_fields.specs.LayoutReading.{group_at}
use Rattle.wire.specs.Reading.{repeat_at}
use Rattle.answer_layouts.proofs.KeptParts.{kept_begins, kept_goes_on, kept_fails, kept_finishes}
use Rattle.answer_layouts.proofs.body.take_groups.Goals as goal

pub loop-init : goal.loop-init
loop-init c =
    let part = group_at (shape_in c.args.shape.now) in
    record {
      read = kept_begins part kept_group has_possible_sums c.new-groups.result c.args.count 0 c.args.bytes.now c.new-groups.ensures refl;
      judged = rw c.new-groups.ensures (c.none-judged.ensures c.args.plan.now);
    }

pub returns-in_err-group-clause-read : goal.returns-in_err-group-clause-read
returns-in_err-group-clause-read c =
    let part = group_at (shape_in c.args.shape.now) in
    let p = err_from_is_err_and c.from_residual.result c.from_residual.ensures.1 in
    rw (p.1, p.2) (λ not_memory. kept_fails part kept_group has_possible_sums c.loop.groups c.loop.are_possible c.args.count c.loop.counter c.loop.rest.now c.in_err-group.field-0.0 (repeat_at part c.args.count c.args.bytes.now)
    c.loop-test.true (c.in_err-group.ensures not_memory) c.loop.invariant.read)

pub loop-preserved : goal.loop-preserved
loop-preserved c =
    let part = group_at (shape_in c.args.shape.now) in
    let all = repeat_at part c.args.count c.args.bytes.now in
    record {
      read = rw c.in_ok-groups.ensures
          (kept_goes_on part kept_group has_possible_sums c.loop.groups c.loop.are_possible c.args.count c.loop.counter c.loop.rest.now c.in_ok-group.group c.in_ok-group.is_possible c.in_ok-group.behind.now all
          c.loop-test.true c.in_ok-group.ensures c.loop.invariant.read);
      judged = rw c.in_ok-groups.ensures (c.with-in-loop.ensures c.loop.groups c.loop.invariant.judged);
    }

pub returns-clause-read : goal.returns-clause-read
returns-clause-read c =
    let part = group_at (shape_in c.args.shape.now) in
    rw (c.in_ok-groups-2.ensures, c.findings.ensures.sums)
    (kept_finishes part kept_group has_possible_sums c.loop.groups c.loop.are_possible c.args.count c.loop.counter c.loop.rest.now (repeat_at part c.args.count c.args.bytes.now) c.loop-test.false c.loop.invariant.read)
