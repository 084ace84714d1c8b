-- Proofs of the goals of `take_body` (`body`).
use Rattle.std.proofs.Common.{rules, []}
use Rattle.answer_fields.specs.Fields.{shape_in}
use Rattle.answer_layouts.proofs.ReadGroups.{fault_kept, groups_kept}
use Rattle.answer_layouts.proofs.body.take_body.Goals as goal

pub returns-in_ok-fault-in-0-clause-read : goal.returns-in_ok-fault-in-0-clause-read
returns-in_ok-fault-in-0-clause-read c =
    rw c.findings.ensures.sums
    (fault_kept (shape_in c.args.shape.now) c.args.bytes.now c.in_ok-tag.rest.now c.in_ok-fault-in-0.rest.now c.in_ok-tag.tag c.in_ok-fault-in-0.fault (search rules) c.in-0.is (search rules))

pub returns-in_ok-fault-in-0-clause-found : goal.returns-in_ok-fault-in-0-clause-found
returns-in_ok-fault-in-0-clause-found c =
    let found = c.findings.ensures.found c.args.plan.now [] (c.none.ensures c.args.plan.now) in
    record { typed = found.typed; order = found.order; groups = found }

pub returns-in_ok-groups-in-1-clause-read : goal.returns-in_ok-groups-in-1-clause-read
returns-in_ok-groups-in-1-clause-read c =
    groups_kept (shape_in c.args.shape.now) c.args.bytes.now c.in_ok-tag.rest.now c.in_ok-count-in-1.rest.now c.in_ok-groups-in-1.rest.now c.in_ok-tag.tag c.in_ok-count-in-1.count c.in_ok-groups-in-1.groups c.in_ok-groups-in-1.findings.are_sums_possible
    (search rules) c.in-1.is (search rules) (search rules)

pub returns-in_ok-groups-in-1-clause-found : goal.returns-in_ok-groups-in-1-clause-found
returns-in_ok-groups-in-1-clause-found c =
    let found = c.in_ok-groups-in-1.ensures.found in
    record { typed = found.typed; order = found.order; groups = found }
