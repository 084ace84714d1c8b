-- Proofs of the goals of `absorb_packed` (`batches`).
use Rattle.std.proofs.Common.{List, take, drop, ap, ◌∙◌, arith}
use Rattle.meaning.specs.declared.answer.Group.{Group}
use Rattle.group_by.specs.Groups.{with_groups}
use Rattle.gathering.proofs.InBatches.{fewer_left, first_batch, next_batch, takes_rest}
use Rattle.gathering.proofs.batches.absorb_packed.Goals as goal

pub loop-rest-init : goal.loop-rest-init
loop-rest-init c =
    first_batch 256 c.args.table c.in_ok-taken.taken c.args.groups.now c.absorb_batch.new.rest
    (c.in_ok-taken.ensures.taken ∙ ap (λ (gs : List Group). with_groups c.args.table (take 256 gs)) c.batches-rest.ensures)
    (c.in_ok-taken.ensures.left ∙ ap (λ (gs : List Group). drop 256 gs) c.batches-rest.ensures)

pub absorb_batch-requires-in-loop-rest : goal.absorb_batch-requires-in-loop-rest
absorb_batch-requires-in-loop-rest c = takes_rest c.args.table c.loop-rest.taken c.args.groups.now c.loop-rest.rest c.requires c.loop-rest.invariant

pub loop-rest-smaller : goal.loop-rest-smaller
loop-rest-smaller c =
    let some = c.loop-rest-test.true in
    let many = c.len.ensures in
    fewer_left 256 c.loop-rest.rest c.absorb_batch-in-loop-rest.new.rest (omega arith) (omega (arith, some, many)) c.in_ok-taken-2.ensures.left

pub loop-rest-preserved : goal.loop-rest-preserved
loop-rest-preserved c =
    next_batch 256 c.args.table c.loop-rest.taken c.in_ok-taken-2.field-0-0 c.args.groups.now c.loop-rest.rest c.absorb_batch-in-loop-rest.new.rest
    c.loop-rest.invariant c.in_ok-taken-2.ensures.taken c.in_ok-taken-2.ensures.left
