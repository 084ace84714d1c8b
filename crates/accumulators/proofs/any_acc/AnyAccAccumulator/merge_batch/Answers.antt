-- Proofs of the goals of `AnyAcc::merge_batch` (`any_acc`).
use Rattle.std.proofs.Common.{◌≡◌, OnOk, subst, sym}
use Rattle.meaning.specs.declared.answer.Statistics.{Statistics}
use Rattle.meaning.specs.Aggregate.{merge}
use Rattle.accumulators.specs.AnyAcc.{held_by, kind_of}
use Rattle.accumulators.specs.declared.any_acc.AnyAcc.{AnyAcc}
use Rattle.aggregate_states.specs.Entries.{together}
use Rattle.aggregate_states.proofs.Growing.{as_count, as_distinct, as_sum}
use Rattle.accumulators.proofs.any_acc.AnyAccAccumulator.merge_batch.Goals as goal

pub returns-in-CountRows-clause-ok : goal.returns-in-CountRows-clause-ok
returns-in-CountRows-clause-ok c =
    let states = c.args.states.now in
    let new = c.merge_batch.new.self in
    let said = subst (λ (t : Statistics). OnOk c.merge_batch.result (new ≡ merge c.in-CountRows.acc t)) (as_count states) c.merge_batch.ensures.ok in
    subst (λ (a : AnyAcc). OnOk c.merge_batch.result (new ≡ merge (held_by a) (together (kind_of a) states))) (sym c.in-CountRows.is) said

pub returns-in-Avg-clause-ok : goal.returns-in-Avg-clause-ok
returns-in-Avg-clause-ok c =
    let states = c.args.states.now in
    let new = c.merge_batch-in-Avg.new.self in
    let said = subst (λ (t : Statistics). OnOk c.merge_batch-in-Avg.result (new ≡ merge c.in-Avg.acc t)) (as_sum states) c.merge_batch-in-Avg.ensures.ok in
    subst (λ (a : AnyAcc). OnOk c.merge_batch-in-Avg.result (new ≡ merge (held_by a) (together (kind_of a) states))) (sym c.in-Avg.is) said

pub returns-in-SumDistinct-clause-ok : goal.returns-in-SumDistinct-clause-ok
returns-in-SumDistinct-clause-ok c =
    let states = c.args.states.now in
    let new = c.merge_batch-in-SumDistinct.new.self in
    let said = subst (λ (t : Statistics). OnOk c.merge_batch-in-SumDistinct.result (new ≡ merge c.in-SumDistinct.acc t)) (as_distinct states) c.merge_batch-in-SumDistinct.ensures.ok in
    subst (λ (a : AnyAcc). OnOk c.merge_batch-in-SumDistinct.result (new ≡ merge (held_by a) (together (kind_of a) states))) (sym c.in-SumDistinct.is) said
