-- Proofs of the goals of `of_ints` (`calculating`).
use Rattle.std.proofs.Common.{◌≡◌, ◌<◌, ◌∙◌, subst, ℕ, length, IfSome}
use Rattle.vectors.specs.Lanes.{ints_of, nulls_of}
use Rattle.vector_operators.specs.Evaluated.{IsWithin}
use Rattle.vector_operators.specs.Broadcast.{AreEither}
use Rattle.vector_operators.proofs.Composes.{restated}
use Rattle.lane_loops.specs.Lanes.{int_at, null_at}
use Rattle.lane_loops.specs.Small.{AreResults}
use Rattle.lane_loops.specs.Outcomes.{returned_outcome}
use Rattle.vector_operators.specs.Given.{given_at}
use Rattle.vector_operators.proofs.SmallReturned.{small_reports, no_fault}
use Rattle.vector_operators.proofs.Flags.{arith_reports}
use Rattle.vector_operators.proofs.calculating.of_ints.Goals as goal

pub returns-clause-exact : goal.returns-clause-exact
returns-clause-exact c =
    let n = c.args.selection.now.below in
    let ln = c.int_parts.result.1.now in
    let rn = c.int_parts-2.result.1.now in
    let either = subst (λ (k : ℕ). AreEither (nulls_of k ln) (nulls_of k rn) k c.in_ok-nulls.nulls) c.below.ensures.value c.in_ok-nulls.ensures in
    restated _ _ (IsWithin c.args.selection.now) _ _ _
    (λ i w. arith_reports c.args.op n c.args.left.now c.args.right.now (ints_of c.int_parts.result.0.now) (ints_of c.int_parts-2.result.0.now)
    c.in_ok-operated.operated.ints.items c.in_ok-operated.operated.codes.items ln rn c.in_ok-nulls.nulls c.int_parts.ensures c.int_parts-2.ensures
    c.requires.left c.requires.right either c.in_ok-operated.ensures.value c.in_ok-operated.ensures.code i w.0) c.returned.ensures.exact

pub returns-in-Some-clause-exact : goal.returns-in-Some-clause-exact
returns-in-Some-clause-exact c =
    let n = c.args.selection.now.below in
    let lc = ints_of c.int_parts.result.0.now in
    let rc = ints_of c.int_parts-2.result.0.now in
    let ln = c.int_parts.result.1.now in
    let rn = c.int_parts-2.result.1.now in
    let nulls = c.in_ok-nulls.nulls in
    let ints = c.in-Some.ints.items in
    let results : AreResults c.args.op (length lc) (length lc) (int_at lc) (int_at rc) ints =
    subst (λ small. IfSome small (λ v. AreResults c.args.op (length lc) (length lc) (int_at lc) (int_at rc) v.items)) c.in-Some.is c.in_ok-ints.ensures in
    let long : length ints ≡ n = results.long ∙ c.int_parts.ensures.long ∙ c.requires.left in
    let either = subst (λ (k : ℕ). AreEither (nulls_of k ln) (nulls_of k rn) k nulls) c.below.ensures.value c.in_ok-nulls.ensures in
    let value : (i : ℕ) → i < n → given_at c.without_fault.result i ≡ returned_outcome (null_at (nulls_of n nulls) i) 0 (int_at ints i) =
    subst (λ (k : ℕ). (i : ℕ) → i < k → given_at c.without_fault.result i ≡ returned_outcome (null_at (nulls_of k nulls) i) 0 (int_at ints i)) long c.without_fault.ensures.value in
    no_fault c.args.selection.now _ (given_at c.without_fault.result) c.args.fault.now.held
    (λ i within. value i within ∙ small_reports c.args.op n c.args.left.now c.args.right.now lc rc ints ln rn nulls c.int_parts.ensures c.int_parts-2.ensures
    c.requires.left c.requires.right either results i within)
