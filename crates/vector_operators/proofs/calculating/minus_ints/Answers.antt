-- Proofs of the goals of `minus_ints` (`calculating`).
use Rattle.std.proofs.Common.{◌≡◌, subst, ℕ}
use Rattle.vectors.specs.Lanes.{ints_of, nulls_of}
use Rattle.vector_operators.specs.Evaluated.{IsWithin}
use Rattle.vector_operators.proofs.Composes.{restated}
use Rattle.vector_operators.proofs.Flags.{minus_reports}
use Rattle.vector_operators.proofs.calculating.minus_ints.Goals as goal

pub returns-clause-exact : goal.returns-clause-exact
returns-clause-exact c =
    let n = c.args.selection.now.below in
    let given = c.int_parts.result.1.now in
    let same = subst (λ (k : ℕ). nulls_of k c.in_ok-nulls.nulls ≡ nulls_of k given) c.below.ensures.value c.in_ok-nulls.ensures in
    restated _ _ (IsWithin c.args.selection.now) _ _ _
    (λ i w. minus_reports n c.args.ints.now (ints_of c.int_parts.result.0.now)
    c.in_ok-operated.operated.ints.items c.in_ok-operated.operated.codes.items given c.in_ok-nulls.nulls c.int_parts.ensures
    c.requires same c.in_ok-operated.ensures.value c.in_ok-operated.ensures.code i w.0) c.returned.ensures.exact
