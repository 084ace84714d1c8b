-- Proofs of the goals of `nulls` (`given`).
use Rattle.std.proofs.Common.{◌≡◌, ◌∙◌, pos, refl, replicate, true}
use Rattle.meaning.specs.declared.value.Value.TheVariants.{Int}
use Rattle.vector_operators.proofs.Parts.{repeated_long, null_at_all, mapped_long}
use Rattle.vector_operators.proofs.given.nulls.Goals as goal

pub returns-clause-value : goal.returns-clause-value
returns-clause-value c =
    let mask : c.in_ok-mask.mask.items ≡ replicate c.args.lanes true = c.in_ok-mask.ensures.items_if_clones_equal (λ y h. h) in
    λ i. rw (c.new.ensures, mask) (null_at_all Int (λ x. refl) (pos 0) c.args.lanes i)

pub returns-clause-long : goal.returns-clause-long
returns-clause-long c =
    let mask : c.in_ok-mask.mask.items ≡ replicate c.args.lanes true = c.in_ok-mask.ensures.items_if_clones_equal (λ y h. h) in
    rw (c.new.ensures, mask) (mapped_long _ ∙ repeated_long Int (λ x. refl) true (pos 0) c.args.lanes)
