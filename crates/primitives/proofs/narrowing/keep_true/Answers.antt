-- Proofs of the goals of `keep_true` (`narrowing`).
use Rattle.std.proofs.Common.{false, ap, sym, ◌∙◌, ℕ, List}
use Rattle.vectors.specs.declared.vector.Vector.{Vector}
use Rattle.vector_operators.specs.Evaluated.{lane_of}
use Rattle.vector_operators.specs.Given.{is_true_lane}
use Rattle.primitives.proofs.Keeping.{filter_as, value_dropped}
use Rattle.primitives.proofs.narrowing.keep_true.Goals as goal

pub returns-in-Ints : goal.returns-in-Ints
returns-in-Ints c =
    let none = filter_as (λ p. false) (λ p. is_true_lane (lane_of c.args.lanes.now p)) c.args.selection.now.list (λ p. sym (ap (λ (v : Vector). is_true_lane (lane_of v p)) c.in-Ints.is ∙ value_dropped c.in-Ints.field-0 p)) in
    c.keep_none.ensures ∙ ap (λ (list : List ℕ). record { below = c.args.selection.now.below; list = list }) none

pub returns-in-Texts : goal.returns-in-Texts
returns-in-Texts c =
    let none = filter_as (λ p. false) (λ p. is_true_lane (lane_of c.args.lanes.now p)) c.args.selection.now.list (λ p. sym (ap (λ (v : Vector). is_true_lane (lane_of v p)) c.in-Texts.is ∙ value_dropped c.in-Texts.field-0 p)) in
    c.keep_none-in-Texts.ensures ∙ ap (λ (list : List ℕ). record { below = c.args.selection.now.below; list = list }) none
