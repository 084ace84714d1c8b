-- Proofs of the goals of `is_same` (`joining`).
use Rattle.std.proofs.Common.{◌≡◌, List, sym, ap, ◌∙◌}
use Rattle.std.specs.Bool.{one_answer}
use Rattle.meaning.specs.Gather.{same_body}
use Rattle.meaning.specs.Said.{Body}
use Rattle.meaning.specs.declared.answer.Body.TheVariants.{Groups}
use Rattle.meaning.specs.declared.answer.Group.{Group}
use Rattle.meaning.proofs.Same.{body_exact}
use Rattle.gathering.proofs.joining.is_same.Goals as goal

same_groups : (gs hs : List Group) → ◌≡◌ {A = Body} (Groups gs) (Groups hs) → gs ≡ hs
same_groups gs hs e = cc

pub returns-in-Groups-Groups : goal.returns-in-Groups-Groups
returns-in-Groups-Groups c =
    let gs = c.in-Groups-Groups.groups in
    let hs = c.in-Groups-Groups.others in
    let exact = body_exact (Groups gs) (Groups hs) in
    one_answer _ _ c.is_same.ensures (λ e. same_groups gs hs (exact.0 e), λ e. exact.1 (ap Groups e)) ∙ (λ i. same_body (sym c.in-Groups-Groups.is-0 i) (sym c.in-Groups-Groups.is-1 i))
