-- Proofs of the goals of `is_value` (`sets`).
use Rattle.std.specs.Ordering.{is_eq}
use Rattle.std.proofs.Common.{sym, ap, ◌∙◌}
use Rattle.meaning.specs.Order.{value_cmp, value_in}
use Rattle.distinct_sets.proofs.Entering.{equal}
use Rattle.distinct_sets.proofs.sets.is_value.Goals as goal

pub returns-in-Text : goal.returns-in-Text
returns-in-Text c = λ yes.
    equal c.args.value.now (value_in c.args.other)
    ((λ i. is_eq (value_cmp (sym c.as_value_ref.ensures i) (value_in c.args.other))) ∙ ap is_eq (sym c.compare_lent.ensures) ∙ sym c.is_eq.ensures ∙ yes)
