-- Proofs of the goals of `EntryList::enter_selected` (`sets`).
use Rattle.std.proofs.Common.{List, OnOk, ap, sym, subst, ◌∙◌}
use Rattle.meaning.specs.declared.value.Value.{Value}
use Rattle.meaning.specs.Aggregate.{present}
use Rattle.aggregate_states.proofs.PlainInts.{present_of_ints}
use Rattle.distinct_sets.specs.Sets.{AreEntered}
use Rattle.distinct_sets.proofs.sets.EntryList.enter_selected.Goals as goal

pub returns-in-Some-clause-ok : goal.returns-in-Some-clause-ok
returns-in-Some-clause-ok c =
    subst (λ (vs : List Value). OnOk c.enter_ints.result (AreEntered c.args.group_index vs c.args.self.now c.enter_ints.new.self))
    (sym (present_of_ints c.in-Some.ints.now) ∙ ap present c.in-Some.ensures.value) c.enter_ints.ensures.ok
