-- Proofs of the goals of `add_ints_to_sets` (`cells`).
use Rattle.std.proofs.Common.{◌≡◌, ℕ, ◌<◌, ◌≤◌, ◌∷◌, [], map, get_or, subst, sym, ap, ◌∙◌}
use Rattle.std.proofs.lemmas.List.{length-map}
use Rattle.meaning.specs.declared.plan.AggregateKind.TheVariants.{CountDistinct}
use Rattle.meaning.specs.declared.value.Value.{Value}
use Rattle.meaning.specs.declared.value.Value.TheVariants.{Int, Null}
use Rattle.accumulators.specs.Columns.{merged_at}
use Rattle.aggregate_states.specs.Entries.{state_of}
use Rattle.accumulators.proofs.AtGroups.{height_next}
use Rattle.accumulators.proofs.GroupLoops.{entries_end, entries_more, int_at}
use Rattle.accumulators.proofs.cells.add_ints_to_sets.Goals as goal

pub loop-k-preserved : goal.loop-k-preserved
loop-k-preserved c =
    let a = c.args in
    let k = c.loop-k.k in
    let ints = a.ints.now in
    let values = map Int ints in
    let now = c.loop-k.sets in
    let new = c.add_int.new.self in
    let so_far = c.loop-k.invariant in
    let here = c.loop-k-test.true in
    let group_index = get_or a.group_indexes.now k 0 in
    let long = length-map ints Int in
    let is_new : new ≡ merged_at now group_index (state_of CountDistinct (get_or values k Null ∷ [])) = c.in_ok-add_int.ensures.ok ∙ ap (λ (v : Value). merged_at now group_index (state_of CountDistinct (v ∷ []))) (sym (int_at ints k here)) in
    record {
      height = height_next group_index now new _ is_new ∙ so_far.height;
      whole = entries_more CountDistinct a.group_indexes.now values (c.requires.group_indexes ∙ sym long) a.sets.now k (subst (λ (n : ℕ). k < n) (sym long) here) now new is_new so_far.whole;
    }

pub returns-clause-ok : goal.returns-clause-ok
returns-clause-ok c =
    let a = c.args in
    let long = length-map a.ints.now Int in
    entries_end CountDistinct a.group_indexes.now (map Int a.ints.now) (c.requires.group_indexes ∙ sym long) a.sets.now c.loop-k.k (subst (λ (n : ℕ). n ≤ c.loop-k.k) (sym long) c.loop-k-test.false) c.loop-k.sets c.loop-k.invariant.whole
