-- Proofs of the goals of `add_ints_to_sums` (`cells`).
use Rattle.std.proofs.Common.{◌≡◌, ℕ, ◌<◌, ◌≤◌, ◌∷◌, [], length, map, get_or, pos, subst, sym, ap, ◌∙◌}
use Rattle.std.proofs.lemmas.List.{length-map}
use Rattle.meaning.specs.declared.plan.AggregateKind.TheVariants.{Sum}
use Rattle.meaning.specs.declared.value.Value.{Value}
use Rattle.meaning.specs.declared.value.Value.TheVariants.{Int, Null}
use Rattle.accumulators.specs.Columns.{merged_at}
use Rattle.aggregate_states.specs.Entries.{state_of}
use Rattle.accumulators.proofs.AtGroups.{height_next, room_next}
use Rattle.accumulators.proofs.GroupLoops.{entries_end, entries_more, entry_room, int_at, one_less}
use Rattle.accumulators.proofs.cells.add_ints_to_sums.Goals as goal

pub loop-k-preserved : goal.loop-k-preserved
loop-k-preserved c =
    let a = c.args in
    let k = c.loop-k.k in
    let ints = a.ints.now in
    let values = map Int ints in
    let now = c.loop-k.cells in
    let new = c.add_int_to_sum.new.cells in
    let so_far = c.loop-k.invariant in
    let here = c.loop-k-test.true in
    let group_index = get_or a.group_indexes.now k 0 in
    let long = length-map ints Int in
    let is_new : new ≡ merged_at now group_index (state_of Sum (get_or values k Null ∷ [])) = c.add_int_to_sum.ensures ∙ ap (λ (v : Value). merged_at now group_index (state_of Sum (v ∷ []))) (sym (int_at ints k here)) in
    let inside : group_index < length now = subst (λ (n : ℕ). group_index < n) (sym so_far.height) (c.requires.within k 0 (subst (λ (n : ℕ). k < n) (sym c.requires.group_indexes) here)) in
    record {
      height = height_next group_index now new _ is_new ∙ so_far.height;
      whole = entries_more Sum a.group_indexes.now values (c.requires.group_indexes ∙ sym long) a.cells.now k (subst (λ (n : ℕ). k < n) (sym long) here) now new is_new so_far.whole;
      room = room_next _ _ 1 group_index now new _ (one_less ints k (pos 0) here) (entry_room Sum (get_or values k Null)) inside is_new so_far.room;
    }

pub returns : goal.returns
returns c =
    let a = c.args in
    let long = length-map a.ints.now Int in
    entries_end Sum a.group_indexes.now (map Int a.ints.now) (c.requires.group_indexes ∙ sym long) a.cells.now c.loop-k.k (subst (λ (n : ℕ). n ≤ c.loop-k.k) (sym long) c.loop-k-test.false) c.loop-k.cells c.loop-k.invariant.whole
