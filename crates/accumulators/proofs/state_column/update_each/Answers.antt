-- Proofs of the goals of `update_each` (`state_column`).
use Rattle.std.proofs.Common.{◌≡◌, ℕ, ◌<◌, ◌≤◌, ◌∷◌, [], length, get_or, subst, sym, ◌∙◌}
use Rattle.meaning.specs.declared.value.Value.TheVariants.{Null}
use Rattle.accumulators.specs.Columns.{kind_of_cells, merged_at, states_in}
use Rattle.aggregate_states.specs.Entries.{state_of}
use Rattle.aggregate_states.specs.Values.{selected}
use Rattle.vectors.specs.Vector.{values_of}
use Rattle.accumulators.proofs.AtGroups.{height_next, room_next}
use Rattle.accumulators.proofs.GroupLoops.{entries_end, entries_more, entry_room, one_less, selected_at, selected_long}
use Rattle.accumulators.proofs.state_column.update_each.Goals as goal

pub loop-k-preserved : goal.loop-k-preserved
loop-k-preserved c =
    let a = c.args in
    let k = c.loop-k.k in
    let so_far = c.loop-k.invariant in
    let kind = kind_of_cells a.cells.now in
    let list = a.selection.now.list in
    let values = selected (values_of a.lanes.now) list in
    let now = states_in c.loop-k.cells in
    let new = states_in c.add.new.self in
    let here : k < length list = subst (λ (n : ℕ). k < n) c.len-k-end.ensures.value c.loop-k-test.true in
    let group_index = get_or a.group_indexes.now k 0 in
    let value = c.selected_value-value.ensures.value ∙ sym (selected_at (values_of a.lanes.now) list k here) in
    let is_new : new ≡ merged_at now group_index (state_of kind (get_or values k Null ∷ [])) = c.in_ok-add.ensures.ok ∙ (λ i. merged_at now group_index (state_of (so_far.kind i) (value i ∷ []))) in
    let long = selected_long (values_of a.lanes.now) list in
    let inside : group_index < length now = subst (λ (n : ℕ). group_index < n) (sym so_far.height) (c.requires.within k 0 (subst (λ (n : ℕ). k < n) (sym c.requires.group_indexes) here)) in
    record {
      kind = c.in_ok-add.ensures.kind ∙ so_far.kind;
      height = height_next group_index now new _ is_new ∙ so_far.height;
      whole = entries_more kind a.group_indexes.now values (c.requires.group_indexes ∙ sym long) (states_in a.cells.now) k (subst (λ (n : ℕ). k < n) (sym long) here) now new is_new so_far.whole;
      room = room_next _ _ 1 group_index now new _ (one_less list k 0 here) (entry_room kind (get_or values k Null)) inside is_new so_far.room;
    }

pub returns-clause-ok : goal.returns-clause-ok
returns-clause-ok c =
    let a = c.args in
    let list = a.selection.now.list in
    let values = selected (values_of a.lanes.now) list in
    let long = selected_long (values_of a.lanes.now) list in
    let past : length values ≤ c.loop-k.k = subst (λ (n : ℕ). n ≤ c.loop-k.k) (c.len-k-end.ensures.value ∙ sym long) c.loop-k-test.false in
    entries_end (kind_of_cells a.cells.now) a.group_indexes.now values (c.requires.group_indexes ∙ sym long) (states_in a.cells.now) c.loop-k.k past (states_in c.loop-k.cells) c.loop-k.invariant.whole
