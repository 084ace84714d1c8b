-- Proofs of the goals of `merge_each` (`state_column`).
use Rattle.std.proofs.Common.{◌≡◌, ℕ, ◌<◌, length, get_or, subst, sym, ◌∙◌}
use Rattle.meaning.specs.Aggregate.{kept_by}
use Rattle.accumulators.specs.Columns.{kind_of_cells, merged_at, states_in}
use Rattle.accumulators.proofs.AtGroups.{height_next, room_next}
use Rattle.aggregate_states.proofs.Growing.{entries_left}
use Rattle.accumulators.proofs.GroupLoops.{states_end, states_more, state_room}
use Rattle.accumulators.proofs.state_column.merge_each.Goals as goal

pub loop-k-preserved : goal.loop-k-preserved
loop-k-preserved c =
    let a = c.args in
    let k = c.loop-k.k in
    let so_far = c.loop-k.invariant in
    let kind = kind_of_cells a.cells.now in
    let states = a.states.now in
    let s = c.index-states-k.result in
    let now = states_in c.loop-k.cells in
    let new = states_in c.add_state.new.self in
    let here = c.loop-k-test.true in
    let group_index = get_or a.group_indexes.now k 0 in
    let is_new : new ≡ merged_at now group_index (kept_by kind (get_or states k s)) = c.in_ok-add_state.ensures.ok ∙ (λ i. merged_at now group_index (kept_by (so_far.kind i) (c.index-states-k.is i))) in
    let inside : group_index < length now = subst (λ (n : ℕ). group_index < n) (sym so_far.height) (c.requires.within k 0 (subst (λ (n : ℕ). k < n) (sym c.requires.group_indexes) here)) in
    record {
      kind = c.in_ok-add_state.ensures.kind ∙ so_far.kind;
      height = height_next group_index now new _ is_new ∙ so_far.height;
      whole = states_more kind a.group_indexes.now states c.requires.group_indexes (states_in a.cells.now) k here s now new is_new so_far.whole;
      room = room_next _ _ (get_or states k s).count group_index now new _ (entries_left states k s here) (state_room kind (get_or states k s)) inside is_new so_far.room;
    }

pub returns-clause-ok : goal.returns-clause-ok
returns-clause-ok c =
    let a = c.args in
    states_end (kind_of_cells a.cells.now) a.group_indexes.now a.states.now c.requires.group_indexes (states_in a.cells.now) c.loop-k.k c.loop-k-test.false (states_in c.loop-k.cells) c.loop-k.invariant.whole
