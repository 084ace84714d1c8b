-- Proofs of the goals of `find_rows` (`index`).
use Rattle.std.proofs.Common.{ℕ, ◌+◌, ◌<◌, take, List, length, subst, sym}
use Rattle.meaning.specs.Order.{Row}
use Rattle.group_index.specs.Found.{AreFound, IsFound}
use Rattle.group_keys.specs.Rows.{rows_at}
use Rattle.group_keys.proofs.KeyRows.{row_of, rows_long}
use Rattle.group_index.proofs.Finding.{found_more}
use Rattle.group_index.proofs.index.KeyIndex.find_rows.Goals as goal

pub loop-k-preserved : goal.loop-k-preserved
loop-k-preserved c =
    let lanes = c.args.lanes.now in
    let list = c.args.selection.now.list in
    let k = c.loop-k.k in
    let all = rows_at lanes list in
    let now = c.loop-k.self.keys in
    let new = c.group_index_of_lanes.new.self.keys in
    let group_index = c.in_ok-group_index_of_lanes.field-0 in
    let here : k < length list = subst (λ (n : ℕ). k < n) c.len-k-end.ensures.value c.loop-k-test.true in
    let found = subst (λ (key : Row). IsFound key now group_index new) (row_of lanes list k c.position-at.result here c.position-at.ensures.value) c.in_ok-group_index_of_lanes.ensures in
    subst (λ (ps : List ℕ). AreFound (take (k + 1) all) c.args.self.now.keys ps new) (sym c.in_ok-push.ensures.items)
    (found_more all k c.args.self.now.keys c.loop-k.group_indexes.items now new group_index (subst (λ (n : ℕ). k < n) (sym (rows_long lanes list)) here) c.loop-k.invariant found)
