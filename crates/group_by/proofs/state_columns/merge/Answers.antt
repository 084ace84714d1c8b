-- Proofs of the goals of `merge` (`state_columns`).
use Rattle.group_by.proofs.Merging.{merged_once}
use Rattle.group_by.proofs.state_columns.merge.Goals as goal

pub returns : goal.returns
returns c =
    merged_once c.args.height c.args.group_index c.args.state.now c.args.column.now c.fill.new.column c.merge_at.new.self
    c.in_ok-fill.ensures.kind c.in_ok-fill.ensures.height c.in_ok-fill.ensures.states c.requires.within c.in_ok-merge_at.ensures.ok
