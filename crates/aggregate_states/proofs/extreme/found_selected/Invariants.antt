-- Invariants of `found_selected` (`extreme`).
use Rattle.std.proofs.Common.{◌≡◌, ◌≤◌, true}
use Rattle.meaning.specs.Aggregate.{no_statistics}
use Rattle.meaning.specs.Order.{value_in}
use Rattle.aggregate_states.specs.Kinds.{end_state, kind_from}
use Rattle.aggregate_states.specs.Values.{is_spelled}
use Rattle.vectors.specs.Vector.{values_of}
use Rattle.aggregate_states.proofs.Growing.{AddsUp}
use Rattle.aggregate_states.proofs.extreme.found_selected.Given as goal

-- the values that are left make it whole
abbrev pub invariant-loop-k : goal.invariant-loop-k
invariant-loop-k l = record {
  whole : AddsUp (kind_from l.end) (values_of l.lanes) l.selection.list no_statistics l.k (end_state l.end l.found.0 (value_in l.found.1.0));
  few : l.found.0 ≤ l.k;
  spelled : is_spelled (value_in l.found.1.0) ≡ true;
}
