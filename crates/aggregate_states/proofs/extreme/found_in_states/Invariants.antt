-- Invariants of `found_in_states` (`extreme`).
use Rattle.std.proofs.Common.{◌≡◌, ◌≤◌, ◌+◌, true, drop}
use Rattle.meaning.specs.Aggregate.{no_statistics}
use Rattle.meaning.specs.Order.{value_in}
use Rattle.aggregate_states.specs.Kinds.{end_state, kind_from}
use Rattle.aggregate_states.specs.Values.{is_spelled}
use Rattle.aggregate_states.proofs.Growing.{MergesUp, all_entries}
use Rattle.aggregate_states.proofs.extreme.found_in_states.Given as goal

-- the states that are left make it whole
abbrev pub invariant-loop-k : goal.invariant-loop-k
invariant-loop-k l = record {
  whole : MergesUp (kind_from l.end) l.states no_statistics l.k (end_state l.end l.found.0 (value_in l.found.1.0));
  few : l.found.0 + all_entries (drop l.k l.states) ≤ all_entries l.states;
  spelled : is_spelled (value_in l.found.1.0) ≡ true;
}
