-- The laws of an accumulator, proved. They hold by what the meaning of aggregates says, for each kind.
use Rattle.std.specs.Prelude.{◌≡◌, List, ◌++◌}
use Rattle.std.proofs.Common.{ap, ◌∙◌}
use Rattle.meaning.specs.declared.value.Value.{Value}
use Rattle.meaning.specs.declared.plan.AggregateKind.{AggregateKind}
use Rattle.meaning.specs.Aggregate.{statistics, kept_by, merge}
use Rattle.meaning.proofs.Merge.{merge-comm, merge-assoc, merge-none, value-statistics, statistics-append, kept_by-merge}
use Rattle.aggregate_states.specs.Entries.{state_of}
use Rattle.aggregate_states.specs.Laws.{StatesMerge}

-- the state of two lists joined is the merge of theirs
pub state_of-append : (kind : AggregateKind) (xs ys : List Value) → state_of kind (xs ++ ys) ≡ merge (state_of kind xs) (state_of kind ys)
state_of-append kind xs ys = ap (kept_by kind) (statistics-append xs ys) ∙ kept_by-merge kind (statistics xs) (statistics ys)

pub states_merge : (kind : AggregateKind) → StatesMerge kind
states_merge kind = record {
  commutes = merge-comm;
  associates = merge-assoc;
  neutral = merge-none;
  append = state_of-append kind;
  value = value-statistics kind;
}
