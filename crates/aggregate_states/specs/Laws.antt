-- The laws of an accumulator.
use Rattle.std.specs.Prelude.{◌≡◌, List, ◌++◌}
use Rattle.meaning.specs.declared.value.Value.{Value}
use Rattle.meaning.specs.declared.plan.AggregateKind.{AggregateKind}
use Rattle.meaning.specs.declared.answer.Statistics.{Statistics}
use Rattle.meaning.specs.Aggregate.{aggregate, no_statistics, merge, value}
use Rattle.aggregate_states.specs.Entries.{state_of}

-- merging commutes and associates, with the fresh state as neutral; the state of two lists joined is the merge of theirs;
-- and the aggregate over a list is read off its state
pub record StatesMerge (kind : AggregateKind) : Type 0 where
  pub commutes : (a b : Statistics) → merge a b ≡ merge b a
  pub associates : (a b c : Statistics) → merge (merge a b) c ≡ merge a (merge b c)
  pub neutral : (a : Statistics) → merge no_statistics a ≡ a
  pub append : (xs ys : List Value) → state_of kind (xs ++ ys) ≡ merge (state_of kind xs) (state_of kind ys)
  pub value : (xs : List Value) → value kind (state_of kind xs) ≡ aggregate kind xs
