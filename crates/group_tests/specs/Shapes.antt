-- What the tests' plans and groups are, as far as types go.
use Rattle.std.specs.Prelude.{◌≡◌, ℤ, true, List, [], ◌∷◌, option_to_list, Option, None, All}
use Rattle.meaning.specs.declared.answer.Group.{Group}
use Rattle.meaning.specs.declared.answer.Statistics.{Statistics}
use Rattle.meaning.specs.declared.expr.Expr.{Expr}
use Rattle.meaning.specs.declared.plan.Aggregate.{Aggregate}
use Rattle.meaning.specs.declared.plan.AggregateKind.TheVariants.{Sum}
use Rattle.meaning.specs.declared.plan.GroupingKey.{GroupingKey}
use Rattle.meaning.specs.declared.plan.Plan.{Plan}
use Rattle.meaning.specs.declared.value.ColType.TheVariants as of_type
use Rattle.meaning.specs.declared.value.Value.TheVariants.{Int}
use Rattle.meaning.specs.Operators.{fits_i64}
use Rattle.meaning.specs.References.{GroupAggregate, columns_used_in_all}
use Rattle.meaning.specs.Typing.{Boolean, RowTypes, has_type}
use Rattle.meaning.specs.SoundPlan.{IsTypedOverGroups}

-- a key and a sum, both integers
abbrev pub sum_types : RowTypes
sum_types = record { fact = []; joins = []; key = of_type.Int ∷ []; aggregates = of_type.Int ∷ [] }

-- a condition on the sum, if there is one
pub record IsHaving (having : Option Expr) : Type 0 where
  pub typed : All (λ e. has_type sum_types e Boolean ≡ true) (option_to_list having)
  pub named : All (λ u. u ≡ GroupAggregate 0) (columns_used_in_all (option_to_list having))

-- one key, an integer
pub record AreKeys (keys : List GroupingKey) : Type 0 where
  pub key : GroupingKey
  pub one : keys ≡ key ∷ []
  pub integer : key.col_type ≡ of_type.Int

-- one sum of integers
pub record AreSums (aggregates : List Aggregate) : Type 0 where
  pub sum : Aggregate
  pub one : aggregates ≡ sum ∷ []
  pub kind : sum.kind ≡ Sum
  pub integer : sum.col_type ≡ of_type.Int

-- a plan over the key and the sum
pub record IsSumPlan (plan : Plan) : Type 0 where
  pub typed : IsTypedOverGroups plan
  pub keys : AreKeys plan.keys
  pub sums : AreSums plan.aggs

-- the state of a sum
pub record IsSumState (s : Statistics) : Type 0 where
  pub least : s.least ≡ None
  pub greatest : s.greatest ≡ None
  pub entries : s.entries ≡ []

-- an integer, and the state of a sum
pub record IsSumGroup (g : Group) : Type 0 where
  pub int : ℤ
  pub fits : fits_i64 int ≡ true
  pub key : g.key ≡ Int int ∷ []
  pub state : Statistics
  pub states : g.states ≡ state ∷ []
  pub is : IsSumState state
