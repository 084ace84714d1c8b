-- Groups read one by one.
use Rattle.std.proofs.Common.{◌≡◌, ℕ, suc, ◌+◌, ◌<◌, true, List, [], ◌∷◌, ◌++◌, length, map, take, get_or, Ok, Err, refl, sym, ap, ◌∙◌}
use Rattle.std.specs.Prelude.{All, Result}
use Rattle.std.specs.Cmp.Lexicographic.{pointwise}
use Rattle.std.proofs.lemmas.List.{get_or_default}
use Rattle.meaning.specs.declared.answer.Group.{Group}
use Rattle.meaning.specs.declared.answer.Statistics.{Statistics}
use Rattle.meaning.specs.declared.plan.Aggregate.{Aggregate}
use Rattle.meaning.specs.declared.plan.AggregateKind.{AggregateKind}
use Rattle.meaning.specs.declared.plan.Plan.{Plan}
use Rattle.meaning.specs.declared.value.Value.{Value}
use Rattle.meaning.specs.Aggregate.{no_statistics, value}
use Rattle.meaning.specs.Fitting.{is_key_of, is_state_of}
use Rattle.meaning.proofs.Tests.{second_of}
use Rattle.last_step.specs.Batches.{HasAt, aggregate_in}
use Rattle.last_step.specs.Fitting.{AreGroupsOf}
use Rattle.last_step.proofs.GroupColumns.{pushed}

-- the group that is read where there is none
abbrev pub no_group : Group
no_group = record { key = []; rows = 0; states = [] }

-- what is read at any default is read at itself
pub at_itself : {X : Type 0} (xs : List X) (k : ℕ) (d : X) → k < length xs → get_or xs k d ≡ get_or xs k (get_or xs k d)
at_itself xs k d below = get_or_default xs k d (get_or xs k d) below

pub not_both : {X : Type 0} (r : Result X ℕ) (code : ℕ) (x : X) → r ≡ Err code → r ≡ Ok x → ⊥
not_both r code x bad good = let no : Err code ≡ Ok x = sym bad ∙ good in cc no

as_long : (aggs : List Aggregate) (states : List Statistics) → pointwise is_state_of aggs states ≡ true → length states ≡ length aggs
as_long [] [] e = refl
as_long [] (s ∷ states) e = absurd cc
as_long (a ∷ aggs) [] e = absurd cc
as_long (a ∷ aggs) (s ∷ states) e = ap suc (as_long aggs states (second_of (is_state_of a s) (pointwise is_state_of aggs states) e))

-- a group has a state for each aggregate
pub widths : (plan : Plan) (groups : List Group) (k : ℕ) → AreGroupsOf plan groups → k < length groups → (d : Group) → length (get_or groups k d).states ≡ length plan.aggs
widths plan groups k are below d =
    let g = get_or groups k d in
    as_long plan.aggs g.states (second_of (is_key_of plan g.key) (pointwise is_state_of plan.aggs g.states) (are.shaped k d below))

-- a value more, read off the next group
pub one_more : {A C : Type 0} (f : A → C) (h : Group → C) (ys more : List A) (y : A) (groups : List Group) (k : ℕ) → k < length groups → f y ≡ h (get_or groups k no_group) → more ≡ ys ++ y ∷ []
    → map f ys ≡ map h (take k groups) → map f more ≡ map h (take (k + 1) groups)
one_more f h ys more y groups k below same is so_far = pushed f h ys more y groups k (get_or groups k no_group) below (at_itself groups k no_group below) same is so_far

module _ (plan : Plan) (kind : AggregateKind) (aggregate : ℕ) (groups : List Group) (k : ℕ) (have : All (HasAt plan kind aggregate) groups) (below : k < length groups) where
  pub within : (d : Group) → aggregate < length (get_or groups k d).states
  within d = (have k d below).within

  pub value_there : (d : Group) → value kind (get_or (get_or groups k d).states aggregate no_statistics) ≡ Ok (aggregate_in plan aggregate (get_or groups k d))
  value_there d = (have k d below).gives no_statistics

  pub sound : (d : Group) → (v : Value) × (value kind (get_or (get_or groups k d).states aggregate no_statistics) ≡ Ok v)
  sound d = (aggregate_in plan aggregate (get_or groups k d), value_there d)

  -- what is given is the value of the aggregate
  pub same_value : (d : Group) (v : Value) → value kind (get_or (get_or groups k d).states aggregate no_statistics) ≡ Ok v → v ≡ aggregate_in plan aggregate (get_or groups k d)
  same_value d v gives = let same : Ok v ≡ Ok (aggregate_in plan aggregate (get_or groups k d)) = sym gives ∙ value_there d in cc same
