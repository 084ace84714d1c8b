-- A column of no entry behind others.
use Rattle.std.specs.Prelude.{◌≡◌, ℕ, zero, suc, ◌<◌, List, [], ◌∷◌, ◌++◌, length, get_or}
use Rattle.std.proofs.Common.{sym, subst, ◌∙◌, arith}
use Rattle.std.proofs.lemmas.List.{map-append}
use Rattle.meaning.specs.declared.plan.AggregateKind.{AggregateKind}
use Rattle.meaning.specs.Aggregate.{no_statistics}
use Rattle.accumulators.specs.Columns.{ColumnSpec, no_column}
use Rattle.group_by.specs.GroupIndexes.{state_in, AreFresh}

module _ {X : Type 0} (P : X → Type 0) where
  -- what holds of each element, and of one behind them
  within_push : (xs : List X) (x d : X) → ((c : ℕ) → c < length xs → P (get_or xs c d)) → P x → (c : ℕ) → c < length (xs ++ x ∷ []) → P (get_or (xs ++ x ∷ []) c d)
  within_push [] x d all here zero below = here
  within_push [] x d all here (suc c) below = absurd (omega (arith, below))
  within_push (y ∷ ys) x d all here zero below = all 0 (omega arith)
  within_push (y ∷ ys) x d all here (suc c) below = within_push ys x d (λ k l. all (suc k) (omega (arith, l))) here c (omega (arith, below))

  -- the same wherever it is read
  anywhere_push : (xs : List X) (x d : X) → ((c : ℕ) → P (get_or xs c d)) → P x → (c : ℕ) → P (get_or (xs ++ x ∷ []) c d)
  anywhere_push [] x d all here zero = here
  anywhere_push [] x d all here (suc c) = all c
  anywhere_push (y ∷ ys) x d all here zero = all 0
  anywhere_push (y ∷ ys) x d all here (suc c) = anywhere_push ys x d (λ k. all (suc k)) here c

pub fresh_more : (n : ℕ) (kinds : List AggregateKind) (kind : AggregateKind) (old new : List ColumnSpec) (column : ColumnSpec) → AreFresh n kinds old → new ≡ old ++ column ∷ [] → column.kind ≡ kind
    → length column.states ≡ n → ((group_index : ℕ) → state_in column group_index ≡ no_statistics) → AreFresh n (kinds ++ kind ∷ []) new
fresh_more n kinds kind old new column fresh is of long none =
    subst (AreFresh n (kinds ++ kind ∷ [])) (sym is) (record {
      kinds = map-append (λ (c : ColumnSpec). c.kind) old (column ∷ []) ∙ (λ i. fresh.kinds i ++ of i ∷ []);
      heights = within_push (λ (c : ColumnSpec). length c.states ≡ n) old column no_column fresh.heights long;
      none = anywhere_push (λ (c : ColumnSpec). (group_index : ℕ) → state_in c group_index ≡ no_statistics) old column no_column fresh.none none;
    })
