-- Columns that take a key, one after the other.
use Rattle.std.specs.Prelude.{◌≡◌, ℕ, ◌+◌, ◌<◌, ◌≤◌, List, length, get_or, slice_set}
use Rattle.std.proofs.Common.{sym, ap, subst, ◌∙◌, arith, inl, inr, length-set, get_or-set_same, get_or-set_other}
use Rattle.std.proofs.lemmas.Bool.{cases_eq}
use Rattle.meaning.specs.declared.value.Value.TheVariants.{Null}
use Rattle.meaning.specs.Order.{Row}
use Rattle.columns.specs.Column.{ColumnSpec, with_value}
use Rattle.key_columns.specs.Keys.{no_column}

-- the columns up to one took their values, and the others stand
pub record AreDone (key : Row) (k : ℕ) (old now : List ColumnSpec) : Type 0 where
  pub long : length now ≡ length old
  pub done : (c : ℕ) → c < k → c < length old → get_or now c no_column ≡ with_value (get_or old c no_column) (get_or key c Null)
  pub left : (c : ℕ) → k ≤ c → get_or now c no_column ≡ get_or old c no_column

pub done_more : (key : Row) (k : ℕ) (old now : List ColumnSpec) (new : ColumnSpec) → k < length now
    → new ≡ with_value (get_or now k no_column) (get_or key k Null) → AreDone key k old now → AreDone key (k + 1) old (slice_set now k new)
done_more key k old now new here is so_far = record {
  long = length-set now k new ∙ so_far.long;
  done = λ c l in_old. elim (cases_eq c k) [
    | inl at ↦ (
        let at_k : get_or (slice_set now k new) k no_column ≡ with_value (get_or old k no_column) (get_or key k Null) =
        get_or-set_same now k new no_column here ∙ is ∙ ap (λ (c : ColumnSpec). with_value c (get_or key k Null)) (so_far.left k (omega arith)) in
        subst (λ (m : ℕ). get_or (slice_set now k new) m no_column ≡ with_value (get_or old m no_column) (get_or key m Null)) (sym at) at_k)
    | inr ne ↦ get_or-set_other now k c new no_column ne ∙ so_far.done c (omega (arith, l, ne)) in_old
  ];
  left = λ c past. let ne : c ≡ k → ⊥ = λ e. omega (arith, past, e) in get_or-set_other now k c new no_column ne ∙ so_far.left c (omega (arith, past));
}
