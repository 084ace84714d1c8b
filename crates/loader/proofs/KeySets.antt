-- A set of keys, and a key more.
use Rattle.std.proofs.Common.{◌≡◌, Bool, true, false, cond, not, ◌||◌, List, [], ◌∷◌, ◌++◌, refl, sym, ap, ◌∙◌}
use Rattle.std.specs.List.{list_any}
use Rattle.std.specs.Cmp.{eq_by_cmp_equiv}
use Rattle.std.specs.BTreeSet.{BTreeSet, contains}
use Rattle.std.proofs.lemmas.List.Folds.{list_any-append}
use Rattle.std.specs.declared.cmp.Ordering.{Ordering}
use Rattle.std.specs.declared.cmp.Ordering.TheVariants.{Less, Equal, Greater}
use Rattle.std.specs.Ordering.{int_cmp, is_eq, ordering_then}
use Rattle.meaning.specs.declared.value.Value.{Value}
use Rattle.meaning.specs.declared.value.Value.TheVariants.{Null, Int, Text}
use Rattle.meaning.specs.contracts.value.ValueOrd.TheImpl as order
use Rattle.meaning.specs.Order.{value_cmp, value_total, is_null, same_value}
use Rattle.meaning.specs.Records.{is_repeated}
use Rattle.loader.specs.Keys.{HoldsKeys}

first_alone : (o : Ordering) → o ≡ ordering_then o Equal
first_alone Less = refl
first_alone Equal = refl
first_alone Greater = refl

-- the order that is derived from the source is the whole order
abbrev pub derived : Value → Value → Ordering
derived = (order.ghosts).cmp

pub derived_is : (a b : Value) → derived a b ≡ value_cmp a b
derived_is Null Null = refl
derived_is Null (Int n) = refl
derived_is Null (Text t) = refl
derived_is (Int m) Null = refl
derived_is (Int m) (Int n) = first_alone (int_cmp m n)
derived_is (Int m) (Text t) = refl
derived_is (Text s) Null = refl
derived_is (Text s) (Int n) = refl
derived_is (Text s) (Text t) = refl

any_alike : (p q : Value → Bool) → ((x : Value) → p x ≡ q x) → (xs : List Value) → list_any p xs ≡ list_any q xs
any_alike p q same [] = refl
any_alike p q same (x ∷ xs) = rw (same x, any_alike p q same xs) refl

pub contains_is : (set : BTreeSet Value) (key : Value) → contains derived set key ≡ contains value_cmp set key
contains_is set key = any_alike (λ x. is_eq (derived key x)) (λ x. is_eq (value_cmp key x)) (λ x. ap is_eq (derived_is key x)) set.keys

same_comm : (a b : Value) → same_value a b ≡ same_value b a
same_comm a b = (eq_by_cmp_equiv value_total).symm a b

or_swapped : (a b : Bool) → cond a true b ≡ (b || (a || false))
or_swapped true true = refl
or_swapped true false = refl
or_swapped false true = refl
or_swapped false false = refl

new_key : (b : Bool) (v : Value) (seen : List Value) → is_null v ≡ b → b ≡ false → list_any (same_value v) seen ≡ is_repeated v seen
new_key b v seen e f = rw (e ∙ f) refl

module _ (old new : BTreeSet Value) (seen : List Value) (key : Value) (present : is_null key ≡ false) (holds : HoldsKeys old seen) where
  pub is_new : (added : Bool) → added ≡ not (contains derived old key) → added ≡ not (is_repeated key seen)
  is_new added e = e ∙ ap not (contains_is old key ∙ holds key present ∙ new_key (is_null key) key seen refl present)

  pub holds_more : ((q : Value) → contains derived new q ≡ cond (is_eq (derived key q)) true (contains derived old q)) → HoldsKeys new (seen ++ key ∷ [])
  holds_more updates q not_null =
      sym (contains_is new q) ∙ updates q ∙ ap (λ o. cond (is_eq o) true (contains derived old q)) (derived_is key q)
      ∙ ap (λ b. cond (same_value key q) true b) (contains_is old q ∙ holds q not_null) ∙ ap (λ b. cond b true (list_any (same_value q) seen)) (same_comm key q)
      ∙ or_swapped (same_value q key) (list_any (same_value q) seen) ∙ sym (list_any-append (same_value q) seen (key ∷ []))
