-- Integers with their group indexes.
use Rattle.std.specs.Prelude.{◌≡◌, ℕ, zero, suc, ◌+◌, ◌<◌, List, [], ◌∷◌, ◌++◌, length, map, get_or, All}
use Rattle.std.specs.List.{range_with_len}
use Rattle.std.proofs.Common.{refl, sym, ap, subst, ◌∙◌, arith}
use Rattle.std.proofs.lemmas.List.{map-id, map_push}
use Rattle.std.proofs.lemmas.List.FromFn.{map-range_with_len_more}
use Rattle.meaning.specs.Order.{Row}
use Rattle.group_by.specs.declared.int_order.IntKey.{IntKey}
use Rattle.group_by.specs.KeyOrder.{key_in, AreIndexed}

all_push : {X : Type 0} (P : X → Type 0) (xs : List X) (x : X) → All P xs → P x → All P (xs ++ x ∷ [])
all_push P [] x all p zero d l = p
all_push P [] x all p (suc j) d l = absurd (omega (arith, l))
all_push P (y ∷ ys) x all p zero d l = all 0 d (omega arith)
all_push P (y ∷ ys) x all p (suc j) d l = all_push P ys x (λ i e m. all (suc i) e (omega (arith, m))) p j d (omega (arith, l))

pub none_indexed : (keys : List Row) → AreIndexed keys 0 []
none_indexed keys = record { indexes = refl; right = λ j d l. absurd (omega (arith, l)) }

pub counted_more : (n : ℕ) → range_with_len 0 (n + 1) ≡ range_with_len 0 n ++ n ∷ []
counted_more n = sym (map-id (range_with_len 0 (n + 1))) ∙ map-range_with_len_more (λ (i : ℕ). i) 0 n n (omega arith) ∙ ap (λ (is : List ℕ). is ++ n ∷ []) (map-id (range_with_len 0 n))

module _ (keys : List Row) (k : ℕ) (p : IntKey) (is_index : p.group_index ≡ k) (is_key : key_in p ≡ get_or keys k []) where
  pub one_indexed : (now : List IntKey) → AreIndexed keys k now → AreIndexed keys (k + 1) (now ++ p ∷ [])
  one_indexed now so_far = record {
    indexes =
        map_push (λ (q : IntKey). q.group_index) now p ∙ (λ i. so_far.indexes i ++ is_index i ∷ []) ∙ sym (counted_more k);
    right = all_push (λ (q : IntKey). key_in q ≡ get_or keys q.group_index []) now p so_far.right (is_key ∙ ap (λ (n : ℕ). get_or keys n []) (sym is_index));
  }
