-- Integers' keys, of which some have their group indexes.
use Rattle.std.specs.Prelude.{◌≡◌, ◌≢◌, ℕ, ℤ, ◌+◌, ◌-◌, ◌^◌, ◌<◌, ◌≤◌, pos, List, [], ◌∷◌, length, take, get_or, slice_set}
use Rattle.std.proofs.Common.{refl, sym, ap, subst, ◌∙◌, arith, length-set, get_or-set_other}
use Rattle.std.proofs.lemmas.List.{take_all, take_more_set}
use Rattle.meaning.specs.declared.value.Value.TheVariants.{Int}
use Rattle.meaning.specs.Order.{Row}
use Rattle.group_keys.specs.Keys.{IsReturned}
use Rattle.group_keys.specs.Rows.{int_keys}
use Rattle.group_keys.proofs.KeyRows.{int_key_at, int_keys_long}
use Rattle.group_index.specs.Found.{AreFound, IsFound}
use Rattle.group_index.proofs.Finding.{found_more, none_found}

-- the first k have their group indexes, and what was found for the others is so
pub record AreSettled (ints : List ℤ) (old : List Row) (k : ℕ) (group_indexes : List ℕ) (now : List Row) : Type 0 where
  pub long : length group_indexes ≡ length ints
  pub found : AreFound (take k (int_keys ints)) old (take k group_indexes) now
  pub ahead : (j : ℕ) → k ≤ j → j < length ints → IsReturned now ints group_indexes j

pub none_settled : (ints : List ℤ) (old now : List Row) (group_indexes : List ℕ) → now ≡ old → length group_indexes ≡ length ints → ((j : ℕ) → j < length ints → IsReturned old ints group_indexes j) → AreSettled ints old 0 group_indexes now
none_settled ints old now group_indexes same long returned = subst (λ (keys : List Row). AreSettled ints old 0 group_indexes keys) (sym same) (record {
  long = long;
  found = none_found (int_keys ints) old;
  ahead = λ j past within. returned j within;
})

pub one_settled : (ints : List ℤ) (old : List Row) (k : ℕ) (group_indexes : List ℕ) (now new : List Row) (p : ℕ) → k < length ints
    → IsFound (Int (get_or ints k (pos 0)) ∷ []) now p new → AreSettled ints old k group_indexes now → AreSettled ints old (k + 1) (slice_set group_indexes k p) new
one_settled ints old k group_indexes now new p here found so_far =
    let within : k < length group_indexes = subst (λ (m : ℕ). k < m) (sym so_far.long) here in
    record {
      long = length-set group_indexes k p ∙ so_far.long;
      found = subst (λ (ps : List ℕ). AreFound (take (k + 1) (int_keys ints)) old ps new) (sym (take_more_set group_indexes k p within))
          (found_more (int_keys ints) k old (take k group_indexes) now new p (subst (λ (m : ℕ). k < m) (sym (int_keys_long ints)) here) so_far.found
          (subst (λ (key : Row). IsFound key now p new) (int_key_at ints k (pos 0) here) found));
      ahead = λ j past below some.
          let read : get_or (slice_set group_indexes k p) j 0 ≡ get_or group_indexes j 0 = get_or-set_other group_indexes k j p 0 (λ e. absurd (omega (arith, past, e))) in
          let returned = so_far.ahead j (omega (arith, past)) below (λ e. some (read ∙ e)) in
          let kept = found.kept (get_or group_indexes j 0) returned.0 in
          (subst (λ (q : ℕ). q < length new) (sym read) kept.0, ap (λ (q : ℕ). get_or new q []) read ∙ kept.1 ∙ returned.1);
    }

pub all_settled : (ints : List ℤ) (old : List Row) (k : ℕ) (group_indexes : List ℕ) (now : List Row) → length ints ≤ k → AreSettled ints old k group_indexes now → AreFound (int_keys ints) old group_indexes now
all_settled ints old k group_indexes now past so_far =
    subst (λ (ps : List ℕ). AreFound (int_keys ints) old ps now) (take_all k group_indexes (subst (λ (m : ℕ). m ≤ k) (sym so_far.long) past))
    (subst (λ (keys : List Row). AreFound keys old (take k group_indexes) now) (take_all k (int_keys ints) (subst (λ (m : ℕ). m ≤ k) (sym (int_keys_long ints)) past)) so_far.found)

-- no key is new where all group indexes were found
pub all_known : (ints : List ℤ) (keys now : List Row) (group_indexes : List ℕ) → now ≡ keys → length group_indexes ≡ length ints → ((k : ℕ) → k < length ints → IsReturned keys ints group_indexes k)
    → ((k : ℕ) → k < length group_indexes → get_or group_indexes k 0 ≢ 2 ^ 32 - 1) → AreFound (int_keys ints) keys group_indexes now
all_known ints keys now group_indexes same long returned known = subst (λ (ks : List Row). AreFound (int_keys ints) keys group_indexes ks) (sym same) (record {
  long = long ∙ sym (int_keys_long ints);
  within = λ k l. (here k l).0;
  are = λ k l. let below : k < length ints = subst (λ (n : ℕ). k < n) (int_keys_long ints) l in (here k l).1 ∙ int_key_at ints k (pos 0) below;
  kept = λ j l. (l, refl);
  added = λ j past below. absurd (omega (arith, past, below));
})
  where
    here : (k : ℕ) → k < length (int_keys ints) → (get_or group_indexes k 0 < length keys) × (get_or keys (get_or group_indexes k 0) [] ≡ Int (get_or ints k (pos 0)) ∷ [])
    here k l =
        let below : k < length ints = subst (λ (n : ℕ). k < n) (int_keys_long ints) l in
        returned k below (known k (subst (λ (n : ℕ). k < n) (sym long) below))
