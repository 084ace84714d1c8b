-- Keys of which some have their group indexes.
use Rattle.std.specs.Prelude.{◌≡◌, ◌≢◌, ℕ, ◌+◌, ◌-◌, ◌^◌, ◌<◌, ◌≤◌, List, [], length, take, get_or, slice_set}
use Rattle.std.proofs.Common.{refl, sym, ap, subst, ◌∙◌, arith, length-set, get_or-set_other}
use Rattle.std.proofs.lemmas.List.{take_all, take_more_set}
use Rattle.meaning.specs.Order.{Row}
use Rattle.group_index.specs.Keys.{IsLed}
use Rattle.group_index.specs.Found.{AreFound, IsFound}
use Rattle.group_index.proofs.Finding.{found_more, none_found}

-- the first k have their group indexes, and what was found for the others is so
pub record AreLed (found : List Row) (old : List Row) (k : ℕ) (group_indexes : List ℕ) (now : List Row) : Type 0 where
  pub long : length group_indexes ≡ length found
  pub done : AreFound (take k found) old (take k group_indexes) now
  pub ahead : (j : ℕ) → k ≤ j → j < length found → IsLed now found group_indexes j

pub none_led : (found old now : List Row) (group_indexes : List ℕ) → now ≡ old → length group_indexes ≡ length found → ((j : ℕ) → j < length found → IsLed old found group_indexes j) → AreLed found old 0 group_indexes now
none_led found old now group_indexes same long led = subst (λ (keys : List Row). AreLed found old 0 group_indexes keys) (sym same) (record {
  long = long;
  done = none_found found old;
  ahead = λ j past within. led j within;
})

pub one_led : (found old : List Row) (k : ℕ) (group_indexes : List ℕ) (now new : List Row) (p : ℕ) → k < length found
    → IsFound (get_or found k []) now p new → AreLed found old k group_indexes now → AreLed found old (k + 1) (slice_set group_indexes k p) new
one_led found old k group_indexes now new p here is so_far =
    let within : k < length group_indexes = subst (λ (m : ℕ). k < m) (sym so_far.long) here in
    record {
      long = length-set group_indexes k p ∙ so_far.long;
      done = subst (λ (ps : List ℕ). AreFound (take (k + 1) found) old ps new) (sym (take_more_set group_indexes k p within))
          (found_more found k old (take k group_indexes) now new p here so_far.done is);
      ahead = λ j past below some.
          let same : get_or (slice_set group_indexes k p) j 0 ≡ get_or group_indexes j 0 = get_or-set_other group_indexes k j p 0 (λ e. absurd (omega (arith, past, e))) in
          let led = so_far.ahead j (omega (arith, past)) below (λ e. some (same ∙ e)) in
          let kept = is.kept (get_or group_indexes j 0) led.0 in
          (subst (λ (q : ℕ). q < length new) (sym same) kept.0, ap (λ (q : ℕ). get_or new q []) same ∙ kept.1 ∙ led.1);
    }

pub all_led : (found old : List Row) (k : ℕ) (group_indexes : List ℕ) (now : List Row) → length found ≤ k → AreLed found old k group_indexes now → AreFound found old group_indexes now
all_led found old k group_indexes now past so_far =
    subst (λ (ps : List ℕ). AreFound found old ps now) (take_all k group_indexes (subst (λ (m : ℕ). m ≤ k) (sym so_far.long) past))
    (subst (λ (keys : List Row). AreFound keys old (take k group_indexes) now) (take_all k found past) so_far.done)

-- no key is new where all group indexes were found
pub all_returned : (found keys now : List Row) (group_indexes : List ℕ) → now ≡ keys → length group_indexes ≡ length found → ((k : ℕ) → k < length found → IsLed keys found group_indexes k)
    → ((k : ℕ) → k < length group_indexes → get_or group_indexes k 0 ≢ 2 ^ 32 - 1) → AreFound found keys group_indexes now
all_returned found keys now group_indexes same long led known = subst (λ (ks : List Row). AreFound found keys group_indexes ks) (sym same) (record {
  long = long;
  within = λ k l. (here k l).0;
  are = λ k l. (here k l).1;
  kept = λ j l. (l, refl);
  added = λ j past below. absurd (omega (arith, past, below));
})
  where
    here : (k : ℕ) → k < length found → (get_or group_indexes k 0 < length keys) × (get_or keys (get_or group_indexes k 0) [] ≡ get_or found k [])
    here k l = led k l (known k (subst (λ (n : ℕ). k < n) (sym long) l))
