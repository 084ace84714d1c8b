-- Integers that are close to each other, by how far they are above a least one.
use Rattle.std.specs.Prelude.{◌≡◌, ◌≢◌, ℕ, ℤ, ◌+◌, ◌-◌, ◌^◌, ◌<◌, ◌-ℤ◌, ◌+ℤ◌, ◌≤ℤ◌, pos, unsigned_abs, List, [], ◌∷◌, ◌++◌, length, take, drop, replicate, get_or, slice_set}
use Rattle.std.proofs.Common.{sym, ap, subst, ◌∙◌, arith, inl, inr, length-set, append-nil, get_or-set_same, get_or-set_other}
use Rattle.std.proofs.lemmas.Bool.{cases_eq, cases_lt}
use Rattle.std.proofs.lemmas.Int.{ints}
use Rattle.std.proofs.lemmas.List.{get_or_append_left, get_or_default, get_or_past, get_or-replicate, length-replicate, length_push, drop_all, get_or_push, take_all}
use Rattle.meaning.specs.declared.value.Value.TheVariants.{Int}
use Rattle.meaning.specs.Order.{Row}
use Rattle.group_keys.specs.Keys.{LeadsTo}

distance_back : (least n : ℤ) → least ≤ℤ n → least +ℤ pos (unsigned_abs (n -ℤ least)) ≡ n
distance_back least n low = omega (arith, ints)

pub leads_none : (least : ℤ) (n : ℕ) (keys : List Row) → LeadsTo least (replicate n (2 ^ 32 - 1)) keys
leads_none least n keys at within some = absurd (some (get_or-replicate n at (2 ^ 32 - 1) 0 (subst (λ (m : ℕ). at < m) (length-replicate n (2 ^ 32 - 1)) within)))

pub leads_empty : (least : ℤ) (keys : List Row) → LeadsTo least [] keys
leads_empty least keys at within some = absurd (omega (arith, within))

pub leads_more : (least : ℤ) (entries : List ℕ) (keys : List Row) (key : Row) → LeadsTo least entries keys → LeadsTo least entries (keys ++ key ∷ [])
leads_more least entries keys key leads at within some =
    let old = leads at within some in
    let long = length_push keys key in
    (omega (arith, old.0, long), get_or_append_left keys (key ∷ []) [] (get_or entries at 0) old.0 ∙ old.1)

module _ (least : ℤ) (entries : List ℕ) (keys : List Row) (leads : LeadsTo least entries keys) (int : ℤ) (low : least ≤ℤ int) where
  abbrev distance : ℕ
  distance = unsigned_abs (int -ℤ least)

  -- the entry of an integer leads to its key
  pub led_to : (group_index : ℕ) → group_index ≡ get_or entries distance (2 ^ 32 - 1) → group_index ≢ 2 ^ 32 - 1 → (group_index < length keys) × (get_or keys group_index [] ≡ Int int ∷ [])
  led_to group_index is some = elim (cases_lt distance (length entries)) [
    | inl within ↦ (
        let at : group_index ≡ get_or entries distance 0 = is ∙ get_or_default entries distance (2 ^ 32 - 1) 0 within in
        let old = leads distance within (λ e. some (at ∙ e)) in
        (subst (λ (p : ℕ). p < length keys) (sym at) old.0, ap (λ (p : ℕ). get_or keys p []) at ∙ old.1 ∙ ap (λ (z : ℤ). Int z ∷ []) (distance_back least int low)))
    | inr past ↦ absurd (some (is ∙ get_or_past entries distance (2 ^ 32 - 1) past))
  ]

  pub leads_set : (group_index : ℕ) → group_index < length keys → get_or keys group_index [] ≡ Int int ∷ [] → LeadsTo least (slice_set entries distance group_index) keys
  leads_set group_index inside is at within some =
      let within_old : at < length entries = subst (λ (m : ℕ). at < m) (length-set entries distance group_index) within in
      elim (cases_eq at distance) [
        | inl here ↦ (
            let read : get_or (slice_set entries distance group_index) at 0 ≡ group_index =
            ap (λ (j : ℕ). get_or (slice_set entries distance group_index) j 0) here ∙ get_or-set_same entries distance group_index 0 (subst (λ (j : ℕ). j < length entries) here within_old) in
            let back : int ≡ least +ℤ pos at = sym (ap (λ (j : ℕ). least +ℤ pos j) here ∙ distance_back least int low) in
            (subst (λ (p : ℕ). p < length keys) (sym read) inside, ap (λ (p : ℕ). get_or keys p []) read ∙ is ∙ ap (λ (z : ℤ). Int z ∷ []) back))
        | inr other ↦ (
            let read : get_or (slice_set entries distance group_index) at 0 ≡ get_or entries at 0 = get_or-set_other entries distance at group_index 0 other in
            let old = leads at within_old (λ e. some (read ∙ e)) in
            (subst (λ (p : ℕ). p < length keys) (sym read) old.0, ap (λ (p : ℕ). get_or keys p []) read ∙ old.1))
      ]

-- entries that were lent and come back, with the group index of a key that was put behind the last
pub entered : (least : ℤ) (items now : List ℕ) (len : ℕ) (old keys : List Row) (int : ℤ) (group_index : ℕ) → keys ≡ old ++ (Int int ∷ []) ∷ [] → group_index ≡ length old
    → length items ≡ len → length now ≡ len → (group_index < length keys → get_or keys group_index [] ≡ Int int ∷ [] → LeadsTo least now keys)
    → LeadsTo least (take len (now ++ drop (length now) items)) keys
entered least items now len old keys int group_index is at full same leads =
    let long : length keys ≡ length old + 1 = ap (λ (ks : List Row). length ks) is ∙ length_push old (Int int ∷ []) in
    let there : get_or keys group_index [] ≡ Int int ∷ [] = ap (λ (ks : List Row). get_or ks group_index []) is ∙ get_or_push old (Int int ∷ []) [] group_index (sym at) in
    let back : now ≡ take len (now ++ drop (length now) items) =
    sym (ap (λ (xs : List ℕ). take len (now ++ xs)) (drop_all (length now) items (omega (arith, full, same))) ∙ ap (take len) (append-nil now) ∙ take_all len now (omega (arith, same))) in
    subst (λ (es : List ℕ). LeadsTo least es keys) back (leads (omega (arith, at, long)) there)
