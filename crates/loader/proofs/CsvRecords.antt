-- The records of a text are those that a reader gives one after the other, up to where there is no more.
use Rattle.std.proofs.Common.{◌≡◌, ℕ, zero, suc, ◌+◌, ◌≤◌, ◌⊎◌, inl, inr, Bool, true, false, List, [], ◌∷◌, ◌++◌, length, Option, Some, None, refl, sym, ap, arith}
use Rattle.std.specs.Prelude.{if◌then◌else◌}
use Rattle.csv.specs.declared.parser.Config.{Config}
use Rattle.csv.specs.declared.parser.State.{State}
use Rattle.csv.specs.declared.parser.State.TheVariants as st
use Rattle.csv.specs.Machine.{Read, next_record, step, is_end, fields_after, field_after, ends_at_end}
use Rattle.csv.specs.Reading.{AreRecords, Reached, records, records_from, records_next}

-- which of two it was that a test chose
chosen : (b : Bool) (x p : Read) (next : Option Read) → (if b then Some x else next) ≡ Some p → (x ≡ p) ⊎ (next ≡ Some p)
chosen true x p next e = inl (cc e)
chosen false x p next e = inr e

same_rest : (x p : Read) → x ≡ p → length p.2 ≡ length x.2
same_rest x p e = ap (λ (q : Read). length q.2) (sym e)

module _ (cfg : Config) where
  -- at the end of a text a record leaves nothing
  ended : (s : State) (fields : List (List ℕ)) (field : List ℕ) (p : Read) → next_record cfg s fields field [] ≡ Some p → (p.1 ≡ st.StartRecord) × (p.2 ≡ [])
  unfolding next_record
  ended s fields field p e = elim (chosen (ends_at_end s) (fields ++ (field ∷ []), st.StartRecord, []) p None e) [
    | inl same ↦ (sym (ap (λ (q : Read). q.1) same), sym (ap (λ (q : Read). q.2) same))
    | inr none ↦ cc none
  ]

  stepped : (c : ℕ) (xs : List ℕ) (s : State) (fields : List (List ℕ)) (field : List ℕ) (p : Read) → next_record cfg s fields field (c ∷ xs) ≡ Some p
      → (length p.2 ≡ length xs) ⊎ (next_record cfg (step cfg s c).0 (fields_after (step cfg s c).1 fields field) (field_after (step cfg s c).1 c field) xs ≡ Some p)
  unfolding next_record
  stepped c xs s fields field p e = elim (chosen (is_end (step cfg s c).1) (fields_after (step cfg s c).1 fields field, (step cfg s c).0, xs) p _ e) [
    | inl same ↦ inl (same_rest _ p same)
    | inr more ↦ inr more
  ]

  -- behind a byte a record leaves fewer bytes
  shorter : (xs : List ℕ) (c : ℕ) (s : State) (fields : List (List ℕ)) (field : List ℕ) (p : Read) → next_record cfg s fields field (c ∷ xs) ≡ Some p → length p.2 ≤ length xs
  shorter [] c s fields field p e = elim (stepped c [] s fields field p e) [
    | inl all ↦ omega arith
    | inr more ↦ let none : length p.2 ≡ 0 = ap length (ended _ _ _ p more).1 in omega arith
  ]
  shorter (d ∷ xs) c s fields field p e = elim (stepped c (d ∷ xs) s fields field p e) [
    | inl all ↦ omega arith
    | inr more ↦ let fewer = shorter xs d _ _ _ p more in omega (arith, fewer)
  ]

  -- nothing is left behind the end
  none_left : (n : ℕ) → AreRecords cfg st.StartRecord [] (records_from cfg n st.StartRecord [])
  unfolding Reached records_from next_record
  none_left zero = (st.StartRecord, [], (refl, refl), refl)
  none_left (suc n) = (st.StartRecord, [], (refl, refl), refl)

  -- the records behind one that was read
  behind : (n : ℕ) (s : State) (xs : List ℕ) (p : Read) → ((t : State) (ys : List ℕ) → length ys + 1 ≤ n → AreRecords cfg t ys (records_from cfg n t ys))
      → length xs ≤ n → next_record cfg s [] [] xs ≡ Some p → AreRecords cfg p.1 p.2 (records_from cfg n p.1 p.2)
  behind n s [] p later enough e =
      let (start, none) = ended s [] [] p e in
      rw (start, none) (none_left n)
  behind n s (c ∷ xs) p later enough e =
      let fewer = shorter xs c s [] [] p e in
      later p.1 p.2 (omega (arith, fewer))

  -- all records, by what the next one is
  by_next : (n : ℕ) (s : State) (xs : List ℕ) → ((t : State) (ys : List ℕ) → length ys + 1 ≤ n → AreRecords cfg t ys (records_from cfg n t ys)) → length xs ≤ n
      → (o : Option Read) → next_record cfg s [] [] xs ≡ o → AreRecords cfg s xs (records_next (records_from cfg n) o)
  unfolding Reached
  by_next n s xs later enough None e = (s, xs, (refl, refl), e)
  by_next n s xs later enough (Some p) e =
      let (s2, ys, reached, end) = behind n s xs p later enough e in
      (s2, ys, (p, e, refl, reached), end)

  -- with a step for each byte, and one more, all records are found
  pub all_from : (n : ℕ) (s : State) (xs : List ℕ) → length xs + 1 ≤ n → AreRecords cfg s xs (records_from cfg n s xs)
  unfolding records_from
  all_from zero s xs enough = absurd (omega arith)
  all_from (suc n) s xs enough = by_next n s xs (λ t ys le. all_from n t ys le) (omega arith) (next_record cfg s [] [] xs) refl

  pub all_records : (xs : List ℕ) → AreRecords cfg st.StartRecord xs (records cfg xs)
  all_records xs = all_from (length xs + 1) st.StartRecord xs (omega arith)
