-- Records that are passed over.
use Rattle.std.proofs.Common.{◌≡◌, ◌∙◌, ◌+◌, ◌≤◌, ℕ, zero, suc, Bool, true, false, List, [], ◌∷◌, drop, length, Option, Some, None, refl, sym, ap, subst, arith, add-one}
use Rattle.std.specs.Prelude.{if◌then◌else◌, slice_get}
use Rattle.std.proofs.lemmas.Bool.{true≢false}
use Rattle.std.proofs.lemmas.Option.{slice_get_past}
use Rattle.csv.specs.declared.reader.Reader.{Reader}
use Rattle.meaning.specs.Records.{Record}
use Rattle.loader.specs.Source.{IsLeft, TakesNext}
use Rattle.csv_lines.specs.Taking.{Skips, TakesAt}

-- none is left behind so many
dropped : {A : Type 0} (k : ℕ) (xs : List A) → drop k xs ≡ [] → length xs ≤ k
dropped k [] e = omega arith
dropped zero (x ∷ xs) e = absurd cc e
dropped (suc k) (x ∷ xs) e = let more = dropped k xs e in omega (arith, more)

-- the next is left behind so many, and the others behind one more
at_drop : {A : Type 0} (k : ℕ) (xs : List A) (y : A) (ys : List A) → drop k xs ≡ y ∷ ys → slice_get xs k ≡ Some y
at_drop zero [] y ys e = absurd cc e
at_drop zero (x ∷ xs) y ys e = let same : x ≡ y = cc e in ap (λ z. Some z) same
at_drop (suc k) [] y ys e = absurd cc e
at_drop (suc k) (x ∷ xs) y ys e = at_drop k xs y ys e

behind_drop : {A : Type 0} (k : ℕ) (xs : List A) (y : A) (ys : List A) → drop k xs ≡ y ∷ ys → ys ≡ drop (suc k) xs
behind_drop zero [] y ys e = absurd cc e
behind_drop zero (x ∷ xs) y ys e = cc e
behind_drop (suc k) [] y ys e = absurd cc e
behind_drop (suc k) (x ∷ xs) y ys e = behind_drop k xs y ys e

module _ {R : Type 0} (known : R → Option (List ℕ)) where
  pub none_there : (after : Reader R) (rest : List Record) (k count : ℕ) (more : Bool) (fields : Record) → more ≡ false → k ≤ count → TakesNext known after (drop k rest) more fields → slice_get rest count ≡ None
  none_there after rest k count false fields never within taken = let few = dropped k rest taken in slice_get_past rest count (omega (arith, few, within))
  none_there after rest k count true fields never within taken = absurd (true≢false never)

  pub one_skipped : (after : Reader R) (rest : List Record) (k : ℕ) (more : Bool) (fields : Record) → more ≡ true → TakesNext known after (drop k rest) more fields → IsLeft known after (drop (k + 1) rest)
  one_skipped after rest k true fields there (others, are, left) = subst (IsLeft known after) (behind_drop k rest fields others are ∙ ap (λ n. drop n rest) (sym (add-one k))) left
  one_skipped after rest k false fields there taken = absurd (true≢false (sym there))

  pub skips_none : (after : Reader R) (count : ℕ) (rest : List Record) (all : Bool) → all ≡ false → Skips known after count rest all → slice_get rest count ≡ None
  skips_none after count rest false never skipped = skipped
  skips_none after count rest true never skipped = absurd (true≢false never)

  pub skips_all : (after : Reader R) (count : ℕ) (rest : List Record) (all : Bool) → all ≡ true → Skips known after count rest all → IsLeft known after (drop count rest)
  skips_all after count rest true there skipped = skipped
  skips_all after count rest false there skipped = absurd (true≢false (sym there))

  pub taken_at : (after : Reader R) (index : ℕ) (rest : List Record) (found : Bool) (fields : Record) → TakesNext known after (drop index rest) found fields → TakesAt index rest found fields
  taken_at after index rest true fields (others, are, left) = at_drop index rest fields others are
  taken_at after index rest false fields none = slice_get_past rest index (dropped index rest none)

pub kept_at : (index : ℕ) (rest : List Record) (found : Bool) (fields : Record) → TakesAt index rest found fields → (if found then Some fields else None) ≡ slice_get rest index
kept_at index rest true fields taken = sym taken
kept_at index rest false fields taken = sym taken
