-- A header names each column once, and each of its fields one column, so each column has a field.
use Rattle.std.proofs.Common.{◌≡◌, ℕ, zero, suc, ◌+◌, ◌<◌, ◌≤◌, ◌==◌, Bool, true, false, cond, List, [], ◌∷◌, map, length, refl, sym, ap, subst, ◌∙◌, arith, position, unwrap_or}
use Rattle.std.specs.Prelude.{◌&&◌, ◌||◌, Some, None, slice_get, is_some}
use Rattle.std.specs.List.{list_all, list_any, range_with_len, position_or_len, count_by}
use Rattle.std.proofs.lemmas.Bool.{and_parts, eqb-true, eq-eqb, lt-ltb}
use Rattle.std.proofs.lemmas.Bool.Decides.{nat_tests}
use Rattle.std.proofs.lemmas.List.{length-map}
use Rattle.std.proofs.lemmas.List.Sums.{sum_by-cons}
use Rattle.std.proofs.lemmas.Option.{slice_get_within}
use Rattle.meaning.specs.declared.catalog.Column.{Column}
use Rattle.meaning.specs.Records.{Record, file_order, is_header, names}
use Rattle.meaning.proofs.Tests.{all_first, all_rest, both, or_first, or_second}
use Rattle.loader.specs.Steps.{has_each}
use Rattle.loader.proofs.TextFields.{column_there}

-- ---- counting and finding

counted_more : {X : Type 0} (p : X → Bool) (y : X) (ys : List X) (b : Bool) → p y ≡ b → count_by p (y ∷ ys) ≡ cond b 1 0 + count_by p ys
counted_more p y ys b here = sum_by-cons (λ z. cond (p z) 1 0) y ys ∙ ap (λ t. cond t 1 0 + count_by p ys) here

-- what passes at an index is counted
counted_at : {X : Type 0} (p : X → Bool) (xs : List X) (i : ℕ) (x : X) → slice_get xs i ≡ Some x → p x ≡ true → 0 < count_by p xs
counted_at p [] i x at on = cc at
counted_at p (y ∷ ys) zero x at on =
    let is : y ≡ x = cc at in
    subst (λ n. 0 < n) (sym (counted_more p y ys true (ap p is ∙ on))) (omega arith)
counted_at p (y ∷ ys) (suc i) x at on =
    let behind = counted_at p ys i x at on in
    subst (λ n. 0 < n) (sym (counted_more p y ys (p y) refl)) (omega (arith, behind))

-- all pass where as many pass as there are
pub all_counted : {X : Type 0} (p : X → Bool) (xs : List X) → (count_by p xs == length xs) ≡ list_all p xs
all_counted p [] = refl
all_counted p (x ∷ xs) =
    elim (p x) as (λ b. p x ≡ b → (count_by p (x ∷ xs) == length (x ∷ xs)) ≡ (b && list_all p xs)) [
      | true ↦ λ here. ap (λ n. n == length (x ∷ xs)) (counted_more p x xs true here) ∙ one_more (count_by p xs) (length xs) ∙ all_counted p xs
      | false ↦ λ here. ap (λ n. n == length (x ∷ xs)) (counted_more p x xs false here) ∙ fewer (count_by p xs) (length xs) (counted_most p xs)
    ] refl
  where
    counted_most : {X : Type 0} (p : X → Bool) (xs : List X) → count_by p xs ≤ length xs
    counted_most p [] = omega arith
    counted_most p (x ∷ xs) =
        let behind = counted_most p xs in
        elim (p x) as (λ b. p x ≡ b → count_by p (x ∷ xs) ≤ length (x ∷ xs)) [
          | true ↦ λ here. let all = counted_more p x xs true here in omega (arith, all, behind)
          | false ↦ λ here. let all = counted_more p x xs false here in omega (arith, all, behind)
        ] refl

    one_more : (a b : ℕ) → ((1 + a) == suc b) ≡ (a == b)
    one_more a b = grind (arith, nat_tests)

    fewer : (a b : ℕ) → a ≤ b → ((0 + a) == suc b) ≡ false
    fewer a b most = grind (arith, nat_tests)

-- the only one that passes is the first
only_first : {X : Type 0} (p : X → Bool) (xs : List X) (i : ℕ) (x : X) → count_by p xs ≡ 1 → slice_get xs i ≡ Some x → p x ≡ true → position_or_len p xs ≡ i
only_first p [] i x one at on = cc at
only_first p (y ∷ ys) zero x one at on =
    let is : y ≡ x = cc at in
    let here : p y ≡ true = ap p is ∙ on in
    rw here refl
only_first p (y ∷ ys) (suc i) x one at on =
    elim (p y) as (λ b. p y ≡ b → position_or_len p (y ∷ ys) ≡ suc i) [
      | true ↦ λ here.
          let all = sym (counted_more p y ys true here) ∙ one in
          let more = counted_at p ys i x at on in
          absurd (omega (arith, all, more))
      | false ↦ λ here.
          let all = sym (counted_more p y ys false here) ∙ one in
          let behind = only_first p ys i x (omega (arith, all)) at on in
          rw here (omega (arith, behind))
    ] refl

-- where some element passes there is a first
first_within : {X : Type 0} (p : X → Bool) (xs : List X) → list_any p xs ≡ true → position_or_len p xs < length xs
first_within p [] e = cc e
first_within p (x ∷ xs) e =
    elim (p x) as (λ b. p x ≡ b → (b || list_any p xs) ≡ true → position_or_len p (x ∷ xs) < length (x ∷ xs)) [
      | true ↦ λ here _. rw here (omega arith)
      | false ↦ λ here rest. let behind = first_within p xs rest in rw here (omega (arith, behind))
    ] refl e

position_below : {X : Type 0} (p : X → Bool) (xs : List X) → position_or_len p xs < length xs → position p xs ≡ Some (position_or_len p xs)
position_below p xs below = ap (λ b. cond b (Some (position_or_len p xs)) None) (lt-ltb _ _ below)

-- ---- fields of a header

-- the column that a field names, if it names just one
number_of_field : (columns : List Column) (i : ℕ) (c : Column) (field : List ℕ) → slice_get columns i ≡ Some c → (count_by (λ d. names field d) columns == 1) ≡ true
    → names field c ≡ true → unwrap_or (position (names field) columns) 0 ≡ i
number_of_field columns i c field at once on =
    let first = only_first (names field) columns i c (eqb-true _ 1 once) at on in
    let inside = slice_get_within columns i c at in
    ap (λ o. unwrap_or o 0) (position_below (names field) columns (omega (arith, first, inside))) ∙ first

-- a column that some field names is among the columns of the fields
some_field : (columns : List Column) (i : ℕ) (c : Column) → slice_get columns i ≡ Some c → (header : Record)
    → list_all (λ field. count_by (λ d. names field d) columns == 1) header ≡ true → 0 < count_by (λ field. names field c) header
    → list_any (λ p. p == i) (file_order columns header) ≡ true
some_field columns i c at [] each some = absurd (omega (arith, some))
some_field columns i c at (field ∷ header) each some =
    elim (names field c) as (λ b. names field c ≡ b → list_any (λ p. p == i) (file_order columns (field ∷ header)) ≡ true) [
      | true ↦ λ here.
          let number = number_of_field columns i c field at (all_first (λ f. count_by (λ d. names f d) columns == 1) field header each) here in
          or_first _ _ (eq-eqb _ i number)
      | false ↦ λ here.
          let counted = counted_more (λ f. names f c) field header false here in
          let more : 0 < count_by (λ f. names f c) header = omega (arith, counted, some) in
          or_second _ _ (some_field columns i c at header (all_rest (λ f. count_by (λ d. names f d) columns == 1) field header each) more)
    ] refl

all_range : (t : ℕ → Bool) (s n : ℕ) → ((k : ℕ) → k < s + n → t k ≡ true) → list_all t (range_with_len s n) ≡ true
all_range t s zero each = refl
all_range t s (suc n) each =
    both _ _ (each s (omega arith)) (all_range t (s + 1) n (λ k below. each k (omega (arith, below))))

all_at : {X : Type 0} (p : X → Bool) (xs : List X) (i : ℕ) (x : X) → list_all p xs ≡ true → slice_get xs i ≡ Some x → p x ≡ true
all_at p [] i x all at = cc at
all_at p (y ∷ ys) zero x all at = let same : y ≡ x = cc at in ap p (sym same) ∙ all_first p y ys all
all_at p (y ∷ ys) (suc i) x all at = all_at p ys i x (all_rest p y ys all) at

pub each_has_a_field : (columns : List Column) (header : Record) → is_header columns header ≡ true → has_each (file_order columns header) ≡ true
each_has_a_field columns header fine =
    let (counted, named) = and_parts _ _ fine in
    let (once, single) = and_parts _ _ named in
    let long : length (file_order columns header) ≡ length columns =
    length-map header (λ field. unwrap_or (position (names field) columns) 0) ∙ eqb-true (length header) (length columns) counted in
    all_range (λ index. is_some (position (λ p. p == index) (file_order columns header))) 0 (length (file_order columns header))
    (λ k below.
    let (c, at) = column_there columns k (omega (arith, below, long)) in
    let one = eqb-true _ 1 (all_at (λ d. count_by (λ field. names field d) header == 1) columns k c once at) in
    let any = some_field columns k c at header single (omega (arith, one)) in
    ap is_some (position_below (λ p. p == k) (file_order columns header) (first_within _ _ any)))
