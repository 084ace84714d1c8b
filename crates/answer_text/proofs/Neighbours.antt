-- Ranges that are written number by number.
use Rattle.std.proofs.Common.{◌≡◌, ℕ, ◌+◌, true, false, List, [], ◌∷◌, ◌++◌, codes, decimal, eqb, length, refl, sym, ap, ◌∙◌, append_assoc, append-nil}
use Rattle.std.specs.Prelude.{if◌then◌else◌, flat_map, OnOk, Option, Some, Result, Ok, Err}
use Rattle.answer_text.specs.Ranges.{Range, joined, pending, range_text, ranges, ranges_line}

-- over the ranges behind the number

grown : (first last n : ℕ) (rs : List Range) → eqb (last + 1) n ≡ true → joined (first, last) (joined (n, n) rs) ≡ joined (first, n) rs
grown first last n [] is = rw is refl
grown first last n (next ∷ others) is = elim (eqb (n + 1) next.0) as (λ t. joined (first, last) (if t then (n, next.1) ∷ others else (n, n) ∷ (next ∷ others)) ≡ (if t then (first, next.1) ∷ others else (first, n) ∷ (next ∷ others))) [
  | true ↦ rw is refl
  | false ↦ rw is refl
]

broken : (first last n : ℕ) (rs : List Range) → eqb (last + 1) n ≡ false → joined (first, last) (joined (n, n) rs) ≡ (first, last) ∷ joined (n, n) rs
broken first last n [] is = rw is refl
broken first last n (next ∷ others) is = elim (eqb (n + 1) next.0) as (λ t. joined (first, last) (if t then (n, next.1) ∷ others else (n, n) ∷ (next ∷ others)) ≡ (first, last) ∷ (if t then (n, next.1) ∷ others else (n, n) ∷ (next ∷ others))) [
  | true ↦ rw is refl
  | false ↦ rw is refl
]

-- the number of a neighbour joins the range
pub neighbour : (first last n : ℕ) (ns : List ℕ) → eqb (last + 1) n ≡ true → flat_map range_text (joined (first, n) (ranges ns)) ≡ flat_map range_text (joined (first, last) (ranges (n ∷ ns)))
unfolding ranges
neighbour first last n ns is = ap (flat_map range_text) (sym (grown first last n (ranges ns) is))

-- another begins a range
pub apart : (first last n : ℕ) (ns : List ℕ) → eqb (last + 1) n ≡ false → range_text (first, last) ++ flat_map range_text (joined (n, n) (ranges ns)) ≡ flat_map range_text (joined (first, last) (ranges (n ∷ ns)))
unfolding ranges
apart first last n ns is = ap (flat_map range_text) (sym (broken first last n (ranges ns) is))

pub begun : (n : ℕ) (ns : List ℕ) → flat_map range_text (joined (n, n) (ranges ns)) ≡ flat_map range_text (ranges (n ∷ ns))
unfolding ranges
begun n ns = refl

pub ended : (r : Range) → flat_map range_text (joined r (ranges [])) ≡ range_text r
unfolding ranges
ended r = append-nil (range_text r)

pub ended_by : {E : Type 0} (result : Result (Unit {0}) E) (range : Option Range) (r : Range) (old new : List ℕ) → range ≡ Some r → OnOk result (new ≡ old ++ range_text r) → OnOk result (new ≡ old ++ pending range [])
ended_by (Ok done) range r old new is put = put ∙ ap (λ t. old ++ t) (sym (ap (λ x. pending x []) is ∙ ended r))
ended_by (Err e) range r old new is put = tt

pub none_left : flat_map range_text (ranges []) ≡ []
unfolding ranges
none_left = refl

-- the whole line
grouped : (old front each end : List ℕ) → ((old ++ front) ++ each) ++ end ≡ old ++ ((front ++ each) ++ end)
grouped old front each end = ap (λ t. t ++ end) (append_assoc old front each) ∙ append_assoc old (front ++ each) end

pub line : (old word : List ℕ) (ns counted all : List ℕ) → counted ≡ old ++ (word ++ codes " " ++ decimal (length ns) ++ codes ":") → all ≡ counted ++ flat_map range_text (ranges ns) → all ++ codes "\n" ≡ old ++ ranges_line word ns
unfolding ranges_line
line old word ns counted all head each =
    ap (λ t. t ++ codes "\n") (each ∙ ap (λ t. t ++ flat_map range_text (ranges ns)) head)
    ∙ grouped old (word ++ codes " " ++ decimal (length ns) ++ codes ":") (flat_map range_text (ranges ns)) (codes "\n")
