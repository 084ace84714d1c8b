-- Neighbours of as many rows each, as they are shown one by one.
use Rattle.std.proofs.Common.{◌≡◌, ◌≢◌, ℕ, ◌+◌, true, false, List, [], ◌∷◌, ◌++◌, length, eqb, arith, refl, sym, ap, ◌∙◌, append_assoc, append-nil}
use Rattle.std.specs.Prelude.{if◌then◌else◌, flat_map, sum, None, OnOk, Option, Some, Result, Ok, Err}
use Rattle.std.proofs.lemmas.Bool.{eq-eqb, ne_eqb}
use Rattle.std.proofs.lemmas.List.Sums.{sum_by-append}
use Rattle.wire.specs.Reading.{repeat_at}
use Rattle.answer_text.specs.Reading.{capped}
use Rattle.answer_text.proofs.Showing.{repeat_length}
use Rattle.table_text.specs.CutText.{alike_text, alone, count_line, each_text, joined, length_at, lengths_text, neighbours, pending, rows_line}
use Rattle.table_text.specs.declared.cuts.Alike.{Alike}

abbrev of_rows : ℕ → ℕ → ℕ → Alike
of_rows first last n = record { first = first; last = last; rows = n }

-- over those behind the fragment

grown : (first last k n : ℕ) (rest : List Alike) → joined (of_rows first last n) (joined (alone k n) rest) ≡ joined (of_rows first k n) rest
grown first last k n [] = rw (eq-eqb n n refl) refl
grown first last k n (next ∷ others) = elim (eqb n next.rows) as (λ t. joined (of_rows first last n) (if t then of_rows k next.last n ∷ others else alone k n ∷ (next ∷ others)) ≡ (if t then of_rows first next.last n ∷ others else of_rows first k n ∷ (next ∷ others))) [
  | true ↦ rw (eq-eqb n n refl) refl
  | false ↦ rw (eq-eqb n n refl) refl
]

broken : (a : Alike) (k n : ℕ) (rest : List Alike) → eqb a.rows n ≡ false → joined a (joined (alone k n) rest) ≡ a ∷ joined (alone k n) rest
broken a k n [] is = rw is refl
broken a k n (next ∷ others) is = elim (eqb n next.rows) as (λ t. joined a (if t then of_rows k next.last n ∷ others else alone k n ∷ (next ∷ others)) ≡ a ∷ (if t then of_rows k next.last n ∷ others else alone k n ∷ (next ∷ others))) [
  | true ↦ rw is refl
  | false ↦ rw is refl
]

-- a fragment of as many rows joins them
pub alike : (a : Alike) (k n : ℕ) (ns : List ℕ) → a.rows ≡ n → pending (Some (of_rows a.first k n)) (k + 1) ns ≡ pending (Some a) k (n ∷ ns)
unfolding neighbours
alike a k n ns same =
    ap (flat_map alike_text) (sym (ap (λ m. joined (of_rows a.first a.last m) (joined (alone k n) (neighbours (k + 1) ns))) same ∙ grown a.first a.last k n (neighbours (k + 1) ns)))

-- another begins anew
pub other : (a : Alike) (k n : ℕ) (ns : List ℕ) → a.rows ≢ n → alike_text a ++ pending (Some (alone k n)) (k + 1) ns ≡ pending (Some a) k (n ∷ ns)
unfolding neighbours
other a k n ns apart = ap (flat_map alike_text) (sym (broken a k n (neighbours (k + 1) ns) (ne_eqb a.rows n apart)))

pub begun : (k n : ℕ) (ns : List ℕ) → pending (Some (alone k n)) (k + 1) ns ≡ pending None k (n ∷ ns)
unfolding neighbours
begun k n ns = refl

pub ended : (a : Alike) (k : ℕ) → pending (Some a) k [] ≡ alike_text a
unfolding neighbours
ended a k = append-nil (alike_text a)

pub none_left : (k : ℕ) → pending None k [] ≡ []
unfolding neighbours
none_left k = refl

pub ended_by : {E : Type 0} (result : Result (Unit {0}) E) (alikes : Option Alike) (a : Alike) (old new : List ℕ) → alikes ≡ Some a → OnOk result (new ≡ old ++ alike_text a) → OnOk result ((k : ℕ) → new ≡ old ++ pending alikes k [])
ended_by (Ok done) alikes a old new is put = λ k. put ∙ ap (λ t. old ++ t) (sym (ap (λ x. pending x k []) is ∙ ended a k))
ended_by (Err e) alikes a old new is put = tt

-- a fragment's rows more
pub summed : (cut : List ℕ) (rows all next : ℕ) → all ≡ capped (sum cut) → next ≡ capped (all + rows) → next ≡ capped (sum (cut ++ rows ∷ []))
summed cut rows all next so_far more =
    let whole : sum (cut ++ rows ∷ []) ≡ sum cut + sum (rows ∷ []) = sum_by-append (λ x. x) cut (rows ∷ []) in
    let one : sum (rows ∷ []) ≡ rows = omega arith in
    omega (arith, so_far, more, whole, one)

-- the number of fragments, the rows of each, and the rows of all
pub counted : (n all : ℕ) (between rest cut old mid each new : List ℕ) → repeat_at length_at n between ≡ Ok (cut, rest) → all ≡ capped (sum cut) → mid ≡ old ++ count_line n → each ≡ mid ++ each_text cut → new ≡ each ++ rows_line all
    → new ≡ old ++ lengths_text cut
counted n all between rest cut old mid each new read total first second third =
    let many : length cut ≡ n = repeat_length length_at n between (cut, rest) read in
    third ∙ ap (λ t. t ++ rows_line all) (second ∙ ap (λ t. t ++ each_text cut) first ∙ append_assoc old (count_line n) (each_text cut)) ∙ append_assoc old (count_line n ++ each_text cut) (rows_line all)
    ∙ ap (λ t. old ++ t) (append_assoc (count_line n) (each_text cut) (rows_line all) ∙ (λ i. count_line (sym many i) ++ (each_text cut ++ rows_line (total i))))
