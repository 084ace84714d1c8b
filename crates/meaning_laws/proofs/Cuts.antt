-- The fragments of a cut are the whole table.
use Rattle.std.specs.Prelude.{◌≡◌, ℕ, zero, suc, ◌+◌, ◌<◌, List, [], ◌∷◌, ◌++◌, flat_map, length, take, drop, sum, slice_index}
use Rattle.std.specs.List.{range_with_len}
use Rattle.std.proofs.Common.{refl, sym, ap, ◌∙◌, arith}
use Rattle.std.proofs.Math.Seq.{take-add, drop-drop, take-length}
use Rattle.std.proofs.lemmas.List.Sums.{sum_by-cons}
use Rattle.std.proofs.lemmas.List.FromFn.{length-enumerate_from}
use Rattle.meaning.specs.Order.{Row}
use Rattle.meaning.specs.Cut.{numbered, Cut, part}

module _ {X : Type 0} where
  -- piece k of a list that is cut
  abbrev piece : List ℕ → List X → ℕ → List X
  piece cut xs k = take (slice_index cut k) (drop (sum (take k cut)) xs)

  piece-suc : (n : ℕ) (cut : List ℕ) (xs : List X) (k : ℕ) → piece (n ∷ cut) xs (suc k) ≡ piece cut (drop n xs) k
  piece-suc n cut xs k = ap (take (slice_index cut k))
      (ap (λ m. drop m xs) (sum_by-cons (λ x. x) n (take k cut)) ∙ sym (drop-drop (sum (take k cut)) n xs))

  shifted : (f g : ℕ → List X) → ((k : ℕ) → f (suc k) ≡ g k) → (a m : ℕ) → flat_map f (range_with_len (suc a) m)
      ≡ flat_map g (range_with_len a m)
  shifted f g same a zero = refl
  shifted f g same a (suc m) = (λ i. same a i ++ flat_map f (range_with_len (suc a + 1) m))
      ∙ ap (λ xs. g a ++ xs) (ap (λ b. flat_map f (range_with_len b m)) (one_later a) ∙ shifted f g same (a + 1) m)
    where
      one_later : (a : ℕ) → suc a + 1 ≡ suc (a + 1)
      one_later a = omega arith

  pub pieces : (cut : List ℕ) (xs : List X) → flat_map (piece cut xs) (range_with_len 0 (length cut))
      ≡ take (sum cut) xs
  pieces [] xs = refl
  pieces (n ∷ cut) xs =
      ap (λ ys. take n xs ++ ys) (shifted (piece (n ∷ cut) xs) (piece cut (drop n xs)) (piece-suc n cut xs) 0
      (length cut) ∙ pieces cut (drop n xs))
      ∙ sym (ap (λ m. take m xs) (sum_by-cons (λ x. x) n cut) ∙ take-add n (sum cut) xs)

pub sum_cons : (n : ℕ) (ns : List ℕ) → sum (n ∷ ns) ≡ n + sum ns
sum_cons n ns = sum_by-cons (λ x. x) n ns

-- the next fragment begins where this one ends
pub sum_to_next : (cut : Cut) (k : ℕ) → k < length cut → sum (take (suc k) cut) ≡ sum (take k cut) + slice_index cut k
sum_to_next [] k below = absurd (omega arith)
sum_to_next (n ∷ ns) zero below = refl
sum_to_next (n ∷ ns) (suc k) below =
    let here = sum_cons n (take (suc k) ns) in
    let there = sum_cons n (take k ns) in
    let rest = sum_to_next ns k (omega arith) in
    grind (arith, here, there, rest)

-- the rows of all fragments are the rows of the table
pub part-all : (cut : Cut) (rows : List Row) → sum cut ≡ length rows → part cut (range_with_len 0 (length cut)) rows
    ≡ numbered rows
part-all cut rows whole =
    pieces cut (numbered rows) ∙ ap (λ n. take n (numbered rows)) (whole ∙ sym (length-enumerate_from 0 rows))
    ∙ take-length (numbered rows)
