-- The numbers of the cells that pass a test, cell by cell.
use Rattle.std.specs.Prelude.{◌≡◌, ℕ, ◌+◌, ◌<◌, Bool, true, false, cond, List, [], ◌∷◌, ◌++◌, map, filter, length, take, slice_index_or}
use Rattle.std.specs.List.{enumerate_from}
use Rattle.std.proofs.Common.{refl, sym, ap, ◌∙◌, arith}
use Rattle.std.proofs.Math.Seq.{take-suc}
use Rattle.std.proofs.Math.Numerals.{suc-eq-add-one}
use Rattle.std.proofs.lemmas.List.{length-take-le}
use Rattle.meaning.specs.Said.{Cell}
use Rattle.meaning.specs.Gather.{fragments_where}

-- the numbers, where the first cell has this number
abbrev fragments_from : (Cell → Bool) → ℕ → List Cell → List ℕ
fragments_from test start cells = map (λ p. p.0) (filter (λ p. test p.1) (enumerate_from start cells))

one_more : (test : Cell → Bool) (start : ℕ) (cells : List Cell) (c : Cell) (k : ℕ) → k ≡ start + length cells → fragments_from test start (cells ++ c ∷ []) ≡ fragments_from test start cells ++ cond (test c) (k ∷ []) []
one_more test start [] c k e = elim (test c) as (λ t. map {A = ℕ × Cell} (λ p. p.0) (cond t ((start, c) ∷ []) []) ≡ cond t (k ∷ []) []) [
  | true ↦ let here : start ≡ k = grind arith in ap (λ n. n ∷ []) here
  | false ↦ refl
]
one_more test start (x ∷ xs) c k e = elim (test x) as (λ t. map {A = ℕ × Cell} (λ p. p.0) (cond t ((start, x) ∷ filter (λ p. test p.1) (enumerate_from (start + 1) (xs ++ c ∷ []))) (filter (λ p. test p.1) (enumerate_from (start + 1) (xs ++ c ∷ []))))
    ≡ map {A = ℕ × Cell} (λ p. p.0) (cond t ((start, x) ∷ filter (λ p. test p.1) (enumerate_from (start + 1) xs)) (filter (λ p. test p.1) (enumerate_from (start + 1) xs))) ++ cond (test c) (k ∷ []) []) [
      | true ↦ ap (λ ks. start ∷ ks) (one_more test (start + 1) xs c k (grind arith))
      | false ↦ one_more test (start + 1) xs c k (grind arith)
    ]

-- the numbers among one cell more
pub fragments_of_next : (test : Cell → Bool) (cells : List Cell) (k : ℕ) (d : Cell) → k < length cells → fragments_where test (take (k + 1) cells) ≡ fragments_where test (take k cells) ++ cond (test (slice_index_or cells k d)) (k ∷ []) []
fragments_of_next test cells k d below =
    ap (λ n. fragments_where test (take n cells)) (sym (suc-eq-add-one k))
    ∙ ap (fragments_where test) (take-suc cells k d below)
    ∙ one_more test 0 (take k cells) (slice_index_or cells k d) k (grind (arith, length-take-le k cells (omega arith)))
