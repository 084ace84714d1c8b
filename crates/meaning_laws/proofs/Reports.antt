-- Which report comes first, and which fragments it names.
use Rattle.std.specs.Prelude.{◌≡◌, ℕ, zero, suc, ◌+◌, ◌<◌, ◌==◌, Bool, true, false, cond, ◌||◌, List, [], ◌∷◌, map, filter, slice_get}
use Rattle.std.specs.List.{list_any, enumerate_from}
use Rattle.std.specs.Option.{option_map_or}
use Rattle.std.specs.Ordering.{nat_cmp, is_lt}
use Rattle.std.proofs.Common.{refl, sym, ap, ◌∙◌, arith}
use Rattle.std.proofs.lemmas.Bool.{eq-eqb, ne_eqb}
use Rattle.meaning.specs.declared.plan.Plan.{Plan}
use Rattle.meaning.specs.Said.{Cell}
use Rattle.meaning.specs.Order.{is_ascending}
use Rattle.meaning.specs.Gather.{Report, conflict, missing, output, is_conflict, is_nothing, fragments_where, unless_empty, preview, report}
use Rattle.meaning.proofs.Tests.{both}

module _ (test : Cell → Bool) where
  -- the numbers, from n on
  abbrev numbers_from : ℕ → List Cell → List ℕ
  numbers_from n cells = map (λ p. p.0) (filter (λ p. test p.1) (enumerate_from n cells))

  pushed : (b : Bool) (p : ℕ × Cell) (ps : List (ℕ × Cell)) → map (λ p. p.0) (cond b (p ∷ ps) ps)
      ≡ cond b (p.0 ∷ map (λ p. p.0) ps) (map (λ p. p.0) ps)
  pushed true p ps = refl
  pushed false p ps = refl

  numbers_from-cons : (n : ℕ) (c : Cell) (cs : List Cell) → numbers_from n (c ∷ cs)
      ≡ cond (test c) (n ∷ numbers_from (n + 1) cs) (numbers_from (n + 1) cs)
  numbers_from-cons n c cs = pushed (test c) (n, c) (filter (λ p. test p.1) (enumerate_from (n + 1) cs))

  less : (m n : ℕ) → m < n → is_lt (nat_cmp m n) ≡ true
  less m n below = grind (arith)

  ascending_after : (cells : List Cell) (m n : ℕ) → m < n → is_ascending nat_cmp (m ∷ numbers_from n cells) ≡ true
  ascending_after [] m n below = refl
  ascending_after (c ∷ cs) m n below =
      ap (λ ks. is_ascending nat_cmp (m ∷ ks)) (numbers_from-cons n c cs)
      ∙ elim (test c) as (λ b. is_ascending nat_cmp (m ∷ cond b (n ∷ numbers_from (n + 1) cs) (numbers_from (n + 1) cs))
      ≡ true) [
        | true ↦ both _ _ (less m n below) (ascending_after cs n (n + 1) (omega arith))
        | false ↦ ascending_after cs m (n + 1) (omega arith)
      ]

  pub ascending : (cells : List Cell) (n : ℕ) → is_ascending nat_cmp (numbers_from n cells) ≡ true
  ascending [] n = refl
  ascending (c ∷ cs) n =
      ap (is_ascending nat_cmp) (numbers_from-cons n c cs)
      ∙ elim (test c) as (λ b. is_ascending nat_cmp (cond b (n ∷ numbers_from (n + 1) cs) (numbers_from (n + 1) cs))
      ≡ true) [
        | true ↦ ascending_after cs n (n + 1) (omega arith)
        | false ↦ ascending cs (n + 1)
      ]

  -- a number before the first is none of them
  before : (cells : List Cell) (k n : ℕ) → k < n → list_any (λ j. j == k) (numbers_from n cells) ≡ false
  before [] k n below = refl
  before (c ∷ cs) k n below =
      ap (list_any (λ j. j == k)) (numbers_from-cons n c cs)
      ∙ elim (test c) as (λ b. list_any (λ j. j == k) (cond b (n ∷ numbers_from (n + 1) cs) (numbers_from (n + 1) cs))
      ≡ false) [
        | true ↦ ap (λ b. b || list_any (λ j. j == k) (numbers_from (n + 1) cs)) (ne_eqb n k (omega arith))
            ∙ before cs k (n + 1) (omega arith)
        | false ↦ before cs k (n + 1) (omega arith)
      ]

  pub named : (cells : List Cell) (n i k : ℕ) → k ≡ n + i → list_any (λ j. j == k) (numbers_from n cells)
      ≡ option_map_or test (slice_get cells i) false
  named [] n i k e = refl
  named (c ∷ cs) n zero k e =
      ap (list_any (λ j. j == k)) (numbers_from-cons n c cs)
      ∙ elim (test c) as (λ b. list_any (λ j. j == k) (cond b (n ∷ numbers_from (n + 1) cs) (numbers_from (n + 1) cs))
      ≡ b) [
        | true ↦ ap (λ b. b || list_any (λ j. j == k) (numbers_from (n + 1) cs)) (eq-eqb n k (omega arith))
        | false ↦ before cs k (n + 1) (omega arith)
      ]
  named (c ∷ cs) n (suc i) k e =
      ap (list_any (λ j. j == k)) (numbers_from-cons n c cs)
      ∙ elim (test c) as (λ b. list_any (λ j. j == k) (cond b (n ∷ numbers_from (n + 1) cs) (numbers_from (n + 1) cs))
      ≡ option_map_or test (slice_get cs i) false) [
        | true ↦ ap (λ b. b || list_any (λ j. j == k) (numbers_from (n + 1) cs)) (ne_eqb n k (omega arith))
            ∙ named cs (n + 1) i k (omega arith)
        | false ↦ named cs (n + 1) i k (omega arith)
      ]

  -- where a cell passes there is a number, and else there is none
  pub some_fragment : (cells : List Cell) (n : ℕ) → list_any test cells
      ≡ true → (j : ℕ) × (js : List ℕ) × (numbers_from n cells ≡ j ∷ js)
  some_fragment [] n any = cc
  some_fragment (c ∷ cs) n any =
      elim (test c) as (λ b. test c ≡ b → (b || list_any test cs)
      ≡ true → (j : ℕ) × (js : List ℕ) × (numbers_from n (c ∷ cs) ≡ j ∷ js)) [
        | true ↦ λ here _. (
          n,
          numbers_from (n + 1) cs,
          numbers_from-cons n c cs
              ∙ ap (λ b. cond b (n ∷ numbers_from (n + 1) cs) (numbers_from (n + 1) cs)) here,
        )
        | false ↦ λ here rest. let found = some_fragment cs (n + 1) rest in (
          found.0,
          found.1,
          numbers_from-cons n c cs
              ∙ ap (λ b. cond b (n ∷ numbers_from (n + 1) cs) (numbers_from (n + 1) cs)) here ∙ found.2,
        )
      ] refl any

  pub no_fragment : (cells : List Cell) (n : ℕ) → list_any test cells ≡ false → numbers_from n cells ≡ []
  no_fragment [] n none = refl
  no_fragment (c ∷ cs) n none =
      elim (test c) as (λ b. test c ≡ b → (b || list_any test cs) ≡ false → numbers_from n (c ∷ cs) ≡ []) [
        | true ↦ λ here rest. cc
        | false ↦ λ here rest. numbers_from-cons n c cs
            ∙ ap (λ b. cond b (n ∷ numbers_from (n + 1) cs) (numbers_from (n + 1) cs)) here ∙ no_fragment cs (n + 1) rest
      ] refl none

unless_some : (name : List ℕ → Report) (ks : List ℕ) (next : Report) → ((j : ℕ) × (js : List ℕ) × (ks ≡ j ∷ js))
    → unless_empty name ks next ≡ name ks
unless_some name ks next found = ap (λ js. unless_empty name js next) found.2 ∙ ap name (sym found.2)

pub conflicts_first : (plan : Plan) (cells : List Cell) → list_any is_conflict cells ≡ true → report plan cells
    ≡ conflict (fragments_where is_conflict cells)
conflicts_first plan cells any = unless_some conflict (fragments_where is_conflict cells) _ (some_fragment is_conflict cells 0 any)

pub missing_next : (plan : Plan) (cells : List Cell) → list_any is_conflict cells ≡ false → list_any is_nothing cells
    ≡ true → report plan cells ≡ missing (fragments_where is_nothing cells)
missing_next plan cells calm any =
    ap (λ ks. unless_empty conflict ks (unless_empty missing (fragments_where is_nothing cells) (output (preview plan cells))))
    (no_fragment is_conflict cells 0 calm)
    ∙ unless_some missing (fragments_where is_nothing cells) _ (some_fragment is_nothing cells 0 any)

pub complete_last : (plan : Plan) (cells : List Cell) → list_any is_conflict cells ≡ false → list_any is_nothing cells
    ≡ false → report plan cells ≡ output (preview plan cells)
complete_last plan cells calm whole =
    ap (λ ks. unless_empty conflict ks (unless_empty missing (fragments_where is_nothing cells) (output (preview plan cells))))
    (no_fragment is_conflict cells 0 calm)
    ∙ ap (λ ks. unless_empty missing ks (output (preview plan cells))) (no_fragment is_nothing cells 0 whole)
