-- The state of just some fragments' own answers: its preview, and its report where they are all.
use Rattle.std.specs.Prelude.{◌≡◌, ℕ, zero, suc, ◌+◌, ◌<◌, ◌≤◌, ◌==◌, Bool, true, false, cond, ◌||◌, List, [], ◌∷◌, ◌++◌, map, filter, filter_map, flat_map, length, sum, Some, slice_get}
use Rattle.std.specs.List.{list_any, range_with_len, enumerate_from}
use Rattle.std.proofs.Common.{refl, ap, ap₂, ◌∙◌, arith}
use Rattle.std.proofs.lemmas.Bool.{eqb-true}
use Rattle.std.proofs.lemmas.Bool.Decides.{nat_tests}
use Rattle.meaning.specs.declared.plan.Plan.{Plan}
use Rattle.meaning.specs.Said.{Body}
use Rattle.meaning.specs.Said.{Answer}
use Rattle.meaning.specs.Said.{Cell}
use Rattle.meaning.specs.declared.answer.Cell.TheVariants.{Nothing, One, Conflict}
use Rattle.meaning.specs.Order.{Row}
use Rattle.meaning.specs.Cut.{Cut, numbered, fragment, part}
use Rattle.meaning.specs.Meaning.{meaning}
use Rattle.meaning.specs.Answer.{own, own_body, combined, output_of}
use Rattle.meaning.specs.Gather.{join_cells, cell_of, said_of, joined, body_in, is_one, fragments_where, output, preview, report}
use Rattle.meaning_laws.specs.Laws.{among, own_answers}
use Rattle.meaning_laws.proofs.Cells.{join_cells_same, cell_of-cons}
use Rattle.meaning_laws.proofs.Combine.{output_of-combined}
use Rattle.meaning_laws.proofs.HeadlineLaw.{report-own}
use Rattle.meaning_laws.proofs.Cuts.{part-all}

module _ (plan : Plan) (dims : List (List Row)) (cut : Cut) (rows : List Row) where
  abbrev own_at : ℕ → Body
  own_at k = own_body plan dims (fragment cut k rows)

  -- a fragment's own answer, where it is among these
  abbrev cell_at : List ℕ → ℕ → Cell
  cell_at ks k = cond (list_any (λ j. j == k) ks) (One (own_at k)) Nothing

  abbrev answers : List ℕ → List Answer
  answers ks = own_answers plan dims cut rows ks

  pushed : (b : Bool) (x : Answer) (xs : List Answer) → map (λ (a : Answer). a.body) (cond b (x ∷ xs) xs)
      ≡ cond b (x.body ∷ map (λ (a : Answer). a.body) xs) (map (λ (a : Answer). a.body) xs)
  pushed true x xs = refl
  pushed false x xs = refl

  own_again : (t : Bool) (b : Body) → join_cells (One b) (cond t (One b) Nothing) ≡ One b
  own_again true b = join_cells_same (One b)
  own_again false b = refl

  -- the cell of a fragment
  cell_of-own : (k : ℕ) (ks : List ℕ) → cell_of (said_of k (answers ks)) ≡ cell_at ks k
  cell_of-own k [] = refl
  cell_of-own k (j ∷ ks) =
      ap cell_of (pushed (j == k) (own plan dims cut rows j) (filter (λ (a : Answer). a.k == k) (answers ks)))
      ∙ elim (j == k) as (λ b. j == k
      ≡ b → cell_of (cond b (own_at j ∷ said_of k (answers ks)) (said_of k (answers ks)))
      ≡ cond (b || list_any (λ j. j == k) ks) (One (own_at k)) Nothing) [
        | true ↦ λ e.
            let same : One (own_at j) ≡ One (own_at k) = ap (λ i. One (own_at i)) (eqb-true j k e) in
            cell_of-cons (own_at j) (said_of k (answers ks)) ∙ (λ i. join_cells (same i) (cell_of-own k ks i))
            ∙ own_again (list_any (λ j. j == k) ks) (own_at k)
        | false ↦ λ e. cell_of-own k ks
      ] refl

  joined-own : (ks ns : List ℕ) → map (λ k. cell_of (said_of k (answers ks))) ns ≡ map (cell_at ks) ns
  joined-own ks [] = refl
  joined-own ks (n ∷ ns) = λ i. cell_of-own n ks i ∷ joined-own ks ns i

  -- ---- previews

  bodies-own : (ks ns : List ℕ) → filter_map body_in (map (cell_at ks) ns)
      ≡ map (own_body plan dims) (map (λ k. fragment cut k rows) (filter (λ k. list_any (λ j. j == k) ks) ns))
  bodies-own ks [] = refl
  bodies-own ks (n ∷ ns) =
      let rest = bodies-own ks ns in
      elim (list_any (λ j. j == n) ks) as
      (λ b. filter_map body_in (cond b (One (own_at n)) Nothing ∷ map (cell_at ks) ns)
      ≡ map (own_body plan dims) (map (λ k. fragment cut k rows)
      (cond b (n ∷ filter (λ k. list_any (λ j. j == k) ks) ns) (filter (λ k. list_any (λ j. j == k) ks) ns)))) [
        | true ↦ ap (λ bs. own_at n ∷ bs) rest
        | false ↦ rest
      ]

  fragments : (ks : List ℕ) → flat_map (λ p. p) (map (λ k. fragment cut k rows) ks) ≡ part cut ks rows
  fragments [] = refl
  fragments (k ∷ ks) = ap (λ rest. fragment cut k rows ++ rest) (fragments ks)

  -- the preview of some fragments' own answers is the meaning over their rows
  pub preview-joined : (ks : List ℕ) → preview plan (joined cut (answers ks))
      ≡ meaning plan dims (part cut (among cut ks) rows)
  preview-joined ks =
      ap (preview plan) (joined-own ks (range_with_len 0 (length cut)))
      ∙ ap (λ bs. output_of plan (combined plan bs)) (bodies-own ks (range_with_len 0 (length cut)))
      ∙ output_of-combined plan dims (map (λ k. fragment cut k rows) (among cut ks))
      ∙ ap (λ table. meaning plan dims table) (fragments (among cut ks))

  -- ---- all fragments

  -- each number of a range is in it
  in_range : (k a m : ℕ) → a ≤ k → k < a + m → list_any (λ j. j == k) (range_with_len a m) ≡ true
  in_range k a zero low high = absurd (omega arith)
  in_range k a (suc m) low high =
      elim (a == k) as (λ b. a == k ≡ b → (b || list_any (λ j. j == k) (range_with_len (a + 1) m)) ≡ true) [
        | true ↦ λ e. refl
        | false ↦ λ e. in_range k (a + 1) m (later a k low e) (omega arith)
      ] refl
    where
      later : (a k : ℕ) → a ≤ k → (a == k) ≡ false → a + 1 ≤ k
      later a k low e = grind (arith, nat_tests)

  all_own : (n a m : ℕ) → a + m ≤ n → map (cell_at (range_with_len 0 n)) (range_with_len a m)
      ≡ map (λ k. One (own_at k)) (range_with_len a m)
  all_own n a zero below = refl
  all_own n a (suc m) below =
      let here = ap (λ b. cond b (One (own_at a)) Nothing) (in_range a 0 n (omega arith) (omega arith)) in
      let rest = all_own n (a + 1) m (omega arith) in
      λ i. here i ∷ rest i

  -- the report of every fragment's own answer is the meaning of the whole table
  pub report-own_answers : sum cut ≡ length rows → report plan (joined cut (answers (range_with_len 0 (length cut))))
      ≡ output (meaning plan dims (numbered rows))
  report-own_answers whole =
      ap (report plan) (joined-own (range_with_len 0 (length cut)) (range_with_len 0 (length cut))
      ∙ all_own (length cut) 0 (length cut) (omega arith))
      ∙ report-own plan dims cut rows (range_with_len 0 (length cut))
      ∙ ap (λ table. output (meaning plan dims table)) (part-all cut rows whole)

  -- ---- any state whose One cells hold own answers

  abbrev ones_from : ℕ → List Cell → List ℕ
  ones_from n cells = map (λ p. p.0) (filter (λ p. is_one p.1) (enumerate_from n cells))

  -- from the fragment n on, what stands alone in a cell is its fragment's own
  abbrev AreOwnFrom : ℕ → List Cell → Type 0
  AreOwnFrom n cells = (k : ℕ) (b : Body) → slice_get cells k ≡ Some (One b) → b ≡ own_at (n + k)

  own-later : (n : ℕ) (c : Cell) (cells : List Cell) → AreOwnFrom n (c ∷ cells) → AreOwnFrom (n + 1) cells
  own-later n c cells own k b at = let moved : n + suc k ≡ (n + 1) + k = omega arith in
      own (suc k) b at ∙ ap own_at moved

  bodies_of-own : (n : ℕ) (cells : List Cell) → AreOwnFrom n cells → filter_map body_in cells
      ≡ map (own_body plan dims) (map (λ k. fragment cut k rows) (ones_from n cells))
  bodies_of-own n [] own = refl
  bodies_of-own n (Nothing ∷ cells) own = bodies_of-own (n + 1) cells (own-later n Nothing cells own)
  bodies_of-own n (Conflict ∷ cells) own = bodies_of-own (n + 1) cells (own-later n Conflict cells own)
  bodies_of-own n (One b ∷ cells) own =
      let first : n + 0 ≡ n = omega arith in
      ap₂ (λ (c : Body) (cs : List Body). c ∷ cs) (own 0 b refl ∙ ap own_at first)
      (bodies_of-own (n + 1) cells (own-later n (One b) cells own))

  -- the preview of such a state is the meaning over the rows of the fragments that hold one answer
  pub preview-cells : (cells : List Cell)
      → ((k : ℕ) (b : Body) → slice_get cells k ≡ Some (One b) → b ≡ own_body plan dims (fragment cut k rows))
      → preview plan cells ≡ meaning plan dims (part cut (fragments_where is_one cells) rows)
  preview-cells cells own =
      ap (λ bs. output_of plan (combined plan bs))
      (bodies_of-own 0 cells (λ k b at. let first : k ≡ 0 + k = omega arith in own k b at ∙ ap own_at first))
      ∙ output_of-combined plan dims (map (λ k. fragment cut k rows) (fragments_where is_one cells))
      ∙ ap (λ table. meaning plan dims table) (fragments (fragments_where is_one cells))
