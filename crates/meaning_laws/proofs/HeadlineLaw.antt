-- Once every fragment's own answer is in and none conflicts, the report is the query's meaning over the whole table.
use Rattle.std.specs.Prelude.{◌≡◌, ℕ, zero, suc, ◌+◌, ◌<◌, ◌≤◌, ◌==◌, Bool, true, false, cond, ◌||◌, List, [], ◌∷◌, ◌++◌, map, filter, filter_map, flat_map, length, sum, Contains, slice_index_or}
use Rattle.std.specs.List.{list_any, range_with_len, enumerate_from}
use Rattle.std.proofs.Common.{refl, sym, ap, ◌∙◌, arith}
use Rattle.std.proofs.lemmas.Bool.{eq-eqb}
use Rattle.meaning.specs.declared.plan.Plan.{Plan}
use Rattle.meaning.specs.Said.{Body}
use Rattle.meaning.specs.Said.{Answer}
use Rattle.meaning.specs.Said.{Cell}
use Rattle.meaning.specs.declared.answer.Cell.TheVariants.{Nothing, One, Conflict}
use Rattle.meaning.specs.Order.{Row}
use Rattle.meaning.specs.Cut.{Cut, numbered, fragment, part}
use Rattle.meaning.specs.Meaning.{meaning}
use Rattle.meaning.specs.Answer.{own, own_body, combined, output_of}
use Rattle.meaning.specs.Gather.{same_body, join_cells, cell_of, said_of, joined, is_conflict, is_nothing, body_in, fragments_where, conflict, missing, output, unless_empty, preview, report}
use Rattle.meaning.specs.Print.{output_text, report_text}
use Rattle.meaning.proofs.Same.{same_body_itself}
use Rattle.meaning.proofs.Tests.{or_second}
use Rattle.meaning_laws.proofs.Cells.{known_answer}
use Rattle.meaning_laws.proofs.Combine.{output_of-combined}
use Rattle.meaning_laws.proofs.Cuts.{part-all}

pub first_calm : (b : Bool) (p : ℕ) (ps : List ℕ) → cond b (p ∷ ps) ps ≡ [] → (b ≡ false) × (ps ≡ [])
first_calm true p ps e = cc
first_calm false p ps e = (refl, e)

module _ (plan : Plan) (dims : List (List Row)) (cut : Cut) (rows : List Row) where
  -- what is known of a fragment
  abbrev own_at : ℕ → Body
  own_at k = own_body plan dims (fragment cut k rows)

  abbrev own_cell : ℕ → Cell
  own_cell k = One (own_at k)

  -- ---- a state of own answers alone

  bodies_in : (ks : List ℕ) → filter_map body_in (map own_cell ks)
      ≡ map (own_body plan dims) (map (λ k. fragment cut k rows) ks)
  bodies_in [] = refl
  bodies_in (k ∷ ks) = ap (λ bs. own_at k ∷ bs) (bodies_in ks)

  fragments : (ks : List ℕ) → flat_map (λ p. p) (map (λ k. fragment cut k rows) ks) ≡ part cut ks rows
  fragments [] = refl
  fragments (k ∷ ks) = ap (λ rest. fragment cut k rows ++ rest) (fragments ks)

  -- a preview of own answers is the query's meaning over their fragments
  pub preview-own : (ks : List ℕ) → preview plan (map own_cell ks) ≡ meaning plan dims (part cut ks rows)
  preview-own ks =
      ap (λ bs. output_of plan (combined plan bs)) (bodies_in ks)
      ∙ output_of-combined plan dims (map (λ k. fragment cut k rows) ks)
      ∙ ap (λ table. meaning plan dims table) (fragments ks)

  no_fragment : (test : Cell → Bool) → ((k : ℕ) → test (own_cell k) ≡ false) → (n : ℕ) (ks : List ℕ)
      → map (λ p. p.0) (filter (λ p. test p.1) (enumerate_from n (map own_cell ks))) ≡ []
  no_fragment test none n [] = refl
  no_fragment test none n (k ∷ ks) =
      ap (λ b. map (λ (p : ℕ × Cell). p.0)
      (cond b ((n, own_cell k) ∷ filter (λ p. test p.1) (enumerate_from (n + 1) (map own_cell ks)))
      (filter (λ p. test p.1) (enumerate_from (n + 1) (map own_cell ks))))) (none k)
      ∙ no_fragment test none (n + 1) ks

  pub report-own : (ks : List ℕ) → report plan (map own_cell ks) ≡ output (meaning plan dims (part cut ks rows))
  report-own ks =
      ap (λ js. unless_empty conflict js
      (unless_empty missing (fragments_where is_nothing (map own_cell ks)) (output (preview plan (map own_cell ks)))))
      (no_fragment is_conflict (λ k. refl) 0 ks)
      ∙ ap (λ js. unless_empty missing js (output (preview plan (map own_cell ks))))
      (no_fragment is_nothing (λ k. refl) 0 ks)
      ∙ ap output (preview-own ks)

  -- ---- every own answer is in, and none conflicts

  -- a cell that holds an answer and is no conflict holds it alone
  only_one : (b : Body) (c : Cell) → join_cells (One b) c ≡ c → is_conflict c ≡ false → c ≡ One b
  only_one b Nothing known calm = cc
  only_one b (One x) known calm =
      elim (same_body b x) as (λ t. cond t (One b) Conflict ≡ One x → One x
      ≡ One b) [ true ↦ λ e. sym e | false ↦ λ e. cc ] known
  only_one b Conflict known calm = cc

  said : (answers : List Answer) (a : Answer) (i : ℕ) → i < length answers → slice_index_or answers i a
      ≡ a → list_any (same_body a.body) (said_of a.k answers) ≡ true
  said [] a i below e = absurd (omega arith)
  said (x ∷ answers) a zero below e =
      let same_k : (x.k == a.k) ≡ true = eq-eqb x.k a.k (ap (λ y. y.k) e) in
      let same_b : same_body a.body x.body
      ≡ true = ap (same_body a.body) (ap (λ y. y.body) e) ∙ same_body_itself a.body in
      ap (λ t. list_any (same_body a.body)
      (map (λ y. y.body) (cond t (x ∷ filter (λ y. y.k == a.k) answers) (filter (λ y. y.k == a.k) answers)))) same_k
      ∙ ap (λ t. t || list_any (same_body a.body) (said_of a.k answers)) same_b
  said (x ∷ answers) a (suc i) below e =
      let rest = said answers a i (omega arith) e in
      elim (x.k == a.k) as (λ t. list_any (same_body a.body)
      (map (λ (y : Answer). y.body) (cond t (x ∷ filter (λ y. y.k == a.k) answers)
      (filter (λ y. y.k == a.k) answers))) ≡ true) [
        | true ↦ or_second (same_body a.body x.body) _ rest
        | false ↦ rest
      ]

  module _ (answers : List Answer)
      (all_in : (k : ℕ) → k < length cut → Contains answers (own plan dims cut rows k)) where
    abbrev cell_at : ℕ → Cell
    cell_at k = cell_of (said_of k answers)

    own_cells : (n a m : ℕ) → a + m ≤ length cut
        → map (λ p. p.0) (filter (λ p. is_conflict p.1) (enumerate_from n (map cell_at (range_with_len a m))))
        ≡ [] → map cell_at (range_with_len a m) ≡ map own_cell (range_with_len a m)
    own_cells n a zero below calm = refl
    own_cells n a (suc m) below calm =
        let inside = all_in a (omega arith) in
        let more = filter (λ p. is_conflict p.1) (enumerate_from (n + 1) (map cell_at (range_with_len (a + 1) m))) in
        let parts = first_calm (is_conflict (cell_at a)) n (map (λ p. p.0) more)
        (pushed (is_conflict (cell_at a)) (n, cell_at a) more ∙ calm) in
        let here = only_one (own_at a) (cell_at a)
        (known_answer (own_at a) (said_of a answers)
        (said answers (own plan dims cut rows a) inside.0 inside.1 inside.2)) parts.0 in
        λ i. here i ∷ own_cells (n + 1) (a + 1) m (omega arith) parts.1 i
      where
        pushed : (b : Bool) (p : ℕ × Cell) (ps : List (ℕ × Cell))
            → cond b (p.0 ∷ map (λ p. p.0) ps) (map (λ p. p.0) ps) ≡ map (λ p. p.0) (cond b (p ∷ ps) ps)
        pushed true p ps = refl
        pushed false p ps = refl

    -- the headline: what is reported is the query's meaning over the whole table
    pub report-joined : sum cut ≡ length rows → fragments_where is_conflict (joined cut answers)
        ≡ [] → report plan (joined cut answers) ≡ output (meaning plan dims (numbered rows))
    report-joined whole calm =
        ap (report plan) (own_cells 0 0 (length cut) (omega arith) calm) ∙ report-own (range_with_len 0 (length cut))
        ∙ ap (λ table. output (meaning plan dims table)) (part-all cut rows whole)

    -- and so is what is printed
    pub text-joined : sum cut ≡ length rows → fragments_where is_conflict (joined cut answers)
        ≡ [] → report_text plan (report plan (joined cut answers))
        ≡ output_text plan (meaning plan dims (numbered rows))
    text-joined whole calm = ap (report_text plan) (report-joined whole calm)
