-- Once every fragment's own answer is among the files and none conflicts, what is printed is the query's meaning.
use Rattle.std.proofs.Common.{◌≡◌, ℕ, zero, suc, ◌+◌, ◌<◌, ◌≤◌, Bool, true, false, cond, List, [], ◌∷◌, map, filter, length, refl, sym, ap, ◌∙◌, arith}
use Rattle.std.specs.Prelude.{Contains, sum}
use Rattle.std.specs.List.{range_with_len, enumerate_from}
use Rattle.std.proofs.lemmas.Bool.{eq-eqb}
use Rattle.meaning.specs.Answer.{own, own_body}
use Rattle.meaning.specs.Cut.{Cut, fragment, numbered}
use Rattle.meaning.specs.Gather.{conflict, is_conflict, is_nothing, join_cells, missing, output, fragments_where, preview, report, same_body, unless_empty}
use Rattle.meaning.specs.Meaning.{meaning}
use Rattle.meaning.specs.Order.{Row}
use Rattle.meaning.specs.Output.{Output}
use Rattle.meaning.specs.Print.{output_text, report_text}
use Rattle.meaning.specs.Said.{Body}
use Rattle.meaning.specs.Said.{Cell}
use Rattle.meaning.specs.declared.answer.Cell.TheVariants.{Nothing, One, Conflict}
use Rattle.meaning.specs.declared.plan.Plan.{Plan}
use Rattle.meaning_laws.proofs.Cuts.{part-all}
use Rattle.meaning_laws.proofs.HeadlineLaw.{report-own, first_calm}
use Rattle.jobs.specs.Gathering.{Taking, answer, cell_among, cell_in, gathered, shown}
use Rattle.jobs.proofs.SameFiles.{said_already}

-- a cell that holds an answer and is no conflict holds it alone
only_one : (b : Body) (c : Cell) → join_cells (One b) c ≡ c → is_conflict c ≡ false → c ≡ One b
only_one b Nothing known calm = cc
only_one b (One x) known calm = elim (same_body b x) as (λ t. cond t (One b) Conflict ≡ One x → One x ≡ One b) [ true ↦ λ e. sym e | false ↦ λ e. cc ] known
only_one b Conflict known calm = cc

pushed : (b : Bool) (p : ℕ × Cell) (ps : List (ℕ × Cell)) → cond b (p.0 ∷ map (λ p. p.0) ps) (map (λ p. p.0) ps) ≡ map (λ p. p.0) (cond b (p ∷ ps) ps)
pushed true p ps = refl
pushed false p ps = refl

-- a report that is an output is that of the preview
previewed_behind : (conflicts missings : List ℕ) (shown meant : Output) → unless_empty conflict conflicts (unless_empty missing missings (output shown)) ≡ output meant → shown ≡ meant
previewed_behind [] [] shown meant is = cc
previewed_behind [] (k ∷ ks) shown meant is = cc
previewed_behind (k ∷ ks) missings shown meant is = cc

previewed : (plan : Plan) (cells : List Cell) (meant : Output) → report plan cells ≡ output meant → preview plan cells ≡ meant
previewed plan cells meant is = previewed_behind (fragments_where is_conflict cells) (fragments_where is_nothing cells) (preview plan cells) meant is

module _ (plan : Plan) (dims : List (List Row)) (cut : Cut) (rows : List Row) (takings : List Taking)
    (all_in : (k : ℕ) → k < length cut → Contains takings (answer (own plan dims cut rows k))) where
  abbrev own_at : ℕ → Body
  own_at k = own_body plan dims (fragment cut k rows)

  here_is : (k : ℕ) → cell_in k (answer (own plan dims cut rows k)) ≡ One (own_at k)
  here_is k = ap (λ b. cond b (One (own_at k)) Nothing) (eq-eqb k k refl)

  known : (k : ℕ) → k < length cut → join_cells (One (own_at k)) (cell_among k takings) ≡ cell_among k takings
  known k below = ap (λ c. join_cells c (cell_among k takings)) (sym (here_is k)) ∙ said_already k takings (answer (own plan dims cut rows k)) (all_in k below)

  own_cells : (n a m : ℕ) → a + m ≤ length cut
      → map (λ p. p.0) (filter (λ p. is_conflict p.1) (enumerate_from n (map (λ k. cell_among k takings) (range_with_len a m)))) ≡ []
      → map (λ k. cell_among k takings) (range_with_len a m) ≡ map (λ k. One (own_at k)) (range_with_len a m)
  own_cells n a zero below calm = refl
  own_cells n a (suc m) below calm =
      let more = filter (λ p. is_conflict p.1) (enumerate_from (n + 1) (map (λ k. cell_among k takings) (range_with_len (a + 1) m))) in
      let parts = first_calm (is_conflict (cell_among a takings)) n (map (λ p. p.0) more) (pushed (is_conflict (cell_among a takings)) (n, cell_among a takings) more ∙ calm) in
      let here = only_one (own_at a) (cell_among a takings) (known a (omega (arith, below))) parts.0 in
      λ i. here i ∷ own_cells (n + 1) (a + 1) m (omega (arith, below)) parts.1 i

  pub report_gathered : sum cut ≡ length rows → fragments_where is_conflict (gathered cut takings) ≡ [] → report plan (gathered cut takings) ≡ output (meaning plan dims (numbered rows))
  report_gathered whole calm =
      ap (report plan) (own_cells 0 0 (length cut) (omega arith) calm) ∙ report-own plan dims cut rows (range_with_len 0 (length cut))
      ∙ ap (λ table. output (meaning plan dims table)) (part-all cut rows whole)

  pub text_gathered : sum cut ≡ length rows → fragments_where is_conflict (gathered cut takings) ≡ []
      → (asked : Bool) → report_text plan (shown asked plan (gathered cut takings)) ≡ output_text plan (meaning plan dims (numbered rows))
  text_gathered whole calm true = ap (output_text plan) (previewed plan (gathered cut takings) (meaning plan dims (numbered rows)) (report_gathered whole calm))
  text_gathered whole calm false = ap (report_text plan) (report_gathered whole calm)
