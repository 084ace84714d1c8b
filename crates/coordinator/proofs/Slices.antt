-- The rows of one fragment after another, from the front of a table.
use Rattle.std.specs.Prelude.{◌≡◌, ℕ, zero, suc, ◌+◌, ◌<◌, ◌≤◌, List, [], ◌∷◌, ◌++◌, length, take, drop, sum, slice_index}
use Rattle.std.specs.List.{range_with_len}
use Rattle.std.proofs.Common.{sym, ap, ◌∙◌, arith}
use Rattle.std.proofs.Math.Numerals.{suc-eq-add-one}
use Rattle.std.proofs.lemmas.List.{length-drop, map-append}
use Rattle.std.proofs.lemmas.List.Sums.{sum_by-take-le}
use Rattle.meaning.specs.declared.plan.Plan.{Plan}
use Rattle.meaning.specs.Order.{Row}
use Rattle.meaning.specs.Cut.{Cut, first_row}
use Rattle.meaning.specs.Answer.{own}
use Rattle.meaning_laws.specs.Laws.{own_answers}
use Rattle.meaning_laws.proofs.Cuts.{sum_to_next}
use Rattle.loader.proofs.Ranges.{range_to_next}

-- the fragment's rows are there
pub room : (cut : Cut) (k : ℕ) (rows : List Row) → k < length cut → length rows ≡ sum cut → slice_index cut k ≤ length (drop (first_row cut k) rows)
room cut k rows below whole =
    let next = sum_to_next cut k below in
    let most : sum (take (suc k) cut) ≤ sum cut = sum_by-take-le (λ n. n) cut (suc k) in
    let left = length-drop (first_row cut k) rows in
    grind (arith, next, most, left, whole)

-- the own answers of one fragment more
pub own_answers_to_next : (plan : Plan) (dims : List (List Row)) (cut : Cut) (rows : List Row) (k : ℕ)
    → own_answers plan dims cut rows (range_with_len 0 (k + 1)) ≡ own_answers plan dims cut rows (range_with_len 0 k) ++ own plan dims cut rows k ∷ []
own_answers_to_next plan dims cut rows k =
    let same : 0 + k ≡ k = omega arith in
    ap (λ n. own_answers plan dims cut rows (range_with_len 0 n)) (sym (suc-eq-add-one k))
    ∙ ap (own_answers plan dims cut rows) (range_to_next 0 k ∙ ap (λ j. range_with_len 0 k ++ j ∷ []) same)
    ∙ map-append (λ j. own plan dims cut rows j) (range_with_len 0 k) (k ∷ [])
