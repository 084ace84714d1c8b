-- Loops that judge elements in turn, and stop at the first refusal.
use Rattle.std.specs.Prelude.{◌≡◌, ℕ, ◌+◌, ◌<◌, ◌≤◌, List, [], ◌∷◌, ◌++◌, length, map, drop, get_or, slice_get, Some, Result, Ok, Err}
use Rattle.std.proofs.Common.{refl, sym, ap, ◌∙◌}
use Rattle.std.proofs.lemmas.Option.{slice_get-get_or}
use Rattle.meaning.specs.Results.{all_ok, and_then}
use Rattle.loader.proofs.Judging.{judged_behind, goes_on, fails, finishes}

none_before : {X E : Type 0} (r : Result (List X) E) → and_then r (λ behind. Ok ([] ++ behind)) ≡ r
none_before (Ok xs) = refl
none_before (Err e) = refl

there : {A : Type 0} (zs : List A) (i : ℕ) (z : A) → i < length zs → z ≡ get_or zs i z → slice_get zs i ≡ Some z
there zs i z below is = slice_get-get_or zs i z below ∙ ap Some (sym is)

module _ {A X E : Type 0} (judge : A → Result X E) (zs : List A) where
  -- those before went well, and what follows decides
  abbrev pub HasJudged : ℕ → List X → Type 0
  HasJudged i before = judged_behind judge before (drop i zs) ≡ all_ok (map judge zs)

  pub begins : HasJudged 0 []
  begins = none_before (all_ok (map judge zs))

  pub next : (i : ℕ) (before : List X) (z : A) (x : X) → i < length zs → z ≡ get_or zs i z → judge z ≡ Ok x → HasJudged i before → HasJudged (i + 1) (before ++ x ∷ [])
  next i before z x below is good so_far = goes_on judge before zs i z x (all_ok (map judge zs)) (there zs i z below is) good so_far

  pub stops : (i : ℕ) (before : List X) (z : A) (e : E) → i < length zs → z ≡ get_or zs i z → judge z ≡ Err e → HasJudged i before → all_ok (map judge zs) ≡ Err e
  stops i before z e below is bad so_far = fails judge before zs i z e (all_ok (map judge zs)) (there zs i z below is) bad so_far

  pub ends : (i : ℕ) (before : List X) → length zs ≤ i → HasJudged i before → all_ok (map judge zs) ≡ Ok before
  ends i before end so_far = finishes judge before zs i (all_ok (map judge zs)) end so_far
