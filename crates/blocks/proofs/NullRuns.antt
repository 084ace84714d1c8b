-- The mask beside runs.
use Rattle.std.proofs.Common.{◌≡◌, ℕ, zero, suc, ◌+◌, ◌-◌, ◌<◌, ◌≤◌, Bool, true, false, not, ◌&&◌, ◌||◌, List, ◌∷◌, ◌++◌, length, get_or, drop, map, zip, replicate, refl, sym, ap, ◌∙◌, arith}
use Rattle.std.specs.List.{list_all, range_with_len}
use Rattle.std.proofs.lemmas.List.{drop_more}
use Rattle.std.proofs.lemmas.Slice.Zip.{get_or-zip, length-zip}
use Rattle.meaning.specs.declared.value.Value.{Value}
use Rattle.meaning.specs.declared.value.Value.TheVariants.{Null}
use Rattle.blocks.specs.Block.{is_blank}
use Rattle.blocks.specs.Runs.{repeated}

abbrev pub is_unmasked_or_blank : Bool × Value → Bool
is_unmasked_or_blank p = not p.0 || is_blank p.1

or_true : (b : Bool) → true ≡ (b || true)
or_true true = refl
or_true false = refl

shared : (x b a r : Bool) → ((x || b) && ((b || a) && r)) ≡ ((b || (x && a)) && r)
shared true true a r = refl
shared true false a r = refl
shared false true a r = refl
shared false false a r = refl

module _ (bit : ℕ → Bool) (v : Value) (rest : List Value) where
  run_split : (l start n : ℕ) → l ≤ n → list_all is_unmasked_or_blank (zip (map bit (range_with_len start n)) (replicate l v ++ rest)) ≡ ((is_blank v || list_all (λ j. not (bit j)) (range_with_len start l)) && list_all is_unmasked_or_blank (zip (map bit (range_with_len (start + l) (n - l))) rest))
  run_split zero start n h =
      let same : start ≡ start + 0 = omega arith in
      let all : n ≡ n - 0 = omega arith in
      ap (λ k. list_all is_unmasked_or_blank (zip (map bit (range_with_len k n)) rest)) same
      ∙ ap (λ k. list_all is_unmasked_or_blank (zip (map bit (range_with_len (start + 0) k)) rest)) all
      ∙ ap (λ b. b && list_all is_unmasked_or_blank (zip (map bit (range_with_len (start + 0) (n - 0))) rest)) (or_true (is_blank v))
  run_split (suc l) start zero h = absurd (omega arith)
  run_split (suc l) start (suc n) h =
      let same : start + 1 + l ≡ start + suc l = omega arith in
      let all : n - l ≡ suc n - suc l = omega arith in
      ap (λ b. (not (bit start) || is_blank v) && b) (run_split l (start + 1) n (omega arith))
      ∙ shared (not (bit start)) (is_blank v) (list_all (λ j. not (bit j)) (range_with_len (start + 1) l)) (list_all is_unmasked_or_blank (zip (map bit (range_with_len (start + 1 + l) (n - l))) rest))
      ∙ ap (λ k. (is_blank v || (not (bit start) && list_all (λ j. not (bit j)) (range_with_len (start + 1) l))) && list_all is_unmasked_or_blank (zip (map bit (range_with_len k (n - l))) rest)) same
      ∙ ap (λ k. (is_blank v || (not (bit start) && list_all (λ j. not (bit j)) (range_with_len (start + 1) l))) && list_all is_unmasked_or_blank (zip (map bit (range_with_len (start + suc l) k)) rest)) all

pub null_run_step : (bit : ℕ → Bool) (values : List Value) (lengths : List ℕ) (i start n run : ℕ) (r : Bool) → i < length values → i < length lengths → run ≡ get_or lengths i 0 → run ≤ n
    → list_all is_unmasked_or_blank (zip (map bit (range_with_len start n)) (repeated (drop i (zip values lengths)))) ≡ r
    → ((is_blank (get_or values i Null) || list_all (λ j. not (bit j)) (range_with_len start run)) && list_all is_unmasked_or_blank (zip (map bit (range_with_len (start + run) (n - run))) (repeated (drop (i + 1) (zip values lengths))))) ≡ r
null_run_step bit values lengths i start n run r known room read fits e =
    let long = length-zip values lengths in
    let here = drop_more (zip values lengths) i (Null, 0) (omega arith) ∙ ap (λ p. p ∷ drop (i + 1) (zip values lengths)) (get_or-zip values lengths i (Null, 0) known room) in
    sym (run_split bit (get_or values i Null) (repeated (drop (i + 1) (zip values lengths))) run start n fits)
    ∙ ap (λ l. list_all is_unmasked_or_blank (zip (map bit (range_with_len start n)) (replicate l (get_or values i Null) ++ repeated (drop (i + 1) (zip values lengths))))) read
    ∙ sym (ap (λ runs. list_all is_unmasked_or_blank (zip (map bit (range_with_len start n)) (repeated runs))) here) ∙ e
