-- Cells that are read as states, at one group index.
use Rattle.std.specs.Prelude.{◌≡◌, ℕ, ◌<◌, List, length, map, get_or, slice_set, Result, Ok, Err, OnOk, OnErr}
use Rattle.std.proofs.Common.{sym, ap, ◌∙◌}
use Rattle.std.proofs.lemmas.List.{get_or-map, map-set, set-get_or}
use Rattle.meaning.specs.declared.answer.Statistics.{Statistics}
use Rattle.meaning.specs.Aggregate.{no_statistics, merge}
use Rattle.accumulators.specs.Columns.{merged_at}

module _ {A : Type 0} (held : A → Statistics) (states : List A → List Statistics) (each : (xs : List A) → states xs ≡ map held xs)
    (xs : List A) (p : ℕ) (d : A) (here : p < length xs) where
  read_there : held (get_or xs p d) ≡ get_or (states xs) p no_statistics
  read_there = sym (get_or-map held xs p d no_statistics here) ∙ ap (λ (ss : List Statistics). get_or ss p no_statistics) (sym (each xs))

  put_there : (y : A) → states (slice_set xs p y) ≡ slice_set (states xs) p (held y)
  put_there y = each (slice_set xs p y) ∙ map-set held xs p y ∙ ap (λ (ss : List Statistics). slice_set ss p (held y)) (sym (each xs))

  merged_there : (y : A) (more : Statistics) → held y ≡ merge (held (get_or xs p d)) more → states (slice_set xs p y) ≡ merged_at (states xs) p more
  merged_there y more e = put_there y ∙ ap (λ (s : Statistics). slice_set (states xs) p s) (e ∙ ap (λ (s : Statistics). merge s more) read_there)

  stays_there : (y : A) → held y ≡ held (get_or xs p d) → states (slice_set xs p y) ≡ states xs
  stays_there y e = put_there y ∙ ap (λ (s : Statistics). slice_set (states xs) p s) (e ∙ read_there) ∙ set-get_or (states xs) p no_statistics

  pub merged_on_ok : {T E : Type 0} (r : Result T E) (y : A) (more : Statistics) → OnOk r (held y ≡ merge (held (get_or xs p d)) more) → OnOk r (states (slice_set xs p y) ≡ merged_at (states xs) p more)
  merged_on_ok (Ok t) y more e = merged_there y more e
  merged_on_ok (Err f) y more e = e

  pub stays_on_err : {T E : Type 0} (r : Result T E) (y : A) → OnErr r (held y ≡ held (get_or xs p d)) → OnErr r (states (slice_set xs p y) ≡ states xs)
  stays_on_err (Ok t) y e = e
  stays_on_err (Err f) y e = stays_there y e
