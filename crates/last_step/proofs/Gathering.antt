-- Runs that are put behind others.
use Rattle.std.proofs.Common.{◌≡◌, ℕ, ◌+◌, ◌<◌, Bool, List, [], ◌∷◌, ◌++◌, map, take, drop, replicate, get_or, length, refl, sym, ap, ◌∙◌, append_assoc}
use Rattle.std.proofs.lemmas.List.{append-nil, map_more}
use Rattle.meaning.specs.declared.answer.Group.{Group}
use Rattle.meaning.specs.Order.{Row}
use Rattle.last_step.specs.declared.run.Run.{Run}
use Rattle.last_step.specs.Runs.{expanded, plain_rows, repeats, times_kept}

expanded-append : (rs ss : List Run) → expanded (rs ++ ss) ≡ expanded rs ++ expanded ss
expanded-append [] ss = refl
expanded-append (r ∷ rs) ss = ap (λ rows. repeats r ++ rows) (expanded-append rs ss) ∙ sym (append_assoc (repeats r) (expanded rs) (expanded ss))

pub pushed : (rs : List Run) (r : Run) → expanded (rs ++ r ∷ []) ≡ expanded rs ++ repeats r
pushed rs r = expanded-append rs (r ∷ []) ∙ ap (λ rows. expanded rs ++ rows) (append-nil (repeats r))

-- one row more
pub row_pushed : (rs more : List Run) (row : Row) (before : List Row) (f : ℕ → Row) (list : List ℕ) (k p : ℕ) → more ≡ rs ++ record { row = row; times = 1 } ∷ [] → row ≡ f p → p ≡ get_or list k 0
    → k < length list → expanded rs ≡ before ++ map f (take k list) → expanded more ≡ before ++ map f (take (k + 1) list)
row_pushed rs more row before f list k p is row_is p_is below so_far =
    ap expanded is ∙ pushed rs (record { row = row; times = 1 }) ∙ ap (λ (xs : List Row). xs ++ row ∷ []) so_far
    ∙ append_assoc before (map f (take k list)) (row ∷ []) ∙ ap (λ (x : Row). before ++ (map f (take k list) ++ x ∷ [])) (row_is ∙ ap f p_is)
    ∙ ap (λ (xs : List Row). before ++ xs) (sym (map_more f list k 0 below))

-- a key more, as often as it is kept
pub plain_pushed : (distinct : Bool) (rs more : List Run) (row : Row) (times : ℕ) (gs : List Group) (k : ℕ) (g : Group) (all : List Row) → more ≡ rs ++ record { row = row; times = times } ∷ []
    → row ≡ g.key → times ≡ times_kept distinct g.rows → drop k gs ≡ g ∷ drop (k + 1) gs → expanded rs ++ plain_rows distinct (drop k gs) ≡ all
    → expanded more ++ plain_rows distinct (drop (k + 1) gs) ≡ all
plain_pushed distinct rs more row times gs k g all is key rows here so_far =
    ap (λ (xs : List Row). xs ++ plain_rows distinct (drop (k + 1) gs)) (ap expanded is ∙ pushed rs (record { row = row; times = times }) ∙ (λ i. expanded rs ++ replicate (rows i) (key i)))
    ∙ append_assoc (expanded rs) (replicate (times_kept distinct g.rows) g.key) (plain_rows distinct (drop (k + 1) gs)) ∙ sym (ap (λ (zs : List Group). expanded rs ++ plain_rows distinct zs) here) ∙ so_far
