-- Rows, dimensions and numbers of a load's files.
use Rattle.std.proofs.Common.{◌≡◌, ◌≤◌, ◌<◌, ◌^◌, ℕ, suc, ◌+◌, List, [], ◌∷◌, length, take, get_or, refl, sym, subst, ap, ◌∙◌, arith, add-one}
use Rattle.std.specs.Prelude.{slice_index, sum}
use Rattle.std.specs.List.{enumerate_from}
use Rattle.meaning.specs.Cut.{IsCut, Cut, first_row}
use Rattle.meaning.specs.declared.catalog.Dimension.{Dimension}
use Rattle.columns.specs.Column.{ColumnSpec}
use Rattle.loader.proofs.FactSteps.{rows_few}
use Rattle.meaning_laws.proofs.Cuts.{sum_to_next}
use Rattle.std.proofs.lemmas.List.Sums.{sum_by-take-le}
use Rattle.folders.specs.Each.{AreEach}
use Rattle.folders.proofs.Each.{each_at}
use Rattle.loads.specs.Loading.{AreDimensionColumns}

-- the next fragment begins where this one ends
pub next_first : (cut : Cut) (k : ℕ) → k < length cut → first_row cut (k + 1) ≡ first_row cut k + slice_index cut k
next_first cut k below = rw add-one (sum_to_next cut k below)

-- rows of a cut are numbered in 64 bits
pub first_fits : (cut : Cut) (k : ℕ) → IsCut cut → first_row cut k < 2 ^ 64
first_fits cut k is = let all = rows_few cut is in let front : sum (take k cut) ≤ sum cut = sum_by-take-le (λ n. n) cut k in omega (arith, all, front)

pub next_fits : (cut lengths : List ℕ) (k first n : ℕ) → IsCut cut → lengths ≡ cut → k < length lengths → first ≡ first_row cut k → n ≡ get_or lengths k 0
    → (first + n < 2 ^ 64) × (first + n ≡ first_row cut (k + 1))
next_fits cut lengths k first n is same below begins long =
    let count = ap length same in
    let within : k < length cut = omega (arith, count) in
    let here : n ≡ slice_index cut k = long ∙ ap (λ l. get_or l k 0) same in
    let next = next_first cut k within in
    let fits = first_fits cut (k + 1) is in
    (omega (arith, begins, here, next, fits), omega (arith, begins, here, next))

-- each dimension has its columns
pub dimension_at : (ds declared : List Dimension) (dims : List (List ColumnSpec)) (k : ℕ) (d : Dimension) (columns : List ColumnSpec) → declared ≡ ds → k < length declared
    → d ≡ get_or declared k d → columns ≡ get_or dims k columns → AreEach AreDimensionColumns ds dims → AreDimensionColumns d columns
dimension_at ds declared dims k d columns same below d_is is all =
    let count = ap length same in
    let within : k < length ds = omega (arith, count) in
    let here : d ≡ get_or ds k d = d_is ∙ ap (λ l. get_or l k d) same in
    subst (λ (e : Dimension). AreDimensionColumns e columns) (sym here)
    (subst (λ (c : List ColumnSpec). AreDimensionColumns (get_or ds k d) c) (sym is) (each_at AreDimensionColumns ds dims k d columns within all))

-- numbering leaves the length
pub numbered_length : (s : ℕ) (l : List (List ColumnSpec)) → length (enumerate_from s l) ≡ length l
numbered_length s [] = refl
numbered_length s (x ∷ l) = ap (λ n. suc n) (numbered_length (s + 1) l)
