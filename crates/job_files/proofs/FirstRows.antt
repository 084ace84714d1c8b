-- The numbers of fragments' first rows.
use Rattle.std.specs.Prelude.{◌≡◌, ℕ, ◌+◌, ◌<◌, ◌≤◌, ◌^◌, length, slice_index, get_or}
use Rattle.std.proofs.Common.{arith, add-one}
use Rattle.std.proofs.lemmas.List.Elements.{recursion_from_All}
use Rattle.meaning.specs.Cut.{IsCut, Cut, first_row}
use Rattle.meaning.specs.Limits.{max_rows}
use Rattle.meaning_laws.proofs.Cuts.{sum_to_next}
use Rattle.partial_codec.proofs.Fitting.{few_rows_before}

-- the next fragment begins where this one ends
pub next_first : (cut : Cut) (k : ℕ) → k < length cut → first_row cut (k + 1) ≡ first_row cut k + slice_index cut k
next_first cut k below = rw add-one (sum_to_next cut k below)

-- rows of a cut are numbered in 64 bits
pub first_fits : (cut : Cut) (k : ℕ) → IsCut cut → first_row cut k + 1048576 < 2 ^ 64
first_fits cut k is =
    let rows = few_rows_before cut k (recursion_from_All (λ n. n ≤ max_rows) cut is.short) in
    let few = is.few in
    omega (arith, rows, few)

pub next_fits : (cut : Cut) (k first n : ℕ) → IsCut cut → k < length cut → first ≡ first_row cut k → n ≡ get_or cut k 0
    → (first + n < 2 ^ 64) × (first + n ≡ first_row cut (k + 1))
next_fits cut k first n is below begins long =
    let next = next_first cut k below in
    let fits = first_fits cut (k + 1) is in
    (omega (arith, begins, long, next, fits), omega (arith, begins, long, next))
