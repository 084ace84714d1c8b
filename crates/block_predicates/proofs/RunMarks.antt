-- Rows of which a front is marked.
use Rattle.std.proofs.Common.{◌≡◌, ℕ, ◌+◌, ◌-◌, ◌≤◌, Bool, false, List, ◌++◌, length, take, drop, replicate, ap, sym, ◌∙◌, arith}
use Rattle.std.proofs.Math.Seq.{take-add}
use Rattle.std.proofs.lemmas.List.{drop-drop, drop-replicate, take-replicate}

-- so many more that aren't marked
pub more_unmarked : (rows : List Bool) (from count : ℕ) → from + count ≤ length rows → drop from rows ≡ replicate (length rows - from) false
    → take (from + count) rows ≡ take from rows ++ replicate count false
more_unmarked rows from count within unmarked =
    take-add from count rows ∙ ap (λ (ms : List Bool). take from rows ++ ms) (ap (take count) unmarked ∙ take-replicate count (length rows - from) false (omega (arith, within)))

-- what is left behind them
pub left_unmarked : (rows : List Bool) (from count : ℕ) → drop from rows ≡ replicate (length rows - from) false → drop (from + count) rows ≡ replicate (length rows - (from + count)) false
left_unmarked rows from count unmarked =
    let fewer : (length rows - from) - count ≡ length rows - (from + count) = omega arith in
    sym (drop-drop count from rows) ∙ ap (drop count) unmarked ∙ drop-replicate count (length rows - from) false
    ∙ ap (λ (n : ℕ). replicate n false) fewer
