-- Proofs of the goals of `rows_of` (`runs::seek`).
use Rattle.std.proofs.Common.{◌≡◌, ℕ, ◌+◌, List, [], length, take, get_or, sum, sym, ap, ◌∙◌, arith}
use Rattle.std.specs.Int.{from_le_bytes, w16}
use Rattle.std.proofs.lemmas.List.{length-map, get_or-map}
use Rattle.std.proofs.lemmas.List.Sums.{sum_by_more}
use Rattle.blocks.specs.Dictionary.{codes_in}
use Rattle.blocks.proofs.runs.seek.rows_of.Goals as goal

pub loop-length-preserved : goal.loop-length-preserved
loop-length-preserved c =
    let lengths : List ℕ = codes_in c.args.lengths.now in
    let i : ℕ = c.loop-length.length-index in
    let l : length lengths ≡ length c.args.lengths.now = length-map c.args.lengths.now (from_le_bytes w16) in
    let v : c.from_le_bytes.result ≡ get_or lengths i 0
    = c.from_le_bytes.ensures ∙ sym (get_or-map (from_le_bytes w16) c.args.lengths.now i [] 0 (omega arith)) in
    let m : sum (take (i + 1) lengths) ≡ sum (take i lengths) + get_or lengths i 0 = sum_by_more (λ (n : ℕ). n) lengths i 0 (omega (arith, l)) in
    let s : c.loop-length.rows ≡ sum (take i lengths) = c.loop-length.invariant.0 in
    let u : c.loop-length.rows + c.from_le_bytes.result ≡ sum (take i lengths) + get_or lengths i 0 = ap (λ (k : ℕ). k + c.from_le_bytes.result) s ∙ ap (λ (k : ℕ). sum (take i lengths) + k) v in
    (u ∙ sym m, omega arith)
