-- Proofs of the goals of `pass_over` (`runs::seek`).
use Rattle.std.proofs.Common.{◌≡◌, ℕ, ◌+◌, ◌-◌, ◌*◌, ◌≤◌, List, take, drop, sum, ap, ◌∙◌, arith}
use Rattle.std.specs.Int.{from_le_bytes, w16}
use Rattle.blocks.specs.Dictionary.{codes_in}
use Rattle.blocks.proofs.PassedRuns.{sum_more}
use Rattle.blocks.proofs.runs.seek.pass_over.Goals as goal

pub loop-k-preserved : goal.loop-k-preserved
loop-k-preserved c =
    let xs : List (List ℕ) = c.args.lengths.now in
    let k : ℕ = c.loop-k.k in
    let before : ℕ = sum (take (32 * k) (codes_in xs)) in
    let group : ℕ = sum (codes_in (take 32 (drop (32 * k) xs))) in
    let next : 32 * (k + 1) ≡ 32 * k + 32 = omega arith in
    let size : 32 * k + 32 - 32 * k ≡ 32 = omega arith in
    let more : sum (take (32 * (k + 1)) (codes_in xs)) ≡ before + group
    = ap (λ (n : ℕ). sum (take n (codes_in xs))) next ∙ sum_more (from_le_bytes w16) xs (32 * k) 32 in
    let rows : c.rows_of_few-rows.result ≡ group = c.rows_of_few-rows.ensures ∙ ap (λ (n : ℕ). sum (codes_in (take n (drop (32 * k) xs)))) size in
    let kept : c.loop-k.skip + before ≡ c.args.from = c.loop-k.invariant in
    let less : c.rows_of_few-rows.result ≤ c.loop-k.skip = omega arith in
    omega (arith, more, rows, kept, less)
