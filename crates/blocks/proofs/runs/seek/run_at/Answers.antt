-- Proofs of the goals of `run_at` (`runs::seek`).
use Rattle.std.proofs.Common.{◌≡◌, ℕ, ◌+◌, List, [], length, take, get_or, sum, sym, ◌∙◌, arith}
use Rattle.std.specs.Int.{from_le_bytes, w16}
use Rattle.std.proofs.lemmas.List.{length-map, get_or-map}
use Rattle.std.proofs.lemmas.List.Sums.{sum_by_more}
use Rattle.blocks.specs.Dictionary.{codes_in}
use Rattle.blocks.proofs.runs.seek.run_at.Goals as goal

pub loop-run-preserved : goal.loop-run-preserved
loop-run-preserved c =
    let lengths : List ℕ = codes_in c.args.lengths.now in
    let run : ℕ = c.loop-run.run in
    let l : length lengths ≡ length c.args.lengths.now = length-map c.args.lengths.now (from_le_bytes w16) in
    let f : c.from_le_bytes-rows.result ≡ get_or lengths run 0
    = c.from_le_bytes-rows.ensures ∙ sym (get_or-map (from_le_bytes w16) c.args.lengths.now run [] 0 (omega arith)) in
    let more : sum (take (run + 1) lengths) ≡ sum (take run lengths) + get_or lengths run 0 = sum_by_more (λ (n : ℕ). n) lengths run 0 (omega (arith, l)) in
    let kept : c.loop-run.skip + sum (take run lengths) ≡ c.args.from = c.loop-run.invariant in
    omega (arith, f, more, kept)
