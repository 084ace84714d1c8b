-- Proofs of the goals of `rows_of_few` (`runs::seek`).
use Rattle.std.proofs.Common.{◌≡◌, ℕ, ◌+◌, List, [], length, take, get_or, sum, sym, ◌∙◌, arith}
use Rattle.std.specs.Int.{from_le_bytes, w16}
use Rattle.std.proofs.lemmas.List.{length-map, get_or-map}
use Rattle.std.proofs.lemmas.List.Sums.{sum_by_more}
use Rattle.blocks.specs.Dictionary.{codes_in}
use Rattle.blocks.proofs.runs.seek.rows_of_few.Goals as goal

pub loop-length-preserved : goal.loop-length-preserved
loop-length-preserved c =
    let lengths : List ℕ = codes_in c.args.lengths.now in
    let i : ℕ = c.loop-length.length-index in
    let l : length lengths ≡ length c.args.lengths.now = length-map c.args.lengths.now (from_le_bytes w16) in
    let n : c.from_le_bytes-n.result ≡ get_or lengths i 0
    = c.from_le_bytes-n.ensures ∙ sym (get_or-map (from_le_bytes w16) c.args.lengths.now i [] 0 (omega arith)) in
    let more : sum (take (i + 1) lengths) ≡ sum (take i lengths) + get_or lengths i 0 = sum_by_more (λ (k : ℕ). k) lengths i 0 (omega (arith, l)) in
    let low = c.loop-length.invariant.low in
    record {
      low = omega (arith, n, more, low);
      short = λ h. (let before = c.loop-length.invariant.short (omega (arith, h, c.max-greatest.ensures)) in omega (arith, h, n, more, before, c.max-greatest.ensures));
    }
