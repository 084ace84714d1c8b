-- Proofs of the goals of `are_lengths` (`runs::check`).
use Rattle.std.proofs.Common.{◌≡◌, ◌+◌, ◌&&◌, ◌==◌, get_or, drop, sum, nat_le, true, false, sym, ap, ◌∙◌, arith}
use Rattle.std.proofs.lemmas.Bool.Decides.{nat_tests}
use Rattle.std.proofs.lemmas.List.{at_drop_all}
use Rattle.std.proofs.lemmas.List.Sums.{sum_by-drop_more}
use Rattle.bit_packing.specs.Bytes.{shorts}
use Rattle.bit_packing.proofs.Chunks.{get_or-shorts, length-shorts}
use Rattle.bit_packing.proofs.Steps.{all_keeps, all_stops, all_ends}
use Rattle.blocks.proofs.runs.check.are_lengths.Goals as goal

pub returns-then-run-eq0 : goal.returns-then-run-eq0
returns-then-run-eq0 c =
    let lengths = shorts c.args.count c.args.bytes.now in
    let long = length-shorts c.args.count c.args.bytes.now in
    let same : get_or lengths c.loop-i.i 0 ≡ c.short_at-run.result = get_or-shorts c.args.count c.loop-i.i c.args.bytes.now c.loop-i-test.true ∙ sym c.short_at-run.ensures in
    let none : nat_le 1 c.short_at-run.result ≡ false = grind (arith, nat_tests) in
    ap (λ b. b && (sum lengths == c.args.rows)) (all_stops (λ n. nat_le 1 n) lengths 0 _ c.loop-i.i (omega arith) c.loop-i.invariant.long (ap (λ k. nat_le 1 k) same ∙ none))

pub loop-i-preserved : goal.loop-i-preserved
loop-i-preserved c =
    let lengths = shorts c.args.count c.args.bytes.now in
    let long = length-shorts c.args.count c.args.bytes.now in
    let same : get_or lengths c.loop-i.i 0 ≡ c.short_at-run.result = get_or-shorts c.args.count c.loop-i.i c.args.bytes.now c.loop-i-test.true ∙ sym c.short_at-run.ensures in
    let some : nat_le 1 c.short_at-run.result ≡ true = grind (arith, nat_tests) in
    let more : sum (drop c.loop-i.i lengths) ≡ get_or lengths c.loop-i.i 0 + sum (drop (c.loop-i.i + 1) lengths) = sum_by-drop_more (λ n. n) lengths c.loop-i.i 0 (omega arith) in
    record {
      long = all_keeps (λ n. nat_le 1 n) lengths 0 _ c.loop-i.i (omega arith) c.loop-i.invariant.long (ap (λ k. nat_le 1 k) same ∙ some);
      total = omega arith;
      small = omega arith;
    }

pub returns : goal.returns
returns c =
    let lengths = shorts c.args.count c.args.bytes.now in
    let long = length-shorts c.args.count c.args.bytes.now in
    let none : sum (drop c.loop-i.i lengths) ≡ 0 = at_drop_all sum lengths c.loop-i.i (omega arith) in
    let all : c.loop-i.total ≡ sum lengths = omega arith in
    ap (λ n. n == c.args.rows) all ∙ ap (λ b. b && (sum lengths == c.args.rows)) (all_ends (λ n. nat_le 1 n) lengths 0 _ c.loop-i.i (omega arith) c.loop-i.invariant.long)
