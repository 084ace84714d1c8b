-- Proofs of the goals of `are_ends` (`plain::check`).
use Rattle.std.proofs.Common.{◌≡◌, true, false, nat_le, arith}
use Rattle.std.proofs.lemmas.Bool.Decides.{nat_tests}
use Rattle.blocks.proofs.Ends.{ends_step, ends_end}
use Rattle.bit_packing.proofs.Steps.{and_true, and_false}
use Rattle.blocks.proofs.plain.check.are_ends.Goals as goal

pub returns-then-end-start : goal.returns-then-end-start
returns-then-end-start c =
    let step = ends_step c.args.count c.args.bytes.now c.loop-i.start c.loop-i.i c.args.total c.word_at-end.result _ c.loop-i-test.true c.word_at-end.ensures c.loop-i.invariant in
    let less : nat_le c.loop-i.start c.word_at-end.result ≡ false = grind (arith, nat_tests) in
    and_false _ _ _ step less

pub loop-i-preserved : goal.loop-i-preserved
loop-i-preserved c =
    let step = ends_step c.args.count c.args.bytes.now c.loop-i.start c.loop-i.i c.args.total c.word_at-end.result _ c.loop-i-test.true c.word_at-end.ensures c.loop-i.invariant in
    let more : nat_le c.loop-i.start c.word_at-end.result ≡ true = grind (arith, nat_tests) in
    and_true _ _ _ step more

pub returns : goal.returns
returns c = ends_end c.args.count c.args.bytes.now c.loop-i.start c.loop-i.i c.args.total _ c.loop-i-test.false c.loop-i.invariant
