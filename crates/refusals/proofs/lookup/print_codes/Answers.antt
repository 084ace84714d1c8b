-- Proofs of the goals of `print_codes` (`lookup`).
use Rattle.std.proofs.Common.{◌≡◌, arith, subst}
use Rattle.refusals.specs.Texts.{PrintsSentences}
use Rattle.refusals.proofs.Sentences.{no_sentence, one_sentence}
use Rattle.refusals.proofs.lookup.print_codes.Goals as goal

pub loop-number-init : goal.loop-number-init
loop-number-init g c = (omega (arith), no_sentence c.args.layer _)

pub loop-number-preserved : goal.loop-number-preserved
loop-number-preserved g c =
    let so_far = c.loop-number.invariant in
    (omega (arith, c.loop-number-test.true), one_sentence c.args.layer c.loop-number.number _ _ _ so_far.1 c.in_ok-print_code.ensures)

pub returns : goal.returns
returns g c =
    let so_far = c.loop-number.invariant in
    let all : c.loop-number.number ≡ 17 = omega (arith, c.loop-number-test.false, so_far.0) in
    let before = g.W.Write.contents c.args.out.now in
    let after = g.W.Write.contents c.loop-number.out in
    subst (λ n. PrintsSentences c.args.layer n before after) all so_far.1
