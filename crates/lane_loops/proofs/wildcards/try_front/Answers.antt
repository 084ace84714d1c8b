-- Proofs of the goals of `try_front` (`wildcards`).
use Rattle.std.proofs.Common.{rules, ◌≡◌, ◌==◌, ◌∷◌, true, false, ap, ◌∙◌, arith}
use Rattle.std.proofs.lemmas.Bool.Decides.{nat_tests}
use Rattle.std.specs.Str.{chars}
use Rattle.meaning.specs.Like.{fits_one}
use Rattle.lane_loops.proofs.Likes.{sign_later, one_fits, one_later}
use Rattle.lane_loops.proofs.wildcards.try_front.Goals as goal

pub returns-then-sign-eq37-clause-later : goal.returns-then-sign-eq37-clause-later
returns-then-sign-eq37-clause-later c =
    let kept = c.loop-sign.invariant in
    let behind = chars c.in-Some.behind.now in
    let is : chars c.loop-sign.pattern_left.now ≡ 37 ∷ behind = c.in-Some.ensures.0 ∙ ap (λ p. p ∷ behind) c.if-sign-eq37.true in
    sign_later (chars c.args.pattern.now) (chars c.args.text.now) (chars c.loop-sign.pattern_left.now) (chars c.loop-sign.text_left.now) kept.here kept.later behind is

pub loop-sign-preserved : goal.loop-sign-preserved
loop-sign-preserved c =
    let kept = c.loop-sign.invariant in
    let pattern = chars c.args.pattern.now in
    let text = chars c.args.text.now in
    let ps = chars c.loop-sign.pattern_left.now in
    let ts = chars c.loop-sign.text_left.now in
    let sign = c.in-Some.sign in
    let behind = chars c.in-Some.behind.now in
    let more = chars c.in-Some-next_char.more.now in
    let other : (sign == 37) ≡ false = grind (arith, nat_tests) in
    let fits : fits_one sign c.in-Some-next_char.c ≡ true = search rules in
    record {
      pattern = search rules;
      text = search rules;
      here = one_fits pattern text ps ts kept.here kept.later sign behind c.in-Some.ensures.0 other c.in-Some-next_char.c more c.in-Some-next_char.ensures.0 fits;
      later = one_later pattern text ps ts kept.here kept.later sign behind c.in-Some.ensures.0 other c.in-Some-next_char.c more c.in-Some-next_char.ensures.0;
      shorter = omega (arith, c.in-Some.ensures.1, kept.shorter);
    }
