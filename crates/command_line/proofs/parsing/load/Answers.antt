use Rattle.std.proofs.Common.{refl, sym, ap, ◌∙◌, ◌∷◌, [], codes}
use Rattle.command_line.proofs.Among.{all_among, not_among}
use Rattle.command_line.proofs.Taken.{no_such, this_load}
use Rattle.command_line.proofs.parsing.load.Goals as goal

pub returns-then-not-has_only-clause-only : goal.returns-then-not-has_only-clause-only
returns-then-not-has_only-clause-only c = λ command of range.
    let this = this_load _ _ _ command of range in
    absurd (not_among (codes "load" ∷ codes "rows" ∷ []) c.args.parts.now _ c.has_only.ensures c.if-not-has_only.true this.among)

pub returns-in_default-number-clause-only : goal.returns-in_default-number-clause-only
returns-in_default-number-clause-only c = λ command of range.
    let this = this_load _ _ _ command of range in
    absurd (no_such _ (c.in_default-number.ensures.only this.load this.a_load.1 this.a_load.0))

pub returns-in_default-number_within-clause-only : goal.returns-in_default-number_within-clause-only
returns-in_default-number_within-clause-only c = λ command of range.
    let this = this_load _ _ _ command of range in
    absurd (no_such _ (c.in_default-number_within.ensures.only this.rows this.range.0 this.range.1 this.a_number))

pub returns-clause-said : goal.returns-clause-said
returns-clause-said c = record {
  is = refl;
  flags_are = sym (c.has_no_flag.ensures.0 c.if-not-has_no_flag.false);
  words = ap (λ w. w ∷ []) c.in_ok-new.ensures ∙ sym c.in-Some.ensures.word;
  among = all_among (codes "load" ∷ codes "rows" ∷ []) c.args.parts.now (sym c.has_only.ensures ∙ c.if-not-has_only.false);
  options = ((c.in-Some-number.ensures.said, c.in-Some-number.ensures.fits), c.in-Some-number_within.ensures.said.0);
}
