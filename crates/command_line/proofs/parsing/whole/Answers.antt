use Rattle.std.proofs.Common.{refl, sym, subst, ap, ◌∙◌, ◌∷◌, [], codes}
use Rattle.command_line.specs.Steps.{given_of}
use Rattle.command_line.specs.Said.{HasText}
use Rattle.command_line.proofs.Among.{all_among, not_among}
use Rattle.command_line.proofs.Taken.{no_such, this_whole}
use Rattle.command_line.proofs.parsing.whole.Goals as goal

pub returns-then-not-has_only-clause-only : goal.returns-then-not-has_only-clause-only
returns-then-not-has_only-clause-only c = λ command of range.
    let this = this_whole _ _ _ command of range in
    absurd (not_among (codes "query" ∷ codes "rows" ∷ codes "vector" ∷ []) c.args.parts.now _ c.has_only.ensures c.if-not-has_only.true this.among)

pub returns-in_default-number_within-clause-only : goal.returns-in_default-number_within-clause-only
returns-in_default-number_within-clause-only c = λ command of range.
    let this = this_whole _ _ _ command of range in
    absurd (no_such _ (c.in_default-number_within.ensures.only this.rows this.range.0.0 this.range.0.1 this.a_number))

pub returns-in_default-vector-clause-only : goal.returns-in_default-vector-clause-only
returns-in_default-vector-clause-only c = λ command of range.
    let this = this_whole _ _ _ command of range in
    absurd (no_such _ (c.in_default-vector.ensures.only this.vector this.range.1.0 this.range.1.1 this.a_vector))

pub returns-clause-said : goal.returns-clause-said
returns-clause-said c = record {
  is = refl;
  flags_are = sym (c.has_no_flag.ensures.0 c.if-not-has_no_flag.false);
  words = ap (λ w. w ∷ []) c.in_ok-new.ensures ∙ sym c.in-Some.ensures.word;
  among = all_among (codes "query" ∷ codes "rows" ∷ codes "vector" ∷ []) c.args.parts.now (sym c.has_only.ensures ∙ c.if-not-has_only.false);
  options = (subst (HasText (codes "query") (given_of c.args.parts.now)) (sym c.in_ok-new-2.ensures) c.in-Some-text.ensures.said, c.in-Some-number_within.ensures.said.0, c.in-Some-vector.ensures.said.0);
}
