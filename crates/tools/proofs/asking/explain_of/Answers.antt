use Rattle.std.proofs.Common.{refl, rules, sym, subst, ap, ◌∙◌, ◌∷◌, [], codes}
use Rattle.command_line.specs.Said.{HasText}
use Rattle.command_line.specs.Steps.{given_of}
use Rattle.command_line.proofs.Among.{all_among, not_among}
use Rattle.tools.proofs.Taken.{explain_among}
use Rattle.tools.proofs.asking.explain_of.Goals as goal

pub returns-then-not-has_only-clause-only : goal.returns-then-not-has_only-clause-only
returns-then-not-has_only-clause-only c = λ tool of.
    absurd (not_among (codes "query" ∷ []) c.args.parts.now _ c.has_only.ensures c.if-not-has_only.true (explain_among _ _ _ tool of))

pub returns-clause-said : goal.returns-clause-said
returns-clause-said c = record {
  is = refl;
  flags_are = sym (c.has_no_flag.ensures.0 c.if-not-has_no_flag.false);
  words = ap (λ w. w ∷ []) c.in_ok-folder.ensures ∙ sym c.in-Some.ensures.word;
  among = all_among (codes "query" ∷ []) c.args.parts.now (sym c.has_only.ensures ∙ c.if-not-has_only.false);
  options = subst (HasText (codes "query") (given_of c.args.parts.now)) (sym c.in_ok-query.ensures) c.in-Some-text.ensures.said;
  line = search rules;
}
