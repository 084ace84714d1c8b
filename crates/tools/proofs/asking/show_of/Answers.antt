use Rattle.std.proofs.Common.{refl, rules, sym, ap, ◌∙◌, ◌∷◌, [], codes}
use Rattle.command_line.proofs.Among.{all_among, not_among}
use Rattle.tools.proofs.Taken.{show_among}
use Rattle.tools.proofs.asking.show_of.Goals as goal

pub returns-then-not-has_only-clause-only : goal.returns-then-not-has_only-clause-only
returns-then-not-has_only-clause-only c = λ tool of.
    absurd (not_among (codes "rows" ∷ []) c.args.parts.now _ c.has_only.ensures c.if-not-has_only.true (show_among _ _ _ tool of))

pub returns-clause-said : goal.returns-clause-said
returns-clause-said c = record {
  is = refl;
  flags_are = sym c.in-Some-only_flag.ensures.flag;
  words = ap (λ w. w ∷ []) c.in_ok-path.ensures ∙ sym c.in-Some.ensures.word;
  among = all_among (codes "rows" ∷ []) c.args.parts.now (sym c.has_only.ensures ∙ c.if-not-has_only.false);
  options = c.in-Some-number_if_any.ensures.said;
  line = search rules;
}
