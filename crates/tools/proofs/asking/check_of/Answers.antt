use Rattle.std.proofs.Common.{refl, rules, sym, ap, ◌∙◌, ◌∷◌, []}
use Rattle.command_line.proofs.Among.{all_among, not_among}
use Rattle.tools.proofs.Taken.{check_among}
use Rattle.tools.proofs.asking.check_of.Goals as goal

pub returns-then-not-has_only-clause-only : goal.returns-then-not-has_only-clause-only
returns-then-not-has_only-clause-only c = λ tool of.
    absurd (not_among ([]) c.args.parts.now _ c.has_only.ensures c.if-not-has_only.true (check_among _ _ _ tool of))

pub returns-clause-said : goal.returns-clause-said
returns-clause-said c = record {
  is = refl;
  flags_are = sym (c.has_no_flag.ensures.0 c.if-not-has_no_flag.false);
  words = ap (λ w. w ∷ []) c.in_ok-folder.ensures ∙ sym c.in-Some.ensures.word;
  among = all_among [] c.args.parts.now (sym c.has_only.ensures ∙ c.if-not-has_only.false);
  options = search rules;
  line = search rules;
}
