use Rattle.std.proofs.Common.{◌≤◌, refl, rules, sym, ap, map, ◌∙◌, [], arith, length}
use Rattle.std.proofs.lemmas.List.{length-map}
use Rattle.command_line.proofs.Among.{all_among, not_among}
use Rattle.tools.proofs.Taken.{refusal_among}
use Rattle.tools.proofs.asking.refusal_of.Goals as goal

pub returns-then-not-has_only-clause-only : goal.returns-then-not-has_only-clause-only
returns-then-not-has_only-clause-only c = λ tool of.
    absurd (not_among ([]) c.args.parts.now _ c.has_only.ensures c.if-not-has_only.true (refusal_among _ _ _ tool of))

pub returns-clause-said : goal.returns-clause-said
returns-clause-said c = record {
  is = refl;
  flags_are = sym (c.has_no_flag.ensures.0 c.if-not-has_no_flag.false);
  words = c.in_ok-texts.ensures ∙ ap (map (λ w. w.now)) c.plain_words-words.ensures;
  among = all_among [] c.args.parts.now (sym c.has_only.ensures ∙ c.if-not-has_only.false);
  options = search rules;
  line =
      let some : 1 ≤ length c.plain_words-words.result.now = search rules in
      let same = ap length c.in_ok-texts.ensures ∙ length-map c.plain_words-words.result.now (λ w. w.now) in
      omega (arith, some, same);
}
