use Rattle.std.proofs.Common.{refl, sym, subst, ap, ◌∙◌, ◌∷◌, [], codes}
use Rattle.command_line.specs.Steps.{flags_of, given_of, plain_of}
use Rattle.command_line.specs.Said.{IsOf}
use Rattle.command_line.specs.declared.commands.Command.TheVariants.{Gather}
use Rattle.command_line.specs.declared.commands.GatherCommand.{GatherCommand}
use Rattle.command_line.proofs.Among.{all_among, folder_and_files, not_among}
use Rattle.command_line.proofs.Taken.{this_gather}
use Rattle.command_line.proofs.parsing.gather.Goals as goal

pub returns-then-not-has_only-clause-only : goal.returns-then-not-has_only-clause-only
returns-then-not-has_only-clause-only c = λ command of range.
    let this = this_gather _ _ _ command of range in
    absurd (not_among (codes "query" ∷ codes "save" ∷ codes "journal" ∷ []) c.args.parts.now _ c.has_only.ensures c.if-not-has_only.true this.among)

pub returns-clause-said : goal.returns-clause-said
returns-clause-said c =
    subst (λ (g : GatherCommand). IsOf (codes "gather") (given_of c.args.parts.now) (flags_of c.args.parts.now) (plain_of c.args.parts.now) (Gather g)) (sym c.in_ok-command.ensures) (record {
      is = refl;
      flags_are = sym c.in-Some-only_flag.ensures.flag;
      words = folder_and_files _ _ _ _ _ _ refl refl c.in-Some.ensures.cases.0 c.plain_words.ensures;
      among = all_among (codes "query" ∷ codes "save" ∷ codes "journal" ∷ []) c.args.parts.now (sym c.has_only.ensures ∙ c.if-not-has_only.false);
      options = (c.in-Some-text.ensures.said, c.in-Some-text_if_any.ensures.said, c.in-Some-text_if_any-2.ensures.said);
    })
