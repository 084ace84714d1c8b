use Rattle.std.proofs.Common.{subst, sym}
use Rattle.command_line.specs.Steps.{Moves}
use Rattle.command_line.specs.declared.reading.Next.TheVariants.{Plain}
use Rattle.command_line.proofs.Steps.{plain_behind}
use Rattle.command_line.proofs.reading.take.Goals as goal

pub returns-in_ok-add_plain-in-Plain : goal.returns-in_ok-add_plain-in-Plain
returns-in_ok-add_plain-in-Plain c =
    subst (λ next. Moves c.args.parts.now c.add_plain.new.self next c.args.word.now Plain) (sym c.in-Plain.is)
    (plain_behind _ _ c.args.word.now c.in_ok-add_plain-in-Plain.ensures.0 c.in_ok-add_plain-in-Plain.ensures.1 c.in_ok-add_plain-in-Plain.ensures.2)
