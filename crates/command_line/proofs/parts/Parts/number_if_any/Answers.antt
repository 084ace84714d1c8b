use Rattle.command_line.specs.Steps.{given_of}
use Rattle.command_line.proofs.Values.{no_number}
use Rattle.command_line.proofs.parts.Parts.number_if_any.Goals as goal

pub returns-in_err-number_within-in-Once-clause-only : goal.returns-in_err-number_within-in-Once-clause-only
returns-in_err-number_within-in-Once-clause-only c = λ n said.
    absurd (no_number c.args.name.now (given_of c.args.self.now) _ n c.in-Once.ensures c.in_err-number_within-in-Once.ensures.only said)
