use Rattle.command_line.specs.Steps.{given_of}
use Rattle.command_line.proofs.Values.{vector_once}
use Rattle.command_line.proofs.parts.Parts.vector.Goals as goal

pub returns-in-Once-clause-only : goal.returns-in-Once-clause-only
returns-in-Once-clause-only c = λ n least most said.
    c.vector_length.ensures.only n least most (vector_once (given_of c.args.self.now) _ n c.in-Once.ensures said)
