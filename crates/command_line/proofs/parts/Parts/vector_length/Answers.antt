use Rattle.std.proofs.Common.{◌∙◌, arith}
use Rattle.command_line.proofs.parts.Parts.vector_length.Goals as goal

pub returns-in_err-number-clause-only : goal.returns-in_err-number-clause-only
returns-in_err-number-clause-only c = λ n least most said. c.from_residual.ensures ∙ c.in_err-number.ensures.only n (omega (arith, most)) said
