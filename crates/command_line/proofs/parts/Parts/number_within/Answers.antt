use Rattle.std.proofs.Common.{◌∙◌, arith}
use Rattle.command_line.proofs.parts.Parts.number_within.Goals as goal

pub returns-in_err-number-clause-only : goal.returns-in_err-number-clause-only
returns-in_err-number-clause-only c = λ n least most said. c.from_residual.ensures ∙ c.in_err-number.ensures.only n (let fits = c.ranges.most.fits in omega (arith, most, fits)) said
