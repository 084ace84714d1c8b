-- What all answers together print.
use Rattle.std.specs.Prelude.{◌≡◌}
use Rattle.meaning.specs.declared.plan.Plan.{Plan}
use Rattle.meaning.specs.Output as the
use Rattle.meaning.specs.Print.{output_text}
use Rattle.gathering.specs.declared.report.Ended.{Ended}
use Rattle.gathering.specs.declared.report.Ended.TheVariants as ended
use Rattle.gathering.specs.declared.output.Output.{Output}

-- whether an output is rows or a fault
abbrev pub ended_as : the.Output → Ended
ended_as (the.rows rows) = ended.Rows
ended_as (the.final_fault code) = ended.Fault
ended_as (the.row_fault fault) = ended.Fault

-- the output that is meant, as it is printed
pub record IsOutputOf (plan : Plan) (meant : the.Output) (given : Output) : Type 0 where
  pub ended_is : given.ended ≡ ended_as meant
  pub text_is : given.text.items ≡ output_text plan meant
