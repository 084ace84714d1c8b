-- What stands in the cells of a coordinator, and the report of it.
use Rattle.std.specs.Prelude.{◌≡◌, Bool, ⊤}
use Rattle.meaning.specs.Said.{Cell}
use Rattle.meaning.specs.Gather.{is_conflict, is_nothing}
use Rattle.meaning.specs.Gather as gather
use Rattle.meaning.specs.Print.{report_text}
use Rattle.gathering.specs.declared.report.FullReport.{FullReport}
use Rattle.gathering.specs.declared.report.Report.{Report}
use Rattle.gathering.specs.declared.report.Report.TheVariants as report
use Rattle.gathering.specs.declared.report.Ended.{Ended}
use Rattle.gathering.specs.declared.report.Ended.TheVariants as ended
use Rattle.gathering.specs.declared.report.Obstacle.{Obstacle}
use Rattle.gathering.specs.declared.report.Obstacle.TheVariants as obstacle
use Rattle.meaning.specs.declared.plan.Plan.{Plan}
use Rattle.gathering.specs.declared.fault.GatherFault.{GatherFault}
use Rattle.gathering.specs.declared.fault.GatherFault.TheVariants as fault
pub use Rattle.gathering.specs.Output.{ended_as}

-- the cells that have it
abbrev pub has_obstacle : Obstacle → Cell → Bool
has_obstacle obstacle.Conflict = is_conflict
has_obstacle obstacle.NoAnswer = is_nothing

abbrev pub report_of_output : Ended → Report
report_of_output ended.Rows = report.Rows
report_of_output ended.Fault = report.Fault

-- which report it is
abbrev pub summary : gather.Report → Report
summary (gather.conflict ks) = report.Conflict ks
summary (gather.missing ks) = report.Missing ks
summary (gather.output o) = report_of_output (ended_as o)

-- the report that is meant, and what is printed of it
pub record IsReportOf (plan : Plan) (meant : gather.Report) (given : FullReport) : Type 0 where
  pub report_is : given.report ≡ summary meant
  pub text_is : given.text.items ≡ report_text plan meant

-- out of memory, or the writer failed
abbrev pub IsPrintRefusal : GatherFault → Type 0
IsPrintRefusal fault.Memory = ⊤
IsPrintRefusal (fault.Decode e) = ⊥
IsPrintRefusal fault.OtherJob = ⊥
IsPrintRefusal fault.Writer = ⊤
