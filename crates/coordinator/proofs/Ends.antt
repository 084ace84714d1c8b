-- The report that is printed of all answers says how the query ended.
use Rattle.std.proofs.Common.{◌≡◌, refl, ap, ◌∙◌}
use Rattle.meaning.specs.Gather as gather
use Rattle.meaning.specs.Output.{Output}
use Rattle.gathering.specs.declared.report.Ended.{Ended}
use Rattle.gathering.specs.declared.report.Ended.TheVariants as ended
use Rattle.gathering.specs.declared.report.Report.{Report}
use Rattle.gathering.specs.Report.{ended_as, report_of_output, summary}
use Rattle.coordinator.specs.Whole.{ended_in}

back : (e : Ended) → ended_in (report_of_output e) ≡ e
back ended.Rows = refl
back ended.Fault = refl

-- the summary of an output's report is how it ends
pub ends_so : (returned : Report) (end : Ended) (reported : gather.Report) → returned ≡ summary reported → end ≡ ended_in returned → (o : Output) → reported ≡ gather.output o → end ≡ ended_as o
ends_so returned end reported is ends o of_output = ends ∙ ap ended_in (is ∙ ap summary of_output) ∙ back (ended_as o)
