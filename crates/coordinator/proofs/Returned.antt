-- What is printed of just every fragment's own answer is the query's meaning.
use Rattle.std.specs.Prelude.{◌≡◌, ℕ, List, length, sum, Option, Result, Ok, Err, IfOk, OnOk}
use Rattle.std.specs.List.{range_with_len}
use Rattle.std.specs.Io.KnownBytes.{Appends}
use Rattle.std.proofs.Common.{sym, ◌∙◌, subst}
use Rattle.meaning.specs.declared.catalog.Table.{Table}
use Rattle.meaning.specs.declared.plan.Plan.{Plan}
use Rattle.meaning.specs.Order.{Row}
use Rattle.meaning.specs.Cut.{Cut, numbered}
use Rattle.meaning.specs.Output.{Output}
use Rattle.meaning.specs.Meaning.{meaning}
use Rattle.meaning.specs.Gather.{joined, report, output}
use Rattle.meaning.specs.Said.{Cell}
use Rattle.meaning_laws.specs.Laws.{own_answers}
use Rattle.meaning.specs.Print.{report_text}
use Rattle.meaning_laws.proofs.OwnStates.{report-own_answers}
use Rattle.columns.specs.Column.{ColumnSpec}
use Rattle.gathering.specs.declared.report.Ended.{Ended}
use Rattle.coordinator.specs.declared.fault.WholeFault.{WholeFault}
use Rattle.job_files.specs.RowFiles.{AreFilesOfTables}
use Rattle.coordinator.specs.Fragment.{AreFragments}
use Rattle.gathering.specs.Gathering.{GatherSpec}
use Rattle.gathering.specs.Report.{ended_as}
use Rattle.coordinator.specs.Whole.{HoldsOwnAnswers, IsAnsweredOver}

module _ (plan : Plan) (rows : List Row) (dims : List (List Row)) (cut : Cut) (whole : length rows ≡ sum cut) where
  abbrev own_cells : List Cell
  own_cells = joined cut (own_answers plan dims cut rows (range_with_len 0 (length cut)))

  means : report plan own_cells ≡ output (meaning plan dims (numbered rows))
  means = report-own_answers plan dims cut rows (sym whole)

  -- what the state reports
  reports : (g : GatherSpec) → HoldsOwnAnswers plan rows dims cut g → report g.job.plan g.cells ≡ output (meaning plan dims (numbered rows))
  reports g holds = (λ i. report (holds.job i).plan (holds.cells i)) ∙ means

  answered : (before after : Option (List ℕ)) (g : GatherSpec) → HoldsOwnAnswers plan rows dims cut g → (ended : Ended) (handed : GatherSpec)
      → Appends before after (report_text g.job.plan (report g.job.plan g.cells)) → ((o : Output) → report g.job.plan g.cells ≡ output o → ended ≡ ended_as o) → handed ≡ g
      → IsAnsweredOver plan rows dims cut before after ended handed
  answered before after g holds ended handed prints ends same = record {
    printed = subst (Appends before after) (λ i. report_text (holds.job i).plan (reports g holds i)) prints;
    ends = ends (meaning plan dims (numbered rows)) (reports g holds);
    state = subst (HoldsOwnAnswers plan rows dims cut) (sym same) holds;
  }

-- where a call printed what the state reports and handed it on, the state being that of the answers of a table's fragments
pub returned : (plan : Plan) (table : Table) (cut : Cut) (fragments : List (List ColumnSpec)) (files : List (List ℕ)) (before after : Option (List ℕ)) (g : GatherSpec)
    → ((rows : List Row) (dims : List (List Row)) → AreFragments table rows cut fragments → AreFilesOfTables dims files → HoldsOwnAnswers plan rows dims cut g)
    → (result : Result (Ended × GatherSpec) WholeFault)
    → OnOk result (Appends before after (report_text g.job.plan (report g.job.plan g.cells))) → IfOk result (λ r. (o : Output) → report g.job.plan g.cells ≡ output o → r.0 ≡ ended_as o) → IfOk result (λ r. r.1 ≡ g)
    → IfOk result (λ r. (rows : List Row) (dims : List (List Row)) → AreFragments table rows cut fragments → AreFilesOfTables dims files → IsAnsweredOver plan rows dims cut before after r.0 r.1)
returned plan table cut fragments files before after g holds (Ok r) prints ends same = λ rows dims are files_are. answered plan rows dims cut are.whole before after g (holds rows dims are files_are) r.0 r.1 prints ends same
returned plan table cut fragments files before after g holds (Err e) prints ends same = tt
