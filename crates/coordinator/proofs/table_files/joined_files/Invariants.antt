-- Loop invariants of `joined_files` (`table_files`).
use Rattle.std.proofs.Common.{List, take}
use Rattle.std.specs.List.{AllZip}
use Rattle.meaning.specs.Order.{Row}
use Rattle.job_files.specs.RowFiles.{AreFilesOfTables}
use Rattle.coordinator.specs.Fragment.{IsJoinedFile}
use Rattle.coordinator.specs.Whole.{files_in, joined_from}
use Rattle.coordinator.proofs.InTurn.{HasJudged}
use Rattle.coordinator.proofs.table_files.joined_files.Given as goal

abbrev pub invariant-loop-join : goal.invariant-loop-join
invariant-loop-join l = record {
  judged : (before : List (List Row)) × AreFilesOfTables before l.files.items × HasJudged (joined_from l.catalog (files_in l.csvs)) l.joins l.join-index before;
  joined : AllZip (IsJoinedFile l.catalog) (take l.join-index l.joins) l.files.items;
}
