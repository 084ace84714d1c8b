-- Loop invariants of `answer_fragments` (`fragments`).
use Rattle.std.proofs.Common.{◌≡◌, List, map}
use Rattle.std.specs.List.{range_with_len}
use Rattle.meaning.specs.Cut.{first_row}
use Rattle.meaning.specs.Order.{Row}
use Rattle.meaning.specs.Gather.{joined}
use Rattle.meaning_laws.specs.Laws.{own_answers}
use Rattle.worker.specs.Opened.{AreOver}
use Rattle.coordinator.specs.Fragment.{AreFragments}
use Rattle.coordinator.proofs.fragments.answer_fragments.Given as goal

abbrev pub invariant-loop-k : goal.invariant-loop-k
invariant-loop-k l = record {
  same : l.gather.job ≡ l.fn.gather.job;
  first : l.first_row ≡ first_row l.facts.cut.now l.k;
  taken : (rows : List Row) (tables : List (List Row)) → AreFragments l.facts.table.now rows l.facts.cut.now l.facts.fragments.now → AreOver l.fn.gather.job tables l.dimensions
      → l.gather.cells ≡ joined l.facts.cut.now (own_answers l.fn.gather.job.plan tables l.facts.cut.now rows (range_with_len 0 l.k));
}
