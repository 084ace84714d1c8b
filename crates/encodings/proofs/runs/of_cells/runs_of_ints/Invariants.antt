-- Loop invariants of `runs_of_ints` (`runs::of_cells`).
use Rattle.std.proofs.Common.{map}
use Rattle.meaning.specs.declared.value.Value.TheVariants.{Int}
use Rattle.encodings.proofs.EncodedRuns.{RunsSoFar}
use Rattle.encodings.proofs.runs.of_cells.runs_of_ints.Given as goal

abbrev pub invariant-loop-row : goal.invariant-loop-row
invariant-loop-row l = RunsSoFar (map Int l.ints) l.runs.starts.items l.runs.lengths.items l.start l.row
