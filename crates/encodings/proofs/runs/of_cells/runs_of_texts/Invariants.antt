-- Loop invariants of `runs_of_texts` (`runs::of_cells`).
use Rattle.std.proofs.Common.{map, take, drop, ◌-◌}
use Rattle.meaning.specs.declared.value.Value.TheVariants.{Text}
use Rattle.encodings.proofs.EncodedRuns.{RunsSoFar}
use Rattle.encodings.proofs.runs.of_cells.runs_of_texts.Given as goal

abbrev pub invariant-loop-row : goal.invariant-loop-row
invariant-loop-row l = RunsSoFar (map Text (take (l.to - l.from) (drop l.from l.texts))) l.runs.starts.items l.runs.lengths.items l.start l.row
