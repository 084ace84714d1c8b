-- Loop invariants of `runs_size_of_ints` (`runs::size`).
use Rattle.std.proofs.Common.{◌≡◌, ◌+◌, ◌-◌, ◌*◌, ◌<◌, ◌≤◌, length, map, drop}
use Rattle.meaning.specs.declared.value.ColType.TheVariants as of_type
use Rattle.meaning.specs.declared.value.Value.TheVariants.{Int}
use Rattle.blocks.specs.Runs.{run_heads}
use Rattle.encodings.proofs.RunSizes.{runs_size}
use Rattle.encodings.proofs.runs.size.runs_size_of_ints.Given as goal

abbrev pub invariant-loop-row : goal.invariant-loop-row
invariant-loop-row l =
    let cells = map Int l.ints in record {
      some : 0 < l.row;
      within : l.row ≤ length l.ints;
      counted : l.size + runs_size of_type.Int (run_heads (drop (l.row - 1) cells)) ≡ runs_size of_type.Int (run_heads cells);
      few : l.size ≤ 65541 * l.row;
    }
