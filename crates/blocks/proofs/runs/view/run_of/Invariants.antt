-- Loop invariants of `run_of` (`runs::view`).
use Rattle.std.proofs.Common.{◌≡◌, ◌<◌, length, drop, get_or, zip, sum, List}
use Rattle.meaning.specs.declared.value.Value.{Value}
use Rattle.meaning.specs.declared.value.Value.TheVariants.{Null}
use Rattle.blocks.specs.Runs.{repeated}
use Rattle.bit_packing.specs.Bytes.{shorts}
use Rattle.blocks.proofs.runs.view.run_of.Given as goal

abbrev pub invariant-loop-i : goal.invariant-loop-i
invariant-loop-i l =
    let lengths = shorts l.count l.lengths in record {
      within : l.rest < sum (drop l.i lengths);
      cell : (values : List Value) → length values ≡ l.count → get_or (repeated (zip values lengths)) l.row Null ≡ get_or (repeated (drop l.i (zip values lengths))) l.rest Null;
    }
