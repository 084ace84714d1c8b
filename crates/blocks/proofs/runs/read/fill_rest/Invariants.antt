-- Loop invariants of `fill_rest` (`runs::read`).
use Rattle.std.proofs.Common.{◌≤◌, length, take, map}
use Rattle.bit_packing.specs.Bytes.{integer_of}
use Rattle.blocks.specs.Dictionary.{codes_in}
use Rattle.blocks.specs.Runs.{repeats}
use Rattle.blocks.proofs.ReadLists.{AreLined}
use Rattle.blocks.proofs.runs.read.fill_rest.Given as goal

abbrev pub invariant-loop-run : goal.invariant-loop-run
invariant-loop-run l = record {
  within : l.done ≤ length l.out;
  lined : AreLined (take l.done l.out) 0 (map integer_of l.values) (codes_in l.lengths) l.run
      (repeats (map integer_of l.values) (codes_in l.lengths));
}
