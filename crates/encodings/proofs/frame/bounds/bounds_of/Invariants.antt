-- Loop invariants of `bounds_of` (`frame::bounds`).
use Rattle.std.proofs.Common.{◌≡◌, ◌<◌, drop, length}
use Rattle.blocks.specs.Frame.{least_in, greatest_in}
use Rattle.encodings.proofs.frame.bounds.bounds_of.Given as goal

abbrev pub invariant-loop-row : goal.invariant-loop-row
invariant-loop-row l = record {
  within : l.row < length l.ints;
  least : l.bounds.least ≡ least_in (drop l.row l.ints);
  greatest : l.bounds.greatest ≡ greatest_in (drop l.row l.ints);
}
