-- Loop invariants of `print_layers` (`lookup`).
use Rattle.std.proofs.Common.{take}
use Rattle.std.specs.Prelude.{flat_map}
use Rattle.std.specs.Io.KnownBytes.{Appends}
use Rattle.refusals.specs.Texts.{layer_line}
use Rattle.refusals.proofs.lookup.print_layers.Given as goal

abbrev pub invariant-loop-layer : goal.invariant-loop-layer
invariant-loop-layer g l = Appends (g.W.Write.contents l.fn.out) (g.W.Write.contents l.out) (flat_map layer_line (take l.layer-index l.layers))
