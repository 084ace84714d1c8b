-- Loop invariants of `print_fragments` (`lines`).
use Rattle.std.proofs.Common.{◌∷◌, ◌++◌, decimal, take}
use Rattle.std.specs.Prelude.{flat_map}
use Rattle.std.specs.Io.KnownBytes.{Appends}
use Rattle.gathering.proofs.lines.print_fragments.Given as goal

abbrev pub invariant-loop-k : goal.invariant-loop-k
invariant-loop-k g l = Appends (g.W.Write.contents l.fn.out) (g.W.Write.contents l.out) (l.word ++ 58 ∷ flat_map (λ k. 32 ∷ decimal k) (take l.k-index l.fragments))
