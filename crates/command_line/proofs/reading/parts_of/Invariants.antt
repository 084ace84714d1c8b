use Rattle.std.proofs.Common.{drop, map}
use Rattle.command_line.proofs.Steps.{Reaches}
use Rattle.command_line.proofs.reading.parts_of.Given as goal

abbrev pub invariant-loop-word : goal.invariant-loop-word
invariant-loop-word l = Reaches (map (λ w. w.now) l.fn.words) (drop l.word-index (map (λ w. w.now) l.fn.words)) l.parts l.next
