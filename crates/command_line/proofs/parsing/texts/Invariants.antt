use Rattle.std.proofs.Common.{◌≡◌, map, take}
use Rattle.command_line.proofs.parsing.texts.Given as goal

abbrev pub invariant-loop-word : goal.invariant-loop-word
invariant-loop-word l = l.texts ≡ map (λ w. w.now) (take l.word-index l.words)
