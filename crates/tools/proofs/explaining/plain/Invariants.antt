-- Loop invariants of `plain` (`explaining`).
use Rattle.std.specs.Prelude.{string_bytes}
use Rattle.tools.proofs.PlainLines.{IsSoFar}
use Rattle.tools.proofs.explaining.plain.Given as goal

abbrev pub invariant-loop-word : goal.invariant-loop-word
invariant-loop-word l = IsSoFar l.words l.word-index (string_bytes l.line) l.found
