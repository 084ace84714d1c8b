-- Loop invariants of `line_of` (`explaining`).
use Rattle.std.proofs.Common.{◌≡◌}
use Rattle.std.specs.Prelude.{string_bytes}
use Rattle.tools.specs.Explained.{line_of}
use Rattle.tools.proofs.explaining.line_of.Given as goal

abbrev pub invariant-loop-word : goal.invariant-loop-word
invariant-loop-word l = string_bytes l.line ≡ line_of l.words l.word-index
