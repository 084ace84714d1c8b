-- Loop invariants of `add_lines` (`conditions`).
use Rattle.std.proofs.Common.{◌≡◌, ◌++◌, ℕ, List, take}
use Rattle.std.specs.Prelude.{string_bytes}
use Rattle.explain.specs.Conditions.{AreLines}
use Rattle.explain.proofs.conditions.add_lines.Given as goal

abbrev pub invariant-loop-at : goal.invariant-loop-at
invariant-loop-at l = (lines : List ℕ) × (string_bytes l.out ≡ string_bytes l.fn.out ++ lines) × AreLines l.blanks l.joins l.leading 0 (take l.at l.conditions) lines
