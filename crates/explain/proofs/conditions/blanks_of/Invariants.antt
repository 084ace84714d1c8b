-- Loop invariants of `blanks_of` (`conditions`).
use Rattle.std.proofs.Common.{◌≡◌, string_bytes}
use Rattle.explain.specs.Conditions.{blanks_text}
use Rattle.explain.proofs.conditions.blanks_of.Given as goal

abbrev pub invariant-loop : goal.invariant-loop
invariant-loop l = string_bytes l.blanks ≡ blanks_text l.counter
