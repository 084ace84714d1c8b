-- Loop invariants of `quoted_length` (`lexer`).
use Rattle.std.proofs.Common.{length, ◌-◌, ◌≡◌, ◌≤◌, drop}
use Rattle.sql_syntax.specs.Tokens.{quoted_len}
use Rattle.sql_syntax.proofs.Quotes.{ahead}
use Rattle.sql_syntax.proofs.lexer.quoted_length.Given as goal

abbrev pub invariant-loop-at : goal.invariant-loop-at
invariant-loop-at l = record {
  in_range : l.at ≤ length l.bytes;
  rest : ahead l.at (quoted_len (drop l.at l.bytes)) ≡ quoted_len l.bytes;
}

abbrev pub decreases-loop-at : goal.decreases-loop-at
decreases-loop-at l = length l.bytes - l.at
