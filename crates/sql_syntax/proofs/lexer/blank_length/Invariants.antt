-- Loop invariants of `blank_length` (`lexer`).
use Rattle.std.proofs.Common.{length, ◌-◌, ◌≡◌, ◌≤◌, ◌<◌, false, drop, get_or}
use Rattle.sql_syntax.specs.Tokens.{behind_blanks}
use Rattle.sql_syntax.proofs.Blanks.{left}
use Rattle.sql_syntax.proofs.lexer.blank_length.Given as goal

abbrev pub invariant-loop-at : goal.invariant-loop-at
invariant-loop-at l = record {
  in_range : l.at ≤ length l.bytes;
  rest : left l.in_comment (drop l.at l.bytes) ≡ behind_blanks l.bytes;
  ascii : l.in_comment ≡ false → 0 < l.at → get_or l.bytes (l.at - 1) 0 < 128;
}

abbrev pub decreases-loop-at : goal.decreases-loop-at
decreases-loop-at l = length l.bytes - l.at
