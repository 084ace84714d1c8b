-- Loop invariants of `number` (`lexer`).
use Rattle.std.proofs.Common.{◌≡◌, ◌≤◌, ◌<◌, true, false, take}
use Rattle.sql_syntax.specs.Tokens.{number_of}
use Rattle.sql_syntax.proofs.lexer.number.Given as goal

abbrev pub invariant-loop-digit : goal.invariant-loop-digit
invariant-loop-digit l = record {
  in_range : l.number ≤ 9223372036854775808;
  so_far : l.fits ≡ true → l.number ≡ number_of (take l.digit-index l.digits);
  passed : l.fits ≡ false → 9223372036854775808 < number_of (take l.digit-index l.digits);
}
