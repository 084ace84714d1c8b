-- Loop invariants of `tokens` (`lexer`).
use Rattle.std.proofs.Common.{◌≤◌, length}
use denote.Text.{Utf8}
use denote.Shadow.{shadow}
use Rattle.sql_syntax.proofs.AllTokens.{SoFar}
use Rattle.sql_syntax.proofs.lexer.tokens.Given as goal

abbrev pub invariant-loop-rest : goal.invariant-loop-rest
invariant-loop-rest l = record {
  utf8 : shadow (Utf8 l.rest);
  shorter : length l.rest ≤ length l.text;
  so_far : SoFar l.text l.lexemes.items l.rest;
}

abbrev pub decreases-loop-rest : goal.decreases-loop-rest
decreases-loop-rest l = length l.rest
