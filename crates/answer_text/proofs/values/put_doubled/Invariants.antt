-- Loop invariants of `put_doubled` (`values`).
use Rattle.std.proofs.Common.{◌≡◌, ◌++◌, length, string_bytes}
use denote.Text.{Utf8}
use denote.Shadow.{shadow}
use Rattle.sql_syntax.specs.CanonicalTokens.{doubled}
use Rattle.answer_text.proofs.values.put_doubled.Given as goal

abbrev pub invariant-loop-front : goal.invariant-loop-front
invariant-loop-front l = record {
  utf8 : shadow (Utf8 l.rest);
  so_far : string_bytes l.out ++ doubled l.rest ≡ string_bytes l.initial.out ++ doubled l.initial.rest;
}

abbrev pub decreases-loop-front : goal.decreases-loop-front
decreases-loop-front l = length l.rest
