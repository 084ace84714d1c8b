-- Proofs of the goals of `quoted` (`lexer`).
use Rattle.std.proofs.Common.{sym, arith}
use Rattle.std.proofs.lemmas.Str.{IsCharBoundary-after_ascii, IsCharBoundary-before_ascii}
use Rattle.sql_syntax.proofs.Quotes.{StandsAt, has_byte, quote_stands}
use Rattle.sql_syntax.proofs.lexer.quoted.Goals as goal

pub split_at-requires : goal.split_at-requires
split_at-requires c = IsCharBoundary-after_ascii c.args.text.now 0 c.utf8.text (has_byte c.args.text.now 0 (omega arith)) (omega arith)

pub split_at-requires-in-Some : goal.split_at-requires-in-Some
split_at-requires-in-Some c =
    let stands : StandsAt c.split_at.result.1.now c.in-Some.length = rw (← c.as_bytes.ensures.value) (quote_stands c.as_bytes.result.now c.in-Some.length (sym c.in-Some.ensures)) in
    IsCharBoundary-before_ascii c.split_at.result.1.now c.in-Some.length stands.0 (omega arith)

pub split_at-requires-in-Some-2 : goal.split_at-requires-in-Some-2
split_at-requires-in-Some-2 c =
    let stands = quote_stands c.as_bytes.result.now c.in-Some.length (sym c.in-Some.ensures) in
    rw (← c.as_bytes.ensures.value) (IsCharBoundary-after_ascii c.as_bytes.result.now c.in-Some.length c.as_bytes.ensures.utf8 stands.0 (omega arith))
