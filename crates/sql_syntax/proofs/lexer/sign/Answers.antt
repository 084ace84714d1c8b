-- Proofs of the goals of `sign` (`lexer`).
use Rattle.std.proofs.Common.{arith}
use Rattle.std.proofs.lemmas.Str.{IsCharBoundary-after_ascii}
use Rattle.sql_syntax.proofs.lexer.sign.Goals as goal
use Rattle.sql_syntax.proofs.lexer.sign.Goals.{then-bytes-gt1, else-bytes-gt1}

pub split_at-requires : goal.split_at-requires
split_at-requires c =
    let found = c.in-Some.ensures in
    elim c.if-bytes-gt1.branch [
      | then-bytes-gt1 w ↦ rw (← c.as_bytes-bytes.ensures.value) (IsCharBoundary-after_ascii c.as_bytes-bytes.result.now 1 c.as_bytes-bytes.ensures.utf8 (omega arith) (omega arith))
      | else-bytes-gt1 w ↦ absurd (omega (arith, found.ascii))
    ]

pub split_at-requires-in-Some-short_sign : goal.split_at-requires-in-Some-short_sign
split_at-requires-in-Some-short_sign c =
    let found = c.in-Some-short_sign.ensures in
    rw (← c.as_bytes-bytes.ensures.value) (IsCharBoundary-after_ascii c.as_bytes-bytes.result.now 0 c.as_bytes-bytes.ensures.utf8 (omega arith) found.ascii)
