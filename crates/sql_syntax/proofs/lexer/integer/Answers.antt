-- Proofs of the goals of `integer` (`lexer`).
use Rattle.sql_syntax.specs.Tokens.{is_digit}
use Rattle.sql_syntax.proofs.Runs.{run_boundary, digits_ascii}
use Rattle.sql_syntax.proofs.lexer.integer.Goals as goal

pub split_at-requires : goal.split_at-requires
split_at-requires c = rw (c.digits_length.ensures, c.as_bytes.ensures.value) (run_boundary is_digit digits_ascii c.args.text.now c.utf8.text)
