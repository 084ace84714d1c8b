-- Proofs of the goals of `word` (`lexer`).
use Rattle.sql_syntax.specs.Tokens.{is_word_byte}
use Rattle.sql_syntax.proofs.Runs.{run_boundary, words_ascii}
use Rattle.sql_syntax.proofs.lexer.word.Goals as goal

pub split_at-requires : goal.split_at-requires
split_at-requires c = rw (c.word_length.ensures, c.as_bytes.ensures.value) (run_boundary is_word_byte words_ascii c.args.text.now c.utf8.text)
