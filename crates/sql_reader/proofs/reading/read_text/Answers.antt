-- Proofs of the goals of `read_text` (`reading`).
use Rattle.std.proofs.Common.{length}
use Rattle.sql_syntax.specs.Tokens.{tokens_of}
use Rattle.sql_reader.proofs.Answering.{from_memory}
use Rattle.sql_reader.proofs.reading.read_text.Goals as goal

pub returns-in_err-lexemes : goal.returns-in_err-lexemes
returns-in_err-lexemes c = from_memory (length c.args.text.now) (tokens_of c.args.text.now) c.from_residual.result c.from_residual.ensures.0 c.from_residual.ensures.1
