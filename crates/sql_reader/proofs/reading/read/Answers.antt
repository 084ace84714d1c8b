-- Proofs of the goals of `read` (`reading`).
use Rattle.sql_reader.proofs.Answering.{tree_given, refusal_given, query_given}
use Rattle.sql_reader.proofs.reading.read.Goals as goal

pub returns-in-Ok-clause-tree : goal.returns-in-Ok-clause-tree
returns-in-Ok-clause-tree c = tree_given c.args.text.now c.in-Ok.text.now c.read_text.result c.in-Ok.ensures.cases.0 c.in-Ok.ensures.cases.1 c.if-text-gt-MAX_QUERY_BYTES.false c.read_text.ensures

pub returns-in-Ok-clause-read : goal.returns-in-Ok-clause-read
returns-in-Ok-clause-read c = query_given c.args.text.now c.in-Ok.text.now c.read_text.result c.in-Ok.ensures.cases.0 c.read_text.ensures

pub returns-in-Ok-clause-refusal : goal.returns-in-Ok-clause-refusal
returns-in-Ok-clause-refusal c = refusal_given c.args.text.now c.in-Ok.text.now c.read_text.result c.in-Ok.ensures.cases.0 c.in-Ok.ensures.cases.1 c.if-text-gt-MAX_QUERY_BYTES.false c.read_text.ensures
