-- Proofs of the goals of `take_lengths` (`job_head`).
use Rattle.answer_text.proofs.Took.{lengths_long, lengths_read}
use Rattle.answer_text.proofs.job_head.take_lengths.Goals as goal

pub returns-clause-read : goal.returns-clause-read
returns-clause-read c = lengths_read c.args.count c.args.cursor.now.rest.now c.take_bytes.result c.take_bytes.new.self.rest.now c.take_bytes.ensures.read

pub returns-clause-long : goal.returns-clause-long
returns-clause-long c = lengths_long c.args.count c.args.cursor.now.rest.now c.take_bytes.result c.take_bytes.new.self.rest.now c.take_bytes.ensures.read
