-- Proofs of the goals of `take_lengths` (`fields`).
use Rattle.answer_fields.proofs.Words.{words_read, words_short}
use Rattle.answer_fields.proofs.fields.take_lengths.Goals as goal

pub returns-then-bytes-size-clause-read : goal.returns-then-bytes-size-clause-read
returns-then-bytes-size-clause-read c = words_short c.args.count c.args.bytes.now c.if-bytes-size.true

pub returns-clause-read : goal.returns-clause-read
returns-clause-read c = rw (c.split_at.ensures.front, c.split_at.ensures.back) (words_read c.args.count c.args.bytes.now c.if-bytes-size.false)
