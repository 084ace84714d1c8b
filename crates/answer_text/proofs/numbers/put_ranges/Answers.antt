-- Proofs of the goals of `put_ranges` (`numbers`).
use Rattle.std.proofs.Common.{codes, string_bytes}
use Rattle.answer_text.proofs.Lists.{pushed}
use Rattle.answer_text.proofs.Neighbours.{line}
use Rattle.answer_text.proofs.numbers.put_ranges.Goals as goal

pub returns : goal.returns
returns c =
    pushed c.push_str.result (string_bytes c.push_str.new.self) (string_bytes c.put_each.new.out) (codes "\n") _ c.push_str.ensures.bytes
    (line (string_bytes c.args.out.now) c.args.word.now c.args.numbers.now (string_bytes c.put_count.new.out) (string_bytes c.put_each.new.out) c.in_ok-put_count.ensures c.in_ok-put_each.ensures)
