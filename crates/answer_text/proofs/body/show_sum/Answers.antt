-- Proofs of the goals of `show_sum` (`body`).
use Rattle.std.proofs.Common.{append_assoc, refl, rules}
use Rattle.meaning.specs.Aggregate.{no_statistics}
use Rattle.answer_fields.specs.LayoutReading.{state_at}
use Rattle.answer_text.proofs.body.show_sum.Goals as goal

pub returns-clause-shown : goal.returns-clause-shown
unfolding state_at
returns-clause-shown c = (record no_statistics { count = c.in_ok-count.count; sum = c.in_ok-sum.sum }, rw (c.in_ok-count.ensures.read, c.in_ok-sum.ensures.read) refl, search (rules, append_assoc))
