-- Proofs of the goals of `show_count` (`body`).
use Rattle.std.proofs.Common.{refl}
use Rattle.meaning.specs.Aggregate.{no_statistics}
use Rattle.answer_fields.specs.LayoutReading.{state_at}
use Rattle.answer_text.proofs.body.show_count.Goals as goal

pub returns-clause-shown : goal.returns-clause-shown
unfolding state_at
returns-clause-shown c = (record no_statistics { count = c.in_ok-count.count }, rw c.in_ok-count.ensures.read refl, c.in_ok-put_count.ensures)
