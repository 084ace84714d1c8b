-- Proofs of the goals of `show_extreme` (`body`).
use Rattle.std.proofs.Common.{append_assoc, refl, rules}
use Rattle.answer_text.specs.Values.{value_of}
use Rattle.answer_text.proofs.body.show_extreme.Goals as goal

pub returns-clause-shown : goal.returns-clause-shown
returns-clause-shown c = ((c.in_ok-count.count, value_of c.in_ok-value.value), rw (c.in_ok-count.ensures.read, c.in_ok-value.ensures.read) refl, search (rules, append_assoc))
