-- Loop invariants of `show_states` (`body`).
use Rattle.std.proofs.Common.{◌≡◌, ℕ, ◌++◌, List, drop, string_bytes}
use Rattle.meaning.specs.declared.answer.Statistics.{Statistics}
use Rattle.answer_fields.specs.LayoutReading.{states_at}
use Rattle.answer_text.specs.Reading.{IsSamePart}
use Rattle.answer_text.proofs.Lists.{AreShown, states_behind}
use Rattle.answer_text.proofs.body.show_states.Given as goal

abbrev pub invariant-loop-aggregate : goal.invariant-loop-aggregate
invariant-loop-aggregate l = (states : List Statistics) × (shown : List ℕ) × (states_behind states (drop l.aggregate-index l.aggregates) l.cursor.rest.now ≡ states_at l.aggregates l.fn.cursor.rest.now)
    × AreShown l.aggregates (drop l.aggregate-index l.aggregates) states shown × (string_bytes l.out ≡ string_bytes l.fn.out ++ shown) × IsSamePart l.fn.cursor l.cursor
