-- Loop invariants of `take_states` (`states`).
use Rattle.std.proofs.Common.{drop}
use Rattle.answer_fields.specs.LayoutReading.{states_at}
use Rattle.answer_layouts.proofs.KeptParts.{StatesSoFar}
use Rattle.answer_layouts.proofs.states.take_states.Given as goal

abbrev pub invariant-loop-aggregate : goal.invariant-loop-aggregate
invariant-loop-aggregate l = StatesSoFar l.states.items l.are_possible (drop l.aggregate-index l.aggregates) l.rest (states_at l.aggregates l.bytes)
