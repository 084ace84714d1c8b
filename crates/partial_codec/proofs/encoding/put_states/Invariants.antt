-- Loop invariants of `put_states` (`encoding`).
use Rattle.std.proofs.Common.{◌++◌, map}
use Rattle.answer_fields.specs.Shape.{shape_of_aggregate}
use Rattle.partial_codec.specs.Spelling.{states_bytes}
use Rattle.partial_codec.proofs.WrittenStates.{IsLeft}
use Rattle.partial_codec.proofs.encoding.put_states.Given as goal

abbrev pub invariant-loop-i : goal.invariant-loop-i
invariant-loop-i l = IsLeft l.aggregates l.states l.i l.out.items (l.fn.out.items ++ states_bytes (map shape_of_aggregate l.aggregates) l.states)
