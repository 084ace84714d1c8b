-- Loop invariants of `take_groups` (`body`).
use Rattle.std.proofs.Common.{◌-◌}
use Rattle.answer_fields.specs.Fields.{shape_in}
use Rattle.answer_fields.specs.Keeping.{kept_group, has_possible_sums}
use Rattle.answer_fields.specs.LayoutReading.{group_at}
use Rattle.wire.specs.Reading.{repeat_at}
use Rattle.answer_layouts.specs.Found.{HasJudged}
use Rattle.answer_layouts.proofs.KeptParts.{SoFar}
use Rattle.answer_layouts.proofs.body.take_groups.Given as goal

abbrev pub invariant-loop : goal.invariant-loop
invariant-loop l = record {
  read : SoFar (group_at (shape_in l.shape)) kept_group has_possible_sums l.groups l.are_possible (l.count - l.counter) l.rest (repeat_at (group_at (shape_in l.shape)) l.count l.bytes);
  judged : HasJudged l.plan l.groups l.judged;
}
