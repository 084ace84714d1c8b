-- Proofs of the goals of `encode_state` (`state`).
use Rattle.answer_fields.specs.Format.{newest}
use Rattle.answer_fields.specs.Shape.{shape_of}
use Rattle.answer_fields.proofs.Formats.{newest_has}
use Rattle.partial_codec.proofs.States.{state_layout_fits}
use Rattle.partial_codec.proofs.state.encode_state.Goals as goal

pub put_state_layout-requires : goal.put_state_layout-requires
put_state_layout-requires c = (state_layout_fits newest c.args.job.now c.args.cells.now c.plan-plan.ensures.within_limits (newest_has (shape_of c.args.job.now.plan)) c.requires).cells
