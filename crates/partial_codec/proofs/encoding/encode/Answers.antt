-- Proofs of the goals of `encode` (`encoding`).
use Rattle.answer_fields.specs.Format.{newest}
use Rattle.answer_fields.specs.Shape.{shape_of}
use Rattle.partial_codec.proofs.Answers.{layout_fits}
use Rattle.answer_fields.proofs.Formats.{newest_has}
use Rattle.partial_codec.proofs.encoding.encode.Goals as goal

pub put_layout-requires : goal.put_layout-requires
put_layout-requires c = (layout_fits newest c.args.job.now c.args.answer.now c.plan-plan.ensures.within_limits (newest_has (shape_of c.args.job.now.plan)) c.requires).body
