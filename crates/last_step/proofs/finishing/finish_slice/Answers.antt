-- Proofs of the goals of `finish_slice` (`finishing`).
use Rattle.std.proofs.Common.{ap, sym, ◌∙◌}
use Rattle.meaning.specs.Finish as the
use Rattle.last_step.proofs.Outcomes.{given}
use Rattle.last_step.proofs.ShownFields.{finished_has_fields}
use Rattle.last_step.proofs.finishing.finish_slice.Goals as goal

pub returns-in_ok-rows_in_order-in-Ok-clause-value : goal.returns-in_ok-rows_in_order-in-Ok-clause-value
returns-in_ok-rows_in_order-in-Ok-clause-value c =
    ap the.Rows c.in_ok-rows_in_order-in-Ok.ensures ∙ given c.args.plan.now c.args.groups _ c.in-Ok.ensures

pub returns-in_ok-rows_in_order-in-Ok-clause-printable : goal.returns-in_ok-rows_in_order-in-Ok-clause-printable
returns-in_ok-rows_in_order-in-Ok-clause-printable c = λ shows.
    finished_has_fields c.args.plan.now c.args.groups c.in_ok-rows_in_order-in-Ok.field-0 shows.items shows.keys (sym (returns-in_ok-rows_in_order-in-Ok-clause-value c))
