-- Proofs of the goals of `are_numbers_possible` (`check`).
use Rattle.std.proofs.Common.{sym, ap, ◌∙◌}
use Rattle.meaning.specs.Said.{Body}
use Rattle.meaning.specs.Fitting.{are_numbers_possible}
use Rattle.partial_codec.proofs.check.are_numbers_possible.Goals as goal

pub returns-in-Groups : goal.returns-in-Groups
returns-in-Groups c =
    c.can_rows_give.ensures c.args.first
    ∙ ap (λ (b : Body). are_numbers_possible c.args.plan.now c.args.first c.args.rows b) (sym c.in-Groups.is)
