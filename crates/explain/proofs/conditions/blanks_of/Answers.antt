-- Proofs of the goals of `blanks_of` (`conditions`).
use Rattle.std.proofs.Common.{◌∙◌, ◌++◌, ap, codes}
use Rattle.explain.proofs.Lines.{no_step, step_further}
use Rattle.explain.proofs.conditions.blanks_of.Goals as goal

pub loop-init : goal.loop-init
loop-init c = c.new-blanks.ensures.bytes ∙ no_step

pub loop-preserved : goal.loop-preserved
loop-preserved c = c.in_ok-push_str.ensures.bytes ∙ ap (λ t. t ++ codes "  ") c.loop.invariant ∙ step_further c.loop.counter
