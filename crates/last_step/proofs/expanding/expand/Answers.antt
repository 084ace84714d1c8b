-- Proofs of the goals of `expand` (`expanding`).
use Rattle.std.proofs.Common.{◌∷◌, [], ◌++◌, replicate, ap, ◌∙◌}
use Rattle.last_step.specs.declared.run.Run.{Run}
use Rattle.last_step.specs.Runs.{room}
use Rattle.last_step.proofs.Repeating.{left_more}
use Rattle.last_step.proofs.expanding.expand.Goals as goal

pub loop-row-preserved : goal.loop-row-preserved
loop-row-preserved c =
    let limit = c.args.limit in
    let rows = c.loop-row.rows in
    let run = c.in-Some.field-0 in
    left_more limit rows c.push_rows.new.rows c.loop-row.runs.items c.pop.new.self.items c.args.runs.items run.row run.times
    (c.in-Some.ensures.items ∙ ap (λ (r : Run). c.pop.new.self.items ++ r ∷ []) c.in-Some.field-0-is)
    (c.in_ok-push_rows.ensures ∙ ap (λ n. rows ++ replicate n run.row) (c.times_within-times.ensures ∙ ap (λ k. room limit k run.times) c.len.ensures))
    c.loop-row.invariant
