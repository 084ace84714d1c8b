-- Proofs of the goals of `RunsView::value` (`runs::view`).
use Rattle.std.proofs.Common.{length, sym, ap, ◌∙◌, arith}
use Rattle.blocks.specs.RunsView.{RunsSpec}
use Rattle.blocks.proofs.Ends.{length-values_form}
use Rattle.blocks.proofs.runs.view.RunsView.value.Goals as goal

pub value_at-requires-clause-within : goal.value_at-requires-clause-within
value_at-requires-clause-within c =
    let r = c.self.inside in
    let many = sym (length-values_form r.col_type r.count r.values.now) ∙ ap (λ (k : RunsSpec). length k.values) c.self.view_is in
    omega arith
