-- Proofs of the goals of `RunsView::len` (`runs::view`).
use Rattle.std.proofs.Common.{length, sym, ap, ◌∙◌}
use Rattle.blocks.specs.RunsView.{RunsSpec}
use Rattle.bit_packing.proofs.Chunks.{length-shorts}
use Rattle.blocks.proofs.Ends.{length-values_form}
use Rattle.blocks.proofs.runs.view.RunsView.len.Goals as goal

pub returns-clause-value : goal.returns-clause-value
returns-clause-value c =
    let r = c.self.inside in
    sym (length-values_form r.col_type r.count r.values.now) ∙ ap (λ (k : RunsSpec). length k.values) c.self.view_is

pub returns-clause-same : goal.returns-clause-same
returns-clause-same c =
    let r = c.self.inside in
    sym (length-shorts r.count r.lengths.now) ∙ ap (λ (k : RunsSpec). length k.lengths) c.self.view_is
