-- Proofs of the goals of `RunsView::length` (`runs::view`).
use Rattle.std.proofs.Common.{◌≡◌, ◌<◌, ◌≤◌, ◌/◌, length, get_or, sym, ap, ◌∙◌, arith}
use Rattle.blocks.specs.RunsView.{RunsSpec}
use Rattle.bit_packing.proofs.Chunks.{get_or-shorts, length-shorts}
use Rattle.blocks.proofs.runs.view.RunsView.length.Goals as goal

pub short_at-requires : goal.short_at-requires
short_at-requires c =
    let r = c.self.inside in
    let many : r.count ≡ length c.args.self.now.lengths = sym (length-shorts r.count r.lengths.now) ∙ ap (λ (k : RunsSpec). length k.lengths) c.self.view_is in
    let fit : r.count ≤ length r.lengths.now / 2 = c.self.invariant.lengths_fit in
    let within : c.args.run < r.count = omega arith in
    omega arith

pub returns : goal.returns
returns c =
    let r = c.self.inside in
    let many : r.count ≡ length c.args.self.now.lengths = sym (length-shorts r.count r.lengths.now) ∙ ap (λ (k : RunsSpec). length k.lengths) c.self.view_is in
    let fit : r.count ≤ length r.lengths.now / 2 = c.self.invariant.lengths_fit in
    let within : c.args.run < r.count = omega arith in
    c.short_at.ensures ∙ sym (get_or-shorts r.count c.args.run r.lengths.now within) ∙ ap (λ (k : RunsSpec). get_or k.lengths c.args.run 0) c.self.view_is
