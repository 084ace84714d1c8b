-- Proofs of the goals of `BlockView::get` (`view`).
use Rattle.std.proofs.Common.{get_or, sym, ap, ◌∙◌}
use Rattle.meaning.specs.declared.value.Value.TheVariants.{Null}
use Rattle.blocks.specs.Block.{Block, body_cells}
use Rattle.blocks.proofs.Blocks.{null_value, cell_value}
use Rattle.blocks.proofs.view.BlockView.get.Goals as goal

pub returns-then-is_null : goal.returns-then-is_null
returns-then-is_null c =
    null_value c.args.self.now c.args.row c.is_null.ensures.sound c.requires (sym c.is_null.ensures.value ∙ c.if-is_null.true)

pub returns : goal.returns
returns c =
    let b = c.args.self.now in
    cell_value b c.args.row _ c.is_null.ensures.sound c.requires (sym c.is_null.ensures.value ∙ c.if-is_null.false)
    (c.cell_at.ensures ∙ ap (λ (k : Block). get_or (body_cells k.kind k.col_type k.rows c.body.result.now) c.args.row Null) c.self.view_is ∙ ap (λ body. get_or (body_cells b.kind b.col_type b.rows body) c.args.row Null) c.body.ensures)
