-- Proofs of the goals of `is_same_text` (`runs::of_cells`).
use Rattle.std.proofs.Common.{◌∙◌, sym, get_or, []}
use Rattle.std.proofs.lemmas.Map.Text.{is_eq-slice_cmp}
use Rattle.encodings.proofs.runs.of_cells.is_same_text.Goals as goal

pub returns : goal.returns
returns c =
    c.eq.ensures ∙ (rw (c.get.ensures.value, c.get-2.ensures.value)
    (sym (is_eq-slice_cmp (get_or c.args.texts.now c.args.row []) (get_or c.args.texts.now c.args.other []))))
