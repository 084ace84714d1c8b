-- Proofs of the goals of `DictionaryView::len` (`dictionary::view`).
use Rattle.std.proofs.Common.{length, sym, ap, ◌∙◌}
use Rattle.blocks.specs.DictionaryView.{DictionarySpec}
use Rattle.blocks.proofs.Ends.{length-values_form}
use Rattle.blocks.proofs.dictionary.view.DictionaryView.len.Goals as goal

pub returns : goal.returns
returns c =
    let d = c.self.inside in
    sym (length-values_form d.col_type d.count d.entries.now) ∙ ap (λ (k : DictionarySpec). length k.entries) c.self.view_is
