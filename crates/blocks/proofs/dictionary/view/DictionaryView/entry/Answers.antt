-- Proofs of the goals of `DictionaryView::entry` (`dictionary::view`).
use Rattle.std.proofs.Common.{length, sym, ap, ◌∙◌, arith}
use Rattle.blocks.specs.DictionaryView.{DictionarySpec}
use Rattle.blocks.proofs.Ends.{length-values_form}
use Rattle.blocks.proofs.dictionary.view.DictionaryView.entry.Goals as goal

pub value_at-requires-clause-within : goal.value_at-requires-clause-within
value_at-requires-clause-within c =
    let d = c.self.inside in
    let many = sym (length-values_form d.col_type d.count d.entries.now) ∙ ap (λ (k : DictionarySpec). length k.entries) c.self.view_is in
    omega arith
