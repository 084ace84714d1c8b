-- Proofs of the goals of `dictionary_of_texts` (`dictionary::of_cells`).
use Rattle.std.proofs.Common.{◌≡◌, ◌-◌, ℕ, List, map, take, drop, ap, ◌∙◌, subst, IfOk}
use Rattle.meaning.specs.declared.value.Value.TheVariants.{Text}
use Rattle.blocks.specs.Dictionary.{AreEntries}
use Rattle.encodings.specs.declared.dictionary.of_cells.Dictionary.{Dictionary}
use Rattle.encodings.proofs.RowCodes.{text_cells}
use Rattle.encodings.proofs.dictionary.of_cells.dictionary_of_texts.Goals as goal
use denote.Bor.{Bor}

pub returns : goal.returns
returns c =
    let now : Bor (List ℕ) → List ℕ = λ t. t.now in
    let cells : map (λ (t : Bor (List ℕ)). Text t.now) c.as_slice.result.now ≡ map Text (take (c.args.to - c.args.from) (drop c.args.from c.args.texts.now)) =
    text_cells c.as_slice.result.now ∙ ap (map Text) (ap (map now) c.as_slice.ensures.value ∙ c.in_ok-cells.ensures) in
    subst (λ vs. IfOk c.dictionary_of-dictionary.result (λ (d : Dictionary). AreEntries vs d.entry_rows.items d.codes.items)) cells c.dictionary_of-dictionary.ensures
