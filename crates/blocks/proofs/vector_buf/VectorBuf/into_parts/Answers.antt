-- Proofs of the goals of `VectorBuf::into_parts` (`vector_buf`).
use Rattle.std.proofs.Common.{◌≡◌, ℕ, List, map, sym, ap, subst, ◌∙◌}
use Rattle.std.proofs.lemmas.List.{take-map}
use Rattle.meaning.specs.declared.value.ColType.{ColType}
use Rattle.meaning.specs.declared.value.ColType.TheVariants as of_type
use Rattle.meaning.specs.Order.{is_null, number, bytes}
use Rattle.blocks.specs.VectorBuf.{AreCells, Vector, vector_of}
use Rattle.blocks.proofs.ReadVectors.{nulls-of, texts-of}
use denote.Bor.{Bor}
use Rattle.blocks.proofs.vector_buf.VectorBuf.into_parts.Goals as goal

pub returns-in-Int : goal.returns-in-Int
returns-in-Int c =
    let now : Bor (List ℕ) → List ℕ = λ t. t.now in
    let f = c.self.inside in
    let texts : List (List ℕ) = map now f.texts.items in
    let view : ColType → Vector = λ t. vector_of t f.len f.nulls.items f.ints.items texts in
    let is : view f.col_type ≡ c.args.self = c.self.view_is in
    let own : AreCells of_type.Int f.len f.nulls.items f.ints.items texts = subst (λ t. AreCells t f.len f.nulls.items f.ints.items texts) c.in-Int.is c.self.invariant in (
      ap (λ v. v.col_type) (sym is) ∙ c.in-Int.is,
      c.truncate-in-Int.ensures.items ∙ (sym own.blank ∙ ap (λ v. map number v.values) (ap view (sym c.in-Int.is) ∙ is)),
      c.truncate.ensures.items ∙ (nulls-of f.col_type f.len f.nulls.items f.ints.items texts c.self.invariant ∙ ap (λ v. map is_null v.values) is),
    )

pub returns-in-Text : goal.returns-in-Text
returns-in-Text c =
    let now : Bor (List ℕ) → List ℕ = λ t. t.now in
    let f = c.self.inside in
    let texts : List (List ℕ) = map now f.texts.items in
    let view : ColType → Vector = λ t. vector_of t f.len f.nulls.items f.ints.items texts in
    let is : view f.col_type ≡ c.args.self = c.self.view_is in
    let own : AreCells of_type.Text f.len f.nulls.items f.ints.items texts = subst (λ t. AreCells t f.len f.nulls.items f.ints.items texts) c.in-Text.is c.self.invariant in (
      ap (λ v. v.col_type) (sym is) ∙ c.in-Text.is,
      ap (map now) c.truncate-in-Text.ensures.items ∙ (sym (take-map now f.len f.texts.items) ∙ (texts-of f.len f.nulls.items f.ints.items texts own ∙ ap (λ v. map bytes v.values) (ap view (sym c.in-Text.is) ∙ is))),
      c.truncate.ensures.items ∙ (nulls-of f.col_type f.len f.nulls.items f.ints.items texts c.self.invariant ∙ ap (λ v. map is_null v.values) is),
    )
