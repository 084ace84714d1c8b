-- Proofs of the goals of `VectorBuf::texts` (`vector_buf`).
use Rattle.std.proofs.Common.{◌≡◌, ℕ, List, take, map, sym, ap, subst, ◌∙◌}
use Rattle.std.proofs.lemmas.List.{take-map}
use Rattle.meaning.specs.declared.value.ColType.{ColType}
use Rattle.meaning.specs.declared.value.ColType.TheVariants as of_type
use Rattle.meaning.specs.Order.{bytes}
use Rattle.blocks.specs.VectorBuf.{AreCells, Vector, vector_of}
use Rattle.blocks.proofs.ReadVectors.{texts-of}
use denote.Bor.{Bor}
use Rattle.blocks.proofs.vector_buf.VectorBuf.texts.Goals as goal

pub returns-in-Text-clause-value : goal.returns-in-Text-clause-value
returns-in-Text-clause-value c =
    let now : Bor (List ℕ) → List ℕ = λ t. t.now in
    let f = c.self.inside in
    let texts : List (List ℕ) = map now f.texts.items in
    let view : ColType → Vector = λ t. vector_of t f.len f.nulls.items f.ints.items texts in
    let cells : AreCells f.col_type f.len f.nulls.items f.ints.items texts = c.self.invariant in
    let is : view f.col_type ≡ c.args.self.now = c.self.view_is in
    let own : AreCells of_type.Text f.len f.nulls.items f.ints.items texts = subst (λ t. AreCells t f.len f.nulls.items f.ints.items texts) c.in-Text.is cells in
    ap (λ ts. map now (take f.len ts)) c.as_slice.ensures.value
    ∙ sym (take-map now f.len f.texts.items)
    ∙ texts-of f.len f.nulls.items f.ints.items texts own
    ∙ ap (λ t. map bytes (view t).values) (sym c.in-Text.is)
    ∙ ap (λ v. map bytes v.values) is
