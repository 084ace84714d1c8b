-- Proofs of the goals of `VectorBuf::nulls` (`vector_buf`).
use Rattle.std.proofs.Common.{◌≡◌, ℕ, List, take, map, ap, ◌∙◌}
use Rattle.meaning.specs.declared.value.ColType.{ColType}
use Rattle.meaning.specs.Order.{is_null}
use Rattle.blocks.specs.VectorBuf.{AreCells, Vector, vector_of}
use Rattle.blocks.proofs.ReadVectors.{nulls-of}
use denote.Bor.{Bor}
use Rattle.blocks.proofs.vector_buf.VectorBuf.nulls.Goals as goal

pub returns : goal.returns
returns c =
    let now : Bor (List ℕ) → List ℕ = λ t. t.now in
    let f = c.self.inside in
    let texts : List (List ℕ) = map now f.texts.items in
    let view : ColType → Vector = λ t. vector_of t f.len f.nulls.items f.ints.items texts in
    let cells : AreCells f.col_type f.len f.nulls.items f.ints.items texts = c.self.invariant in
    let is : view f.col_type ≡ c.args.self.now = c.self.view_is in
    ap (take f.len) c.as_slice.ensures.value
    ∙ nulls-of f.col_type f.len f.nulls.items f.ints.items texts cells
    ∙ ap (λ v. map is_null v.values) is
