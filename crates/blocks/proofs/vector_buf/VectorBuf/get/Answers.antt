-- Proofs of the goals of `VectorBuf::get` (`vector_buf`).
use Rattle.std.proofs.Common.{◌≡◌, ℕ, ◌<◌, List, [], length, map, get_or, sym, ap, subst, ◌∙◌, true, false, pos}
use Rattle.std.proofs.lemmas.List.{length-map, get_or-map}
use Rattle.meaning.specs.declared.value.ColType.{ColType}
use Rattle.meaning.specs.declared.value.ColType.TheVariants as of_type
use Rattle.meaning.specs.declared.value.Value.TheVariants.{Null, Int, Text}
use Rattle.blocks.specs.VectorBuf.{AreCells, Vector, vector_of}
use Rattle.bit_packing.proofs.Ranges.{stored}
use Rattle.blocks.proofs.ReadVectors.{int-at, null-at, text-at, text_room}
use denote.Bor.{Bor}
use Rattle.blocks.proofs.vector_buf.VectorBuf.get.Goals as goal

pub returns-then-as_slice-i : goal.returns-then-as_slice-i
returns-then-as_slice-i c =
    let now : Bor (List ℕ) → List ℕ = λ t. t.now in
    let f = c.self.inside in
    let texts : List (List ℕ) = map now f.texts.items in
    let view : ColType → Vector = λ t. vector_of t f.len f.nulls.items f.ints.items texts in
    let cells : AreCells f.col_type f.len f.nulls.items f.ints.items texts = c.self.invariant in
    let is : view f.col_type ≡ c.args.self.now = c.self.view_is in
    let h : c.args.i < length (view f.col_type).values = subst (λ v. c.args.i < length v.values) (sym is) c.requires in
    let b : get_or f.nulls.items c.args.i false ≡ true = ap (λ ns. get_or ns c.args.i false) (sym c.as_slice.ensures.value) ∙ c.if-as_slice-i.true in
    null-at f.col_type f.len f.nulls.items f.ints.items texts c.args.i cells h b
    ∙ ap (λ v. get_or v.values c.args.i Null) is

pub returns-in-Int : goal.returns-in-Int
returns-in-Int c =
    let now : Bor (List ℕ) → List ℕ = λ t. t.now in
    let f = c.self.inside in
    let texts : List (List ℕ) = map now f.texts.items in
    let view : ColType → Vector = λ t. vector_of t f.len f.nulls.items f.ints.items texts in
    let cells : AreCells f.col_type f.len f.nulls.items f.ints.items texts = c.self.invariant in
    let is : view f.col_type ≡ c.args.self.now = c.self.view_is in
    let own : AreCells of_type.Int f.len f.nulls.items f.ints.items texts = subst (λ t. AreCells t f.len f.nulls.items f.ints.items texts) c.in-Int.is cells in
    let at : view of_type.Int ≡ c.args.self.now = ap view (sym c.in-Int.is) ∙ is in
    let h : c.args.i < length (view of_type.Int).values = subst (λ v. c.args.i < length v.values) (sym at) c.requires in
    let b : get_or f.nulls.items c.args.i false ≡ false = ap (λ ns. get_or ns c.args.i false) (sym c.as_slice.ensures.value) ∙ c.if-as_slice-i.false in
    ap Int (stored c.integer_at.result c.integer_at.type_inv ∙ c.integer_at.ensures
    ∙ ap (λ xs. get_or xs c.args.i (pos 0)) c.as_slice-in-Int.ensures.value)
    ∙ int-at f.len f.nulls.items f.ints.items texts c.args.i own h b
    ∙ ap (λ v. get_or v.values c.args.i Null) at

pub returns-in-Text : goal.returns-in-Text
returns-in-Text c =
    let now : Bor (List ℕ) → List ℕ = λ t. t.now in
    let f = c.self.inside in
    let texts : List (List ℕ) = map now f.texts.items in
    let view : ColType → Vector = λ t. vector_of t f.len f.nulls.items f.ints.items texts in
    let cells : AreCells f.col_type f.len f.nulls.items f.ints.items texts = c.self.invariant in
    let is : view f.col_type ≡ c.args.self.now = c.self.view_is in
    let own : AreCells of_type.Text f.len f.nulls.items f.ints.items texts = subst (λ t. AreCells t f.len f.nulls.items f.ints.items texts) c.in-Text.is cells in
    let at : view of_type.Text ≡ c.args.self.now = ap view (sym c.in-Text.is) ∙ is in
    let h : c.args.i < length (view of_type.Text).values = subst (λ v. c.args.i < length v.values) (sym at) c.requires in
    let b : get_or f.nulls.items c.args.i false ≡ false = ap (λ ns. get_or ns c.args.i false) (sym c.as_slice.ensures.value) ∙ c.if-as_slice-i.false in
    let w : c.args.i < length f.texts.items = text_room f.len f.nulls.items f.ints.items texts f.texts.items c.args.i own h (length-map f.texts.items now) in
    ap Text (sym (get_or-map now c.as_slice-in-Text.result.now c.args.i (record { ref_ptr = (0, 0); now = [] }) [] (subst (λ xs. c.args.i < length xs) (sym c.as_slice-in-Text.ensures.value) w))
    ∙ ap (λ xs. get_or (map now xs) c.args.i []) c.as_slice-in-Text.ensures.value)
    ∙ text-at f.len f.nulls.items f.ints.items texts c.args.i own h b
    ∙ ap (λ v. get_or v.values c.args.i Null) at
