-- Proofs of the goals of `compare_of_texts` (`comparing`).
use Rattle.std.proofs.Common.{refl, sym, ap, ◌∙◌, [], length, map, ℕ, List, Bor}
use Rattle.std.specs.Int.{from_bool}
use Rattle.std.specs.Ordering.{nat_cmp}
use Rattle.std.specs.Cmp.Lexicographic.{slice_cmp}
use Rattle.std.proofs.lemmas.List.{length-map}
use Rattle.meaning.specs.declared.value.Value.TheVariants.{Text}
use Rattle.meaning.specs.Operators.{test}
use Rattle.vectors.specs.Lanes.{texts_of}
use Rattle.vector_operators.proofs.Tested.{reports, texts_returned}
use Rattle.vector_operators.proofs.comparing.compare_of_texts.Goals as goal

pub returns : goal.returns
returns c =
    let n = length c.args.left.now in
    let lc = texts_of c.text_parts.result.0.now in
    let same = ap (λ (ts : List (Bor (List ℕ))). map (λ t. t.now) ts) c.as_slice.ensures ∙ c.in_ok-left_cells.ensures in
    reports Text [] c.args.op (λ x y. from_bool (test c.args.op (slice_cmp nat_cmp x y))) (texts_returned c.args.op)
    n (length c.as_slice.result.now) c.len.result c.args.left.now c.args.right.now lc (texts_of c.text_parts-2.result.0.now) (map (λ t. t.now) c.as_slice.result.now)
    c.in_ok-bits.bits.items c.as_slice-2.result.now c.text_parts.result.1.now c.text_parts-2.result.1.now c.in_ok-nulls.nulls _ c.truths_from.result
    c.text_parts.ensures c.text_parts-2.ensures refl c.requires c.len.ensures c.in_ok-nulls.ensures same
    (sym (length-map c.as_slice.result.now (λ (t : Bor (List ℕ)). t.now)) ∙ ap (λ (xs : List (List ℕ)). length xs) same ∙ c.text_parts.ensures.long) c.in_ok-bits.ensures c.as_slice-2.ensures.value c.truths_from.ensures.value
