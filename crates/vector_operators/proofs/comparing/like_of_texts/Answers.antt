-- Proofs of the goals of `like_of_texts` (`comparing`).
use Rattle.std.proofs.Common.{◌≡◌, ap, subst, ◌∙◌, length, map, ℕ, List, Bor, true}
use Rattle.std.specs.Str.{is_utf8}
use Rattle.vectors.specs.Lanes.{texts_of}
use Rattle.lane_loops.specs.Lanes.{AreLanesWhere, like_bit, text_at}
use Rattle.vector_operators.proofs.Tested.{like_returned_if}
use Rattle.vector_operators.proofs.comparing.like_of_texts.Goals as goal

pub returns : goal.returns
returns c =
    let texts = c.as_slice.result.now in
    let same = ap (λ (ts : List (Bor (List ℕ))). map (λ t. t.now) ts) c.as_slice.ensures ∙ c.in_ok-cells.ensures in
    let bits = subst (λ (p : List ℕ). AreLanesWhere 0 (length texts) (λ i. is_utf8 (text_at texts i) ≡ true) (like_bit p texts) c.in_ok-bits.bits.items) c.as_str.ensures c.in_ok-bits.ensures in
    like_returned_if c.args.pattern.now c.args.texts.now (texts_of c.text_parts.result.0.now) texts c.text_parts.result.1.now c.in_ok-bits.bits.items c.as_slice-2.result.now _ c.truths_from.result
    c.text_parts.ensures same bits c.as_slice-2.ensures.value c.truths_from.ensures.value
