-- Proofs of the goals of `text_bounds` (`plain::texts`).
use Rattle.std.proofs.Common.{◌≡◌, ℕ, suc, ◌+◌, ◌-◌, ◌<◌, ◌≤◌, List, ◌∷◌, length, take, drop, get_or, ap, ◌∙◌, arith}
use Rattle.std.specs.Int.{from_le_bytes, w32}
use Rattle.std.proofs.lemmas.List.{length-map}
use Rattle.blocks.specs.Plain.{ends_in}
use Rattle.blocks.proofs.ReadParts.{get_or-texts_from, ends_ordered, ends_within}
use Rattle.blocks.proofs.plain.texts.text_bounds.Goals as goal

pub returns : goal.returns
returns c =
    let ends : List ℕ = ends_in c.args.texts.ends.now in
    let joined : List ℕ = c.args.texts.joined.now in
    let i : ℕ = c.args.i in
    let l : length ends ≡ length c.args.texts.ends.now = length-map c.args.texts.ends.now (from_le_bytes w32) in
    let h : i < length ends = omega (arith, l) in
    let one : i + 1 ≡ suc i = omega arith in
    let a : c.text_start.result ≡ get_or (0 ∷ ends) i 0 = c.text_start.ensures in
    let b : c.text_start-2.result ≡ get_or ends i 0 = c.text_start-2.ensures ∙ ap (λ (k : ℕ). get_or (0 ∷ ends) k 0) one in
    let o : get_or (0 ∷ ends) i 0 ≤ get_or ends i 0 = ends_ordered 0 ends (length joined) i c.requires.valid h in
    let w : get_or ends i 0 ≤ length joined = ends_within 0 ends (length joined) i c.requires.valid h in
    record {
      text = ap (λ (k : ℕ). take (k - c.text_start.result) (drop c.text_start.result joined)) b
          ∙ ap (λ (k : ℕ). take (get_or ends i 0 - k) (drop k joined)) a
          ∙ get_or-texts_from 0 ends joined i h;
      ordered = omega (arith, a, b, o);
      within = omega (arith, b, w);
    }
