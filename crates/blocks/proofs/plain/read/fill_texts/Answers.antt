-- Proofs of the goals of `fill_texts` (`plain::read`).
use Rattle.std.proofs.Common.{◌≡◌, ℕ, ◌+◌, ◌<◌, List, [], length, take, drop, map, sym, ap, ◌∙◌, arith}
use Rattle.std.proofs.lemmas.List.{length-map, length-drop, get_or-drop, map-set}
use Rattle.blocks.specs.Plain.{ends_in, texts_in}
use Rattle.blocks.proofs.ReadLists.{step-list}
use Rattle.blocks.proofs.ReadParts.{length-texts_from}
use Rattle.std.specs.Int.{from_le_bytes, w32}
use Rattle.blocks.proofs.plain.read.fill_texts.Goals as goal
use denote.Bor.{Bor}

pub loop-i-preserved : goal.loop-i-preserved
loop-i-preserved c =
    let ends = c.args.texts.ends.now in
    let texts = texts_in ends c.args.texts.joined.now in
    let i : ℕ = c.loop-i.i in
    let now : Bor (List ℕ) → List ℕ = λ t. t.now in
    let e : length texts ≡ length ends = length-texts_from 0 (ends_in ends) c.args.texts.joined.now ∙ length-map ends (from_le_bytes w32) in
    let k : i < length (drop c.args.from texts) = omega (arith, length-drop c.args.from texts, e) in
    let l : i < length (map now c.loop-i.out) = omega (arith, length-map c.loop-i.out now) in
    ap (take (i + 1)) (map-set now c.loop-i.out i c.text_at.result)
    ∙ step-list (map now c.loop-i.out) (drop c.args.from texts) i c.text_at.result.now [] l k c.loop-i.invariant
    (c.text_at.ensures ∙ sym (get_or-drop c.args.from texts i []))
