-- Proofs of the goals of `fill_coded_texts` (`dictionary::read`).
use Rattle.std.proofs.Common.{◌≡◌, ℕ, ◌+◌, ◌<◌, List, [], length, take, drop, map, get_or, sym, ap, ◌∙◌, arith}
use Rattle.std.proofs.lemmas.List.{length-map, length-drop, get_or-drop, get_or-map, map-set}
use Rattle.std.specs.Int.{from_le_bytes, w16}
use Rattle.blocks.specs.Dictionary.{codes_in}
use Rattle.blocks.specs.Plain.{texts_in}
use Rattle.blocks.proofs.ReadLists.{step-list}
use Rattle.blocks.proofs.dictionary.read.fill_coded_texts.Goals as goal
use denote.Bor.{Bor}

pub loop-i-preserved : goal.loop-i-preserved
loop-i-preserved c =
    let texts = texts_in c.args.entries.ends.now c.args.entries.joined.now in
    let codes : List ℕ = codes_in c.args.codes.now in
    let i : ℕ = c.loop-i.i in
    let from : ℕ = c.args.from in
    let f : ℕ → List ℕ = λ code. get_or texts code [] in
    let now : Bor (List ℕ) → List ℕ = λ t. t.now in
    let l : length codes ≡ length c.args.codes.now = length-map c.args.codes.now (from_le_bytes w16) in
    let h : from + i < length codes = omega (arith, l) in
    let k : i < length (drop from (map f codes)) = omega (arith, length-map codes f, length-drop from (map f codes), l) in
    let m : i < length (map now c.loop-i.out) = omega (arith, length-map c.loop-i.out now) in
    ap (take (i + 1)) (map-set now c.loop-i.out i c.text_at.result)
    ∙ step-list (map now c.loop-i.out) (drop from (map f codes)) i c.text_at.result.now [] m k c.loop-i.invariant
    (c.text_at.ensures ∙ ap f c.code_at.ensures ∙ sym (get_or-map f codes (from + i) 0 [] h) ∙ sym (get_or-drop from (map f codes) i []))
