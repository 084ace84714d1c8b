-- Proofs of the goals of `texts_between` (`dictionary::of_cells`).
use Rattle.std.proofs.Common.{◌≡◌, ◌+◌, ◌-◌, ◌<◌, ◌∷◌, ◌++◌, [], ℕ, List, length, map, take, drop, get_or, sym, ap, ◌∙◌, arith}
use Rattle.std.proofs.lemmas.List.{take_more, map-append, length-drop, get_or-drop}
use Rattle.encodings.proofs.dictionary.of_cells.texts_between.Goals as goal
use denote.Bor.{Bor}

pub loop-row-preserved : goal.loop-row-preserved
loop-row-preserved c =
    let now : Bor (List ℕ) → List ℕ = λ t. t.now in
    let texts = c.args.texts.now in
    let from : ℕ = c.args.from in
    let row : ℕ = c.loop-row.row in
    let i = row - from in
    let next : row + 1 - from ≡ i + 1 = omega arith in
    let row_is : from + i ≡ row = omega arith in
    let long = length-drop from texts in
    let within : i < length (drop from texts) = omega arith in
    let text : c.get.result.now ≡ get_or (drop from texts) i [] = c.get.ensures.value ∙ (ap (λ k. get_or texts k []) (sym row_is) ∙ sym (get_or-drop from texts i [])) in
    ap (map now) c.in_ok-push.ensures.items
    ∙ (map-append now c.loop-row.cells.items (c.get.result ∷ [])
    ∙ (ap (λ ts. ts ++ c.get.result.now ∷ []) c.loop-row.invariant
    ∙ (ap (λ t. take i (drop from texts) ++ t ∷ []) text
    ∙ (sym (take_more (drop from texts) i [] within)
    ∙ ap (λ k. take k (drop from texts)) (sym next)))))
