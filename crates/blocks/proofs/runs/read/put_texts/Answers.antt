-- Proofs of the goals of `put_texts` (`runs::read`).
use Rattle.std.proofs.Common.{◌≡◌, ℕ, ◌+◌, ◌-◌, ◌<◌, List, [], ◌∷◌, ◌++◌, length, take, map, ap, ◌∙◌, arith}
use Rattle.std.specs.Prelude.{replicate}
use Rattle.std.proofs.lemmas.List.{take_more_set, map-set, length-map, append_assoc, replicate_more}
use Rattle.blocks.proofs.runs.read.put_texts.Goals as goal
use denote.Bor.{Bor}

pub loop-i-preserved : goal.loop-i-preserved
loop-i-preserved c =
    let i : ℕ = c.loop-i.i in
    let now : Bor (List ℕ) → List ℕ = λ t. t.now in
    let text : List ℕ = c.args.text.now in
    let front = take c.args.at (map now c.args.out.now) in
    let m : i < length (map now c.loop-i.out) = omega (arith, length-map c.loop-i.out now) in
    let e : i - c.args.at + 1 ≡ i + 1 - c.args.at = omega arith in
    ap (take (i + 1)) (map-set now c.loop-i.out i c.args.text)
    ∙ take_more_set (map now c.loop-i.out) i text m
    ∙ ap (λ zs. zs ++ text ∷ []) c.loop-i.invariant
    ∙ append_assoc front (replicate (i - c.args.at) text) (text ∷ [])
    ∙ ap (λ zs. front ++ zs) (replicate_more (i - c.args.at) text)
    ∙ ap (λ (k : ℕ). front ++ replicate k text) e
