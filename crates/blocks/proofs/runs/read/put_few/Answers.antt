-- Proofs of the goals of `put_few` (`runs::read`).
use Rattle.std.proofs.Common.{◌≡◌, ℕ, ◌+◌, ◌-◌, List, length, take, drop, ap, ◌∙◌, arith, ℤ, w64, to_z, of_z}
use Rattle.std.proofs.lemmas.Int.{to_z-of_z}
use Rattle.std.proofs.lemmas.List.{length-drop, length-take-le}
use Rattle.std.specs.Prelude.{replicate}
use Rattle.blocks.proofs.ReadLists.{take-put_equal}
use Rattle.blocks.proofs.runs.read.put_few.Goals as goal

pub returns : goal.returns
returns c =
    let m : ℕ = c.args.at + 8 - c.args.at in
    let behind : List ℤ = drop c.args.at c.args.out.now in
    let d : length behind ≡ length c.args.out.now - c.args.at = length-drop c.args.at c.args.out.now in
    let l : length (take m behind) ≡ m = length-take-le m behind (omega (arith, d)) in
    let f : to_z w64 (of_z w64 c.args.value) ≡ c.args.value = to_z-of_z w64 c.args.value c.ranges.value in
    let now : c.fill.new.self ≡ replicate m c.args.value
    = c.fill.ensures.after (λ y e. e) ∙ ap (λ (k : ℕ). replicate k (to_z w64 (of_z w64 c.args.value))) l ∙ ap (replicate m) f in
    take-put_equal c.args.out.now c.fill.new.self c.args.at c.args.n m c.args.value now (omega arith) (omega arith)
