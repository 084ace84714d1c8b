-- Groups that are taken a batch at a time.
use Rattle.std.specs.Prelude.{◌≡◌, ℕ, ◌+◌, ◌-◌, ◌≤◌, List, ◌++◌, take, drop}
use Rattle.std.proofs.Common.{sym, ap, ◌∙◌, arith}
use Rattle.std.proofs.lemmas.List.{take-append-drop, take-take, drop-take}
use Rattle.meaning.specs.declared.answer.Group.{Group}

joined : (from n : ℕ) (gs : List Group) → take from gs ++ take n (drop from gs) ≡ take (from + n) gs
joined from n gs = (λ i. sym (take-take from (from + n) gs (omega arith)) i ++ sym (drop-take from n gs) i) ∙ take-append-drop from (take (from + n) gs)

-- a batch behind the groups before it
pub up_to : (from to : ℕ) (gs : List Group) → from ≤ to → take from gs ++ take (to - from) (drop from gs) ≡ take to gs
up_to from to gs ordered =
    let far : from + (to - from) ≡ to = omega (arith, ordered) in
    joined from (to - from) gs ∙ ap (λ n. take n gs) far
