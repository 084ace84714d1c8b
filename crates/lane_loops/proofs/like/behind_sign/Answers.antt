-- Proofs of the goals of `behind_sign` (`like`).
use Rattle.std.proofs.Common.{rules, ◌≡◌, ◌∷◌, true, subst, List, ℕ}
use Rattle.std.specs.Str.{is_utf8}
use Rattle.lane_loops.proofs.PatternParts.{utf8_behind}
use Rattle.lane_loops.proofs.like.behind_sign.Goals as goal

pub returns : goal.returns
returns c =
    let is : c.args.bytes.now ≡ 37 ∷ c.in_ok-first.rest.now = search rules in
    (is, utf8_behind c.in_ok-first.rest.now (subst (λ (bs : List ℕ). is_utf8 bs ≡ true) is c.requires))
