-- Proofs of the goals of `before_sign` (`like`).
use Rattle.std.proofs.Common.{rules, ◌≡◌, [], ◌∷◌, ◌++◌, true, subst, List, ℕ}
use Rattle.std.specs.Str.{is_utf8}
use Rattle.lane_loops.proofs.PatternParts.{utf8_before}
use Rattle.lane_loops.proofs.like.before_sign.Goals as goal

pub returns : goal.returns
returns c =
    let is : c.args.bytes.now ≡ c.in_ok-last.front.now ++ 37 ∷ [] = search rules in
    (is, utf8_before c.in_ok-last.front.now (subst (λ (bs : List ℕ). is_utf8 bs ≡ true) is c.requires))
