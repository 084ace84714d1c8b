use Rattle.std.proofs.Common.{◌≡◌, [], ◌∷◌, rules, subst}
use Rattle.command_line.specs.Words.{named_of, values}
use Rattle.command_line.specs.Found.{IsFound}
use Rattle.command_line.proofs.Values.{found_twice, found_again}
use Rattle.command_line.proofs.found.Found.after.Goals as goal

pub returns-in-Once : goal.returns-in-Once
returns-in-Once c = λ vs found.
    let one : values c.args.name.now (named_of c.args.given.now ∷ []) ≡ c.args.given.now.value.now ∷ [] = search rules in
    found_twice vs _ _ _ (subst (IsFound vs) c.in-Once.is found) one

pub returns-in-Often : goal.returns-in-Often
returns-in-Often c = λ vs found. found_again vs _ (subst (IsFound vs) c.in-Often.is found)
