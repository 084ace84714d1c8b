-- Proofs of the goals of `found_in_ints` (`extreme`).
use Rattle.std.proofs.Common.{◌≡◌, ◌∷◌, rules, refl, FitsSigned, w64}
use Rattle.aggregate_states.proofs.PlainInts.{found_read}
use Rattle.aggregate_states.proofs.extreme.found_in_ints.Goals as goal

pub returns-clause-value : goal.returns-clause-value
returns-clause-value c =
    let fits : FitsSigned w64 c.best_of.result = search rules in
    let are : c.args.ints.now ≡ c.in-Some.first.now ∷ c.in-Some.rest.now = c.in-Some.ensures.cases.0 in
    found_read c.args.end c.args.ints.now c.in-Some.first.now c.best_of.result c.in-Some.rest.now _ are fits c.best_of.ensures refl
