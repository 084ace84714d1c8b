use Rattle.std.proofs.Common.{◌≡◌, false, map, rules, sym, ◌∙◌}
use Rattle.tools.specs.Words.{asks_version}
use Rattle.tools.proofs.Taken.{by_name, no_such}
use Rattle.tools.proofs.asking.asked.Goals as goal

pub returns-in-Some-clause-taken : goal.returns-in-Some-clause-taken
returns-in-Some-clause-taken c =
    let other : asks_version (map (λ w. w.now) c.args.words.now) ≡ false = search rules in
    λ tool said. sym c.in-Some.is ∙ c.in_ok-tool.ensures.only tool (by_name _ tool other said)

pub returns-in_ok-refusal-in-None-clause-taken : goal.returns-in_ok-refusal-in-None-clause-taken
returns-in_ok-refusal-in-None-clause-taken c =
    let other : asks_version (map (λ w. w.now) c.args.words.now) ≡ false = search rules in
    λ tool said. absurd (no_such tool (sym c.in-None.is ∙ c.in_ok-tool.ensures.only tool (by_name _ tool other said)))
