-- Proofs of the goals of `probe` (`index`).
use Rattle.std.proofs.Common.{rules}
use Rattle.group_index.proofs.Steps.{if_none, stops_at_empty, stops_nowhere}
use Rattle.group_index.proofs.index.probe.Goals as goal

pub returns-in_err-stop-clause-missed : goal.returns-in_err-stop-clause-missed
returns-in_err-stop-clause-missed g c =
    let missed = c.in_err-stop.ensures.missed in
    if_none c.from_residual.result
    (λ step d below comes full. stops_nowhere c.args.slots.now c.args.hash _ _ (goal.F-post g c.args.leads) (λ n given said. search rules) (λ s said. search rules) missed.0 missed.2 missed.3 step d below comes full)

pub returns-then-stop-clause-missed : goal.returns-then-stop-clause-missed
returns-then-stop-clause-missed g c = λ step d below comes full.
    let stop = c.in_ok-stop.stop in
    let known = c.in_ok-stop.ensures in
    stops_at_empty c.args.slots.now c.args.hash _ _ (goal.F-post g c.args.leads) (λ n given said. search rules) (λ s said. search rules) stop.step stop.slot known.slot (search rules) known.passed step d comes full
