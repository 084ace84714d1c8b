-- Proofs of the goals of `push_sound` (`showing`).
use Rattle.std.proofs.Common.{List, ℕ, ap, map, sym, subst}
use Rattle.std.specs.Prelude.{Result}
use Rattle.std.proofs.lemmas.List.Elements.{recursion_from_All}
use Rattle.meaning.specs.Order.{Row}
use Rattle.last_step.specs.Batches.{HasValues, row_in}
use Rattle.meaning.specs.Wanting.{ReportsIfMemory}
use Rattle.last_step.specs.Given.{fault_returned}
use Rattle.last_step.specs.Best.{best, best_of}
use Rattle.last_step.specs.Runs.{expanded}
use Rattle.last_step.proofs.Rest.{sound_after}
use Rattle.last_step.proofs.showing.push_sound.Goals as goal

pub returns : goal.returns
returns c =
    subst (λ (meaning : Result (List Row) ℕ). ReportsIfMemory {X = Unit {0}} {Y = List Row} fault_returned (λ _. best c.args.plan.now (expanded c.push_shown-pushed.new.runs.items)) c.push_shown-pushed.result meaning)
    (sym (ap (best_of c.args.plan.now) (sound_after c.args.plan.now (expanded c.args.runs.now.items) c.args.groups.now c.requires.grouped (recursion_from_All (HasValues c.args.plan.now) c.args.groups.now c.requires.values))))
    (c.push_shown-pushed.ensures (map (row_in c.args.plan.now) c.args.groups.now) c.in_ok-batch.ensures)
