-- Proofs of the goals of `sound_text` (`texts`).
use Rattle.std.proofs.Common.{List, [], ℕ, ap, map, sym, subst}
use Rattle.std.specs.Prelude.{Result}
use Rattle.std.proofs.lemmas.List.Elements.{recursion_from_All}
use Rattle.meaning.specs.Wanting.{ReportsIfMemory}
use Rattle.last_step.specs.Batches.{HasValues, row_in}
use Rattle.last_step.specs.Given.{fault_returned}
use Rattle.last_step.specs.Printing.{best_text}
use Rattle.last_step.proofs.Rest.{sound_after}
use Rattle.last_step.proofs.texts.sound_text.Goals as goal

pub returns : goal.returns
returns c =
    subst (λ (meaning : Result (List ℕ) ℕ). ReportsIfMemory fault_returned (λ text. text.items) c.shown_text-text.result meaning)
    (sym (ap (best_text c.args.plan.now) (sound_after c.args.plan.now [] c.args.groups.now c.requires.grouped (recursion_from_All (HasValues c.args.plan.now) c.args.groups.now c.requires.values))))
    (c.shown_text-text.ensures (map (row_in c.args.plan.now) c.args.groups.now) c.in_ok-batch.ensures)
