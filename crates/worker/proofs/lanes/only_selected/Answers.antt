-- Proofs of the goals of `only_selected` (`lanes`).
use Rattle.std.proofs.Common.{List, subst, sym, ap, ◌≡◌, true}
use Rattle.std.specs.List.{AllByRecursion}
use Rattle.meaning.specs.declared.value.Value.{Value}
use Rattle.aggregate_states.specs.Values.{is_spelled}
use Rattle.vectors.specs.Vector.{values_of}
use Rattle.worker.specs.Evaluated.{IsOnly}
use Rattle.worker.proofs.Chosen.{all_spelled, ints_spelled}
use Rattle.worker.proofs.lanes.only_selected.Goals as goal

pub returns-in-Ints : goal.returns-in-Ints
returns-in-Ints c =
    let spelled = subst (λ (vs : List Value). AllByRecursion (λ v. is_spelled v ≡ true) vs) (sym c.parts-parts.ensures.value) (ints_spelled c.parts-parts.result.0.now c.parts-parts.result.1.now) in
    subst (λ (vs : List Value). IsOnly c.args.selection.now.list vs c.in-Ints.ints) (sym (ap values_of c.in-Ints.is)) (all_spelled c.args.selection.now.list c.in-Ints.ints spelled)
