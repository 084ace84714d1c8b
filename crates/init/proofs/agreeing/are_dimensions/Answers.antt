-- Proofs of the goals of `are_dimensions` (`agreeing`).
use Rattle.std.proofs.Common.{◌<◌, ◌∙◌, arith, length, map, sym}
use Rattle.std.proofs.lemmas.List.{get_or-map, length-map, take_more_same}
use Rattle.init.specs.declared.keys.Keyed.{Keyed}
use Rattle.init.proofs.agreeing.are_dimensions.Goals as goal

pub loop-index-preserved : goal.loop-index-preserved
loop-index-preserved c =
    let own = c.args.own.now in
    let others = c.args.others.now in
    let index = c.loop-index.index in
    let d = c.index-own-index.result in
    let other = c.index-others-index.result in
    let below : index < length own = c.loop-index-test.true in
    let within : index < length others = omega (arith, below, c.if-own-others.false) in
    let behind : index < length (map (λ (keyed : Keyed). keyed.dimension) others) = omega (arith, within, length-map others (λ (keyed : Keyed). keyed.dimension)) in
    take_more_same own (map (λ keyed. keyed.dimension) others) index d below behind c.loop-index.invariant (
    sym c.index-own-index.is ∙ c.is_same_dimension.ensures.0 c.if-not-is_same_dimension.false ∙ sym (get_or-map (λ (keyed : Keyed). keyed.dimension) others index other d within)
    )
