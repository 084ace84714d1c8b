-- Proofs of the goals of `plain` (`lanes`).
use Rattle.std.proofs.Common.{◌≡◌, All, List, ap, false, length, replicate, subst, sym, true, ◌∙◌}
use Rattle.std.proofs.lemmas.List.{length-replicate}
use Rattle.meaning.specs.declared.value.Value.{Value}
use Rattle.meaning.specs.declared.value.Value.TheVariants.{Int}
use Rattle.vectors.proofs.Lanes.{lanes_long}
use Rattle.aggregate_states.specs.Values.{is_spelled}
use Rattle.aggregate_states.proofs.Spelled.{ints_spelled}
use Rattle.short_vectors.proofs.lanes.plain.Goals as goal

pub returns-clause-long : goal.returns-clause-long
returns-clause-long c =
    let cells = c.args.list.now in
    ap (λ (vs : List Value). length vs) c.new.ensures ∙ lanes_long Int (replicate (length cells) false) cells (length-replicate (length cells) false)

pub returns-clause-spelled : goal.returns-clause-spelled
returns-clause-spelled c =
    let cells = c.args.list.now in
    subst (λ (vs : List Value). All (λ v. is_spelled v ≡ true) vs) (sym c.new.ensures) (ints_spelled (replicate (length cells) false) cells)
