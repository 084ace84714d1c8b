-- Proofs of the goals of `choose_ints` (`choice`).
use Rattle.std.proofs.Common.{pos}
use Rattle.meaning.specs.declared.value.Value.TheVariants.{Int}
use Rattle.vector_operators.proofs.Choosing.{chosen_lanes, chosen_long}
use Rattle.vector_operators.proofs.choice.choose_ints.Goals as goal

pub returns-clause-long : goal.returns-clause-long
returns-clause-long c =
    chosen_long Int (pos 0) c.args.mask.now c.args.these.now c.args.those.now c.in_ok-cells.cells.items c.in_ok-nulls.nulls c.in_ok-cells.ensures.long c.in_ok-nulls.ensures c.new.result c.new.ensures

pub returns-clause-value : goal.returns-clause-value
returns-clause-value c = λ of_these of_those.
    chosen_lanes Int (pos 0) c.args.mask.now c.args.these.now c.args.those.now c.in_ok-cells.cells.items c.in_ok-nulls.nulls
    c.in_ok-cells.ensures.long c.in_ok-nulls.ensures c.new.result c.new.ensures (c.in_ok-cells.ensures.value of_these of_those)
