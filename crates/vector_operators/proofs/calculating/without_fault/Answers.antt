-- Proofs of the goals of `without_fault` (`calculating`).
use Rattle.std.proofs.Common.{length, ap, ◌∙◌, List}
use Rattle.meaning.specs.declared.value.Value.{Value}
use Rattle.meaning.specs.declared.value.Value.TheVariants.{Int}
use Rattle.vectors.specs.Lanes.{nulls_of}
use Rattle.vectors.proofs.Lanes.{lanes_long}
use Rattle.vector_operators.proofs.SmallReturned.{returned_without}
use Rattle.vector_operators.proofs.calculating.without_fault.Goals as goal

pub returns-clause-value : goal.returns-clause-value
returns-clause-value c = returned_without c.args.ints.items (nulls_of (length c.args.ints.items) c.args.nulls) c.new.result c.requires c.new.ensures

pub returns-clause-long : goal.returns-clause-long
returns-clause-long c =
    ap (λ (vs : List Value). length vs) c.new.ensures ∙ lanes_long Int (nulls_of (length c.args.ints.items) c.args.nulls) c.args.ints.items c.requires
