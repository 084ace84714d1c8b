-- Proofs of the goals of `average` (`evaluating`).
use Rattle.std.proofs.Common.{sym, ap, subst, ◌∙◌, pos, int_div, ℤ, FitsSigned, w64, to_z, of_z}
use Rattle.std.proofs.lemmas.Int.{to_z-of_z}
use Rattle.meaning.specs.declared.value.Value.TheVariants as of_value
use Rattle.aggregate_states.proofs.Means.{mean_fits, quotient_is}
use Rattle.aggregate_states.proofs.evaluating.average.Goals as goal

pub overflow_cast-result : goal.overflow_cast-result
overflow_cast-result c =
    let mean = mean_fits c.args.count c.args.sum c.requires.within in
    subst (FitsSigned w64) (sym (quotient_is c.args.count c.args.sum c.from.result c.ranges.sum (record { sfits = c.from.type_inv }) c.from.ensures mean)) mean

pub returns : goal.returns
returns c =
    let mean = mean_fits c.args.count c.args.sum c.requires.within in
    ap of_value.Int (ap (λ (z : ℤ). to_z w64 (of_z w64 z)) (quotient_is c.args.count c.args.sum c.from.result c.ranges.sum (record { sfits = c.from.type_inv }) c.from.ensures mean)
    ∙ to_z-of_z w64 (int_div c.args.sum (pos c.args.count)) mean)
