-- Proofs of the goals of `is_less` (`extreme`).
use Rattle.std.proofs.Common.{rules, FitsSigned, w64}
use Rattle.aggregate_states.proofs.PlainInts.{less_read}
use Rattle.aggregate_states.proofs.extreme.is_less.Goals as goal

pub returns : goal.returns
returns c =
    let fits : FitsSigned w64 c.args.int.now = search rules in
    let other_fits : FitsSigned w64 c.args.other.now = search rules in
    less_read c.args.int.now c.args.other.now fits other_fits
