-- Proofs of the goals of `note_any` (`calculating`).
use Rattle.std.proofs.Common.{length, sym, ap, ◌∙◌, ℕ, Option}
use Rattle.std.specs.List.{range_with_len}
use Rattle.lane_loops.specs.Lanes.{is_flagged}
use Rattle.vector_operators.specs.Returned.{coded}
use Rattle.vector_operators.specs.Evaluated.{noted}
use Rattle.vector_operators.proofs.Among.{all_fail, no_flags}
use Rattle.vector_operators.proofs.calculating.note_any.Goals as goal

pub returns-else-has_flag : goal.returns-else-has_flag
returns-else-has_flag c =
    let none = all_fail (is_flagged c.args.codes.now) (range_with_len 0 (length c.args.codes.now)) (no_flags c.args.codes.now (sym c.has_flag.ensures ∙ c.if-has_flag.false)) in
    sym (ap (λ (found : Option ℕ). noted c.args.fault.now.held (coded c.args.codes.now found)) none)
