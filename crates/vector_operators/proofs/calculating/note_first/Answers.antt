-- Proofs of the goals of `note_first` (`calculating`).
use Rattle.std.proofs.Common.{length, sym, ◌∙◌}
use Rattle.std.specs.List.{range_with_len}
use Rattle.lane_loops.specs.Lanes.{is_flagged}
use Rattle.vector_operators.proofs.Among.{find_passes, flagged_within}
use Rattle.vector_operators.proofs.calculating.note_first.Goals as goal

pub bounds-codes-position : goal.bounds-codes-position
bounds-codes-position c =
    flagged_within c.args.codes.now c.in-Some.position
    (find_passes (is_flagged c.args.codes.now) (range_with_len 0 (length c.args.codes.now)) c.in-Some.position (sym c.first_of_all.ensures ∙ c.in-Some.is)).1
