-- Proofs of the goals of `LaneSet::keep_flags` (`lane_set`).
use Rattle.std.proofs.Common.{refl, sym, ap, ◌∙◌, Bool, List}
use Rattle.std.specs.Prelude.{Some, None}
use Rattle.vector_operators.specs.declared.lane_set.Marks.{Marks}
use Rattle.vector_operators.specs.LaneSets.{lanes_in, mask_in}
use Rattle.vector_operators.proofs.MarkedLanes.{flags_kept}
use Rattle.vector_operators.proofs.lane_set.LaneSet.keep_flags.Goals as goal

pub returns-in-All : goal.returns-in-All
returns-in-All c =
    let n = c.self.inside.lanes in
    flags_kept n None c.args.self.now c.args.flags.now c.args.flags.now (sym c.self.view_is ∙ ap (λ (m : Marks). lanes_in n (mask_in m)) c.in-All.is) c.requires
    (record { long = refl; each = λ i within. refl })

pub returns-in-Marked : goal.returns-in-Marked
returns-in-Marked c =
    let n = c.self.inside.lanes in
    flags_kept n (Some c.as_slice.result.now) c.args.self.now c.args.flags.now c.keep_flags.new.flags
    (sym c.self.view_is ∙ ap (λ (m : Marks). lanes_in n (mask_in m)) c.in-Marked.is ∙ ap (λ (xs : List Bool). lanes_in n (Some xs)) (sym c.as_slice.ensures.value)) c.requires
    c.keep_flags.ensures
