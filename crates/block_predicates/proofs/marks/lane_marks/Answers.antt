-- Proofs of the goals of `lane_marks` (`marks`).
use Rattle.std.proofs.Common.{◌∙◌, List, false, get_or, length, ap, subst}
use Rattle.std.proofs.lemmas.List.{length-map}
use Rattle.std.proofs.lemmas.Result.{IfOk-weaker}
use Rattle.meaning.specs.declared.outcome.Outcome.{Outcome}
use Rattle.meaning.specs.declared.outcome.Outcome.TheVariants as gives
use Rattle.meaning.specs.declared.value.Value.{Value}
use Rattle.meaning.specs.declared.value.Value.TheVariants.{Null}
use Rattle.block_predicates.specs.Entries.{entries_in, lanes_of}
use Rattle.block_predicates.specs.Marks.{IsMarkOf}
use Rattle.block_predicates.proofs.LaneLists.{lane_is, lanes_long}
use Rattle.block_predicates.proofs.marks.lane_marks.Goals as goal

pub marks_of-requires-clause-long : goal.marks_of-requires-clause-long
marks_of-requires-clause-long c =
    ap (λ (os : List Outcome). length os) c.in_ok-lanes.ensures.values ∙ length-map (lanes_of (entries_in c.args.block.now) c.args.count) gives.Value ∙ lanes_long (entries_in c.args.block.now) c.args.count

pub returns-clause-marked : goal.returns-clause-marked
returns-clause-marked c = IfOk-weaker c.marks_of.result _ _ (λ marks given types typed i lt.
    let b = c.args.block.now in
    let of_lanes = given types b.col_type (lanes_of (entries_in b) c.args.count) c.in_ok-lanes.ensures.values c.in_ok-lanes.ensures.typed c.in_ok-lanes.ensures.fits c.requires.stands typed.column_is typed.condition in
    subst (λ (v : Value). IsMarkOf c.args.condition.now c.args.column v (get_or marks.items i false)) (lane_is (entries_in b) c.args.count i Null lt) (of_lanes i lt)) c.marks_of.ensures.marked
