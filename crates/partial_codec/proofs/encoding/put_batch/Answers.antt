-- Proofs of the goals of `put_batch` (`encoding`).
use Rattle.std.proofs.Common.{subst, sym, List, ◌∙◌}
use Rattle.std.specs.List.{AllByRecursion}
use Rattle.meaning.specs.declared.answer.Group.{Group}
use Rattle.answer_fields.specs.Ranges.{IsGroup}
use Rattle.answer_fields.specs.Shape.{shape_of}
use Rattle.packed_groups.proofs.PackedBytes.{all_in_front}
use Rattle.partial_codec.proofs.encoding.put_batch.Goals as goal

pub put_all_groups-requires : goal.put_all_groups-requires
put_all_groups-requires c =
    let fits = IsGroup (shape_of c.args.plan.now) in
    subst (λ (gs : List Group). AllByRecursion fits gs) (sym (c.as_slice.ensures.value ∙ c.in_ok-groups.ensures.taken)) (all_in_front fits 256 c.args.left.now c.requires)
