-- Proofs of the goals of `put_packed_groups` (`encoding`).
use Rattle.std.proofs.Common.{List, ap, length, subst, sym, arith}
use Rattle.std.specs.List.{AllByRecursion}
use Rattle.std.proofs.lemmas.List.{length-drop}
use Rattle.meaning.specs.declared.answer.Group.{Group}
use Rattle.answer_fields.specs.Ranges.{IsGroup}
use Rattle.answer_fields.specs.Shape.{shape_of}
use Rattle.answer_fields.specs.Spelling.{group_bytes}
use Rattle.packed_groups.proofs.PackedBytes.{all_behind}
use Rattle.partial_codec.proofs.Batches.{batch_put}
use Rattle.partial_codec.proofs.encoding.put_packed_groups.Goals as goal

pub loop-left-smaller : goal.loop-left-smaller
loop-left-smaller c =
    let some = c.loop-left-test.true in
    omega (arith, some, c.len.ensures, ap length c.in_ok-spare.ensures.left, length-drop 256 c.loop-left.left)

pub loop-left-preserved : goal.loop-left-preserved
loop-left-preserved c =
    let fits = IsGroup (shape_of c.args.plan.now) in
    record {
      put = batch_put (group_bytes (shape_of c.args.plan.now)) 256 c.loop-left.out.items c.put_batch.new.out.items c.args.out.now.items c.loop-left.left c.put_batch.new.left c.args.groups.now
          c.in_ok-spare.ensures.put c.in_ok-spare.ensures.left c.loop-left.invariant.put;
      each = subst (λ (gs : List Group). AllByRecursion fits gs) (sym c.in_ok-spare.ensures.left) (all_behind fits 256 c.loop-left.left c.loop-left.invariant.each);
    }
