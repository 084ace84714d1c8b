-- Proofs of the goals of `size_of_different_ints` (`dictionary::least_size`).
use Rattle.std.proofs.Common.{◌≡◌, ◌-◌, true, pos, length, map, get_or, refl, sym, ap, ◌∙◌, rules, arith}
use Rattle.std.proofs.lemmas.List.{length-map, length-set, get_or-map}
use Rattle.meaning.specs.declared.value.ColType.TheVariants as of_type
use Rattle.meaning.specs.declared.value.Value.TheVariants.{Null, Int}
use Rattle.encodings.specs.Slots.{value_slot}
use Rattle.encodings.proofs.Marks.{row_before, set_drop}
use Rattle.bit_packing.proofs.Ranges.{stored}
use Rattle.encodings.proofs.dictionary.least_size.size_of_different_ints.Goals as goal

pub returns-then-is_settled-clause-least : goal.returns-then-is_settled-clause-least
returns-then-is_settled-clause-least c =
    let cells = (map Int c.args.ints.now) in
    let long = length-map c.args.ints.now Int in
    let is : Int (get_or c.args.ints.now (c.loop-row.row - 1) (pos 0)) ≡ get_or cells (c.loop-row.row - 1) Null = sym (get_or-map Int c.args.ints.now (c.loop-row.row - 1) (pos 0) Null (omega arith)) in
    let step = row_before of_type.Int cells (Int (get_or c.args.ints.now (c.loop-row.row - 1) (pos 0))) c.loop-row.marks c.mark-size.new.marks c.loop-row.row c.slot_of_int.result c.loop-row.size c.mark-size.result 8 (omega arith) (omega arith) is (c.slot_of_int.ensures.value ∙ ap (λ n. value_slot (Int n)) (stored (get_or c.args.ints.now (c.loop-row.row - 1) (pos 0)) (search rules))) refl (omega arith) c.mark-size.ensures.marks c.mark-size.ensures.size c.loop-row.invariant.marked c.loop-row.invariant.size in
    let rest = set_drop of_type.Int (c.loop-row.row - 1) cells in
    let small = step.1 in
    omega arith

pub loop-row-preserved : goal.loop-row-preserved
loop-row-preserved c =
    let cells = (map Int c.args.ints.now) in
    let long = length-map c.args.ints.now Int in
    let is : Int (get_or c.args.ints.now (c.loop-row.row - 1) (pos 0)) ≡ get_or cells (c.loop-row.row - 1) Null = sym (get_or-map Int c.args.ints.now (c.loop-row.row - 1) (pos 0) Null (omega arith)) in
    let step = row_before of_type.Int cells (Int (get_or c.args.ints.now (c.loop-row.row - 1) (pos 0))) c.loop-row.marks c.mark-size.new.marks c.loop-row.row c.slot_of_int.result c.loop-row.size c.mark-size.result 8 (omega arith) (omega arith) is (c.slot_of_int.ensures.value ∙ ap (λ n. value_slot (Int n)) (stored (get_or c.args.ints.now (c.loop-row.row - 1) (pos 0)) (search rules))) refl (omega arith) c.mark-size.ensures.marks c.mark-size.ensures.size c.loop-row.invariant.marked c.loop-row.invariant.size in
    record {
      within = omega arith;
      slots = ap length c.mark-size.ensures.marks ∙ length-set c.loop-row.marks c.slot_of_int.result true ∙ c.loop-row.invariant.slots;
      marked = step.0;
      size = step.1;
      few = search rules;
    }
