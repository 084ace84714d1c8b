-- Proofs of the goals of `size_of_different_texts` (`dictionary::least_size`).
use Rattle.std.proofs.Common.{◌≡◌, ◌-◌, ◌+◌, true, [], length, map, take, drop, get_or, refl, sym, ap, ◌∙◌, rules, arith}
use Rattle.std.proofs.lemmas.List.{length-map, length-set, get_or-map}
use Rattle.meaning.specs.declared.value.ColType.TheVariants as of_type
use Rattle.meaning.specs.declared.value.Value.TheVariants.{Null, Text}
use Rattle.encodings.proofs.EncodedRuns.{rows_of}
use Rattle.encodings.proofs.Marks.{row_before, set_drop}
use Rattle.encodings.proofs.dictionary.least_size.size_of_different_texts.Goals as goal

pub returns-then-is_settled-clause-least : goal.returns-then-is_settled-clause-least
returns-then-is_settled-clause-least c =
    let cells = (map Text (take (c.args.to - c.args.from) (drop c.args.from c.args.texts.now))) in
    let ts = take (c.args.to - c.args.from) (drop c.args.from c.args.texts.now) in
    let rows = rows_of c.args.texts.now c.args.from c.args.to c.requires.within in
    let long = length-map ts Text in
    let is : Text c.text_at-text.result.now ≡ get_or cells (c.loop-row.row - 1) Null = ap Text c.text_at-text.ensures.value ∙ sym (get_or-map Text ts (c.loop-row.row - 1) [] Null (omega arith)) in
    let step = row_before of_type.Text cells (Text c.text_at-text.result.now) c.loop-row.marks c.mark-size.new.marks c.loop-row.row c.slot_of_text.result c.loop-row.size c.mark-size.result (4 + length c.text_at-text.result.now) (omega arith) (omega arith) is c.slot_of_text.ensures.value refl (omega arith) c.mark-size.ensures.marks c.mark-size.ensures.size c.loop-row.invariant.marked c.loop-row.invariant.size in
    let rest = set_drop of_type.Text (c.loop-row.row - 1) cells in
    let small = step.1 in
    omega arith

pub loop-row-preserved : goal.loop-row-preserved
loop-row-preserved c =
    let cells = (map Text (take (c.args.to - c.args.from) (drop c.args.from c.args.texts.now))) in
    let ts = take (c.args.to - c.args.from) (drop c.args.from c.args.texts.now) in
    let rows = rows_of c.args.texts.now c.args.from c.args.to c.requires.within in
    let long = length-map ts Text in
    let is : Text c.text_at-text.result.now ≡ get_or cells (c.loop-row.row - 1) Null = ap Text c.text_at-text.ensures.value ∙ sym (get_or-map Text ts (c.loop-row.row - 1) [] Null (omega arith)) in
    let step = row_before of_type.Text cells (Text c.text_at-text.result.now) c.loop-row.marks c.mark-size.new.marks c.loop-row.row c.slot_of_text.result c.loop-row.size c.mark-size.result (4 + length c.text_at-text.result.now) (omega arith) (omega arith) is c.slot_of_text.ensures.value refl (omega arith) c.mark-size.ensures.marks c.mark-size.ensures.size c.loop-row.invariant.marked c.loop-row.invariant.size in
    record {
      within = omega arith;
      slots = ap length c.mark-size.ensures.marks ∙ length-set c.loop-row.marks c.slot_of_text.result true ∙ c.loop-row.invariant.slots;
      marked = step.0;
      size = step.1;
      few = search rules;
    }
