-- Proofs of the goals of `EntryMarks::of_entries` (`marks`).
use Rattle.std.proofs.Common.{◌≡◌, ◌∙◌, ℕ, Bool, false, List, length, get_or, ap, subst}
use Rattle.meaning.specs.declared.value.Value.{Value}
use Rattle.block_predicates.specs.Entries.{entries_in}
use Rattle.block_predicates.specs.Marks.{AreMarksOf}
use Rattle.block_predicates.proofs.EntryKinds.{lanes_enough, lent_are, lent_kind, rows_few}
use Rattle.block_predicates.proofs.RowMarks.{rows_marked}
use Rattle.block_predicates.proofs.marks.EntryMarks.of_entries.Goals as goal

pub found_marks-requires-clause-few : goal.found_marks-requires-clause-few
found_marks-requires-clause-few c = rows_few c.args.block.now c.args.entries.now c.len-rows.ensures.sound c.requires.entries

pub found_marks-requires-clause-long : goal.found_marks-requires-clause-long
found_marks-requires-clause-long c = lanes_enough c.args.block.now c.args.entries.now (length c.in_ok-marks.marks.items) c.requires.entries (c.in_ok-marks.ensures.long ∙ c.count_lanes-count.ensures.value)

pub returns : goal.returns
returns c =
    let b = c.args.block.now in
    let e = c.args.condition.now in
    let at = c.args.column in
    let marks = c.in_ok-marks.marks.items in
    let null : c.is_marked-null.result ≡ get_or marks (length (entries_in b)) false =
    c.is_marked-null.ensures ∙ ap (λ (ms : List Bool). get_or ms c.len.result false) c.as_slice.ensures.value
    ∙ ap (λ (n : ℕ). get_or marks n false) (c.len.ensures ∙ ap (λ (vs : List Value). length vs) (lent_are b c.args.entries.now c.requires.entries)) in
    record {
      stands = c.requires.stands;
      entries = lent_kind b c.args.entries.now c.requires.entries;
      counted = c.count_lanes-count.ensures.value;
      marked = λ types typed row lt. rows_marked e at b (record { column = at; count = c.count_lanes-count.result; null = c.is_marked-null.result; marks = c.in_ok-marks-2.marks }) marks c.len-rows.ensures.sound
          (c.in_ok-marks.ensures.long ∙ c.count_lanes-count.ensures.value) null
          (subst (AreMarksOf e at (entries_in b) marks) c.count_lanes-count.ensures.value (c.in_ok-marks.ensures.marked types typed))
          c.args.entries.now c.requires.entries c.in_ok-marks-2.ensures row lt;
    }
