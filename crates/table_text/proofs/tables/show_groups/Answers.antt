-- Proofs of the goals of `show_groups` (`tables`).
use Rattle.std.proofs.Common.{◌≡◌, ◌-◌, ◌∙◌, ◌++◌, ◌∷◌, [], ap, length, refl, string_bytes, subst, sym}
use Rattle.std.specs.Prelude.{map, min, Err, Ok}
use Rattle.meaning.specs.Limits.{row_group_rows}
use Rattle.std.proofs.lemmas.List.{length-map}
use Rattle.std.proofs.lemmas.Result.{err_from_is_err_and}
use Rattle.fragment_file.specs.Fragment.{group_sizes}
use Rattle.answer_text.specs.Reading.{fault_in}
use Rattle.answer_text.proofs.Took.{still}
use Rattle.table_text.specs.TableText.{group_at, group_text, groups_at}
use Rattle.table_text.proofs.GroupsShown.{begins, group_kept, group_shown, groups_fail, groups_finish, groups_go_on, no_groups_shown}
use Rattle.table_text.proofs.tables.show_groups.Goals as goal

pub loop-left-init : goal.loop-left-init
loop-left-init c = (
  [],
  begins (groups_at c.args.cursor.now.bytes.now c.args.columns.now (group_sizes c.args.rows) c.args.cursor.now.rest.now),
  no_groups_shown c.args.columns.now c.args.cursor.now.first (string_bytes c.args.out.now),
  ap (map (λ g. g.items)) c.requires,
  (refl, refl),
)

pub loop-left-preserved : goal.loop-left-preserved
loop-left-preserved c =
    let whole = c.args.cursor.now.bytes.now in
    let columns = c.args.columns.now in
    let (read, so_far, text, kept, part) = c.loop-left.invariant in
    let (g, one, line, (rows, more)) = c.in_ok-shown.ensures.shown in
    let many : length c.loop-left.groups.items ≡ length read = sym (length-map c.loop-left.groups.items (λ g. g.items)) ∙ ap length kept ∙ length-map read (λ g. g.blocks) in (
      read ++ g ∷ [],
      groups_go_on read whole columns c.loop-left.left c.loop-left.cursor.rest.now (groups_at whole columns (group_sizes c.args.rows) c.args.cursor.now.rest.now) so_far g c.show_group.new.cursor.rest.now c.saturating_sub-left.result c.loop-left-test.true
          (c.saturating_sub-left.ensures ∙ ap (λ n. c.loop-left.left - n) c.in_ok-shown.ensures.rows) (subst (λ w. group_at w columns (min c.loop-left.left row_group_rows) c.loop-left.cursor.rest.now ≡ Ok (g, c.show_group.new.cursor.rest.now)) part.1 one),
      group_shown columns c.args.cursor.now.first (length c.loop-left.groups.items) read g (string_bytes c.args.out.now) (string_bytes c.loop-left.out) (string_bytes c.show_group.new.out) many text
          (line ∙ ap (λ f. string_bytes c.loop-left.out ++ group_text columns f (length c.loop-left.groups.items) g) part.0),
      group_kept (map (λ g. g.items) c.loop-left.groups.items) (map (λ g. g.items) c.show_group.new.groups.items) read g more kept,
      still c.args.cursor.now c.loop-left.cursor c.show_group.new.cursor part c.in_ok-shown.ensures.part,
    )

pub returns-clause-shown : goal.returns-clause-shown
returns-clause-shown c =
    let whole = c.args.cursor.now.bytes.now in
    let columns = c.args.columns.now in
    let (read, so_far, text, kept, part) = c.loop-left.invariant in
    (read, groups_finish read whole columns c.loop-left.left c.loop-left.cursor.rest.now (groups_at whole columns (group_sizes c.args.rows) c.args.cursor.now.rest.now) so_far c.loop-left-test.false, text, kept)

pub returns-in_err-shown-clause-shown : goal.returns-in_err-shown-clause-shown
returns-in_err-shown-clause-shown c =
    let whole = c.args.cursor.now.bytes.now in
    let columns = c.args.columns.now in
    let (read, so_far, text, kept, part) = c.loop-left.invariant in
    let p = err_from_is_err_and c.from_residual.result c.from_residual.ensures.1 in
    rw (p.1, p.2) (λ other. groups_fail read whole columns c.loop-left.left c.loop-left.cursor.rest.now (groups_at whole columns (group_sizes c.args.rows) c.args.cursor.now.rest.now) so_far (fault_in c.in_err-shown.field-0.0) c.loop-left-test.true
    (subst (λ w. group_at w columns (min c.loop-left.left row_group_rows) c.loop-left.cursor.rest.now ≡ Err (fault_in c.in_err-shown.field-0.0)) part.1 (c.in_err-shown.ensures.shown other)))
