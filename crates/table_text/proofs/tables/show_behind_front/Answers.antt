-- Proofs of the goals of `show_behind_front` (`tables`).
use Rattle.std.proofs.Common.{◌∙◌, refl, string_bytes}
use Rattle.answer_text.proofs.Showing.{shows_next}
use Rattle.table_text.specs.HeaderText.{all_columns_at, columns_text}
use Rattle.table_text.specs.TableText.{columns_and_groups_text, sealed_groups_at, sized_groups_text}
use Rattle.table_text.proofs.GroupsShown.{shows_of_columns}
use Rattle.table_text.proofs.tables.show_behind_front.Goals as goal

pub returns-clause-shown : goal.returns-clause-shown
returns-clause-shown c =
    let whole = c.args.cursor.now.bytes.now in
    let first = c.args.cursor.now.first in
    let (columns, read, text, given) = c.in_ok-columns.ensures.shown in
    let old = string_bytes c.args.out.now in
    let mid = string_bytes c.show_columns.new.out in
    let new = string_bytes c.show_sealed.new.out in
    let between = c.show_columns.new.cursor.rest.now in
    let rest = c.show_sealed.new.cursor.rest.now in
    shows_next (all_columns_at c.args.cursor.now.rest.now) (λ cs bytes. sealed_groups_at whole cs c.args.rows bytes) (λ cs gs. (cs, gs)) columns_text (λ cs gs. sized_groups_text cs first c.args.size c.args.rows gs) (columns_and_groups_text first c.args.size c.args.rows)
    columns between read c.show_sealed.result old mid new rest text (λ b is. refl)
    (shows_of_columns c.as_slice.result.now columns c.show_columns.new.cursor.first first c.show_columns.new.cursor.bytes.now whole c.args.size c.args.rows c.show_sealed.result mid new rest between (c.as_slice.ensures.value ∙ given) c.in_ok-columns.ensures.part.0 c.in_ok-columns.ensures.part.1 c.show_sealed.ensures.shown)
