-- Proofs of the goals of `show_table_file` (`tables`).
use Rattle.std.proofs.Common.{refl, string_bytes}
use Rattle.answer_text.proofs.Showing.{shows_next}
use Rattle.table_text.specs.HeaderText.{front_at, front_text}
use Rattle.table_text.specs.TableText.{columns_and_groups_at, columns_and_groups_text, table_of, table_text}
use Rattle.table_text.proofs.GroupsShown.{shows_of_rows}
use Rattle.table_text.proofs.tables.show_table_file.Goals as goal

pub returns-clause-shown : goal.returns-clause-shown
returns-clause-shown c =
    let whole = c.args.cursor.now.bytes.now in
    let first = c.args.cursor.now.first in
    let (front, read, text, rows) = c.in_ok-rows.ensures.shown in
    let old = string_bytes c.args.out.now in
    let mid = string_bytes c.show_front.new.out in
    let new = string_bytes c.show_behind_front.new.out in
    let between = c.show_front.new.cursor.rest.now in
    let rest = c.show_behind_front.new.cursor.rest.now in
    shows_next (front_at c.args.cursor.now.rest.now) (λ f bytes. columns_and_groups_at whole f.place.rows bytes) (λ f p. table_of f p) front_text (λ f p. columns_and_groups_text first c.args.size f.place.rows p) (table_text first c.args.size)
    front between read c.show_behind_front.result old mid new rest text (λ b is. refl)
    (shows_of_rows c.in_ok-rows.rows front.place.rows c.show_front.new.cursor.first first c.show_front.new.cursor.bytes.now whole c.args.size c.show_behind_front.result mid new rest between rows c.in_ok-rows.ensures.part.0 c.in_ok-rows.ensures.part.1 c.show_behind_front.ensures.shown)
