-- Proofs of the goals of `show_blocks` (`tables`).
use Rattle.std.proofs.Common.{◌++◌, ◌∙◌, ap, string_bytes}
use Rattle.std.specs.Prelude.{map}
use Rattle.fragment_file.specs.Fragment.{group_sizes}
use Rattle.table_text.specs.TableText.{groups_at, totals_text}
use Rattle.table_text.proofs.GroupsShown.{shows_groups}
use Rattle.table_text.proofs.tables.show_blocks.Goals as goal

pub returns-clause-shown : goal.returns-clause-shown
returns-clause-shown c =
    let columns = c.args.columns.now in
    let mid = string_bytes c.show_groups-shown.new.out in
    shows_groups columns c.args.cursor.now.first c.args.rows (map (λ g. g.items) c.show_groups-shown.new.groups.items) c.show_groups-shown.result (string_bytes c.args.out.now) mid (string_bytes c.put_totals.new.out) c.show_groups-shown.new.cursor.rest.now
    (groups_at c.args.cursor.now.bytes.now columns (group_sizes c.args.rows) c.args.cursor.now.rest.now) c.show_groups-shown.ensures.shown
    (c.in_ok-put_totals.ensures ∙ ap (λ gs. mid ++ totals_text c.args.rows (map (λ g. g.items) gs) columns) c.as_slice.ensures.value)
