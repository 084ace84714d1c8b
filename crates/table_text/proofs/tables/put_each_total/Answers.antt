-- Proofs of the goals of `put_each_total` (`tables`).
use Rattle.std.proofs.Common.{◌∙◌, ◌++◌, append-nil, string_bytes, sym}
use Rattle.std.specs.Prelude.{map}
use Rattle.table_text.specs.BlockText.{total_line}
use Rattle.table_text.proofs.GroupsShown.{all_totals_shown, total_shown}
use Rattle.table_text.proofs.tables.put_each_total.Goals as goal

pub loop-number-init : goal.loop-number-init
loop-number-init c = sym (append-nil (string_bytes c.args.out.now))

pub loop-number-preserved : goal.loop-number-preserved
loop-number-preserved c =
    let column = c.index-columns-number.result in
    total_shown c.args.rows (map (λ g. g.items) c.args.groups.now) c.args.columns.now c.loop-number.number column (string_bytes c.args.out.now) (string_bytes c.loop-number.out) (string_bytes c.put_total.new.out) c.loop-number-test.true c.index-columns-number.is c.loop-number.invariant
    (c.in_ok-put_total.ensures ∙ (λ i. string_bytes c.loop-number.out ++ total_line c.args.rows (c.as_str.ensures i) (c.total_in-total.ensures i)))

pub returns : goal.returns
returns c = all_totals_shown c.args.rows (map (λ g. g.items) c.args.groups.now) c.args.columns.now c.loop-number.number (string_bytes c.args.out.now) (string_bytes c.loop-number.out) c.loop-number-test.false c.loop-number.invariant
