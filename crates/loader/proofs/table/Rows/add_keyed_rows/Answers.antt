-- Proofs of the goals of `Rows::add_keyed_rows` (`table`).
use Rattle.std.proofs.Common.{◌+◌, ◌∙◌, refl, sym, subst, ap, arith, List, [], length, Ok, Err}
use Rattle.std.proofs.lemmas.Result.{err_from_is_err_and}
use Rattle.meaning.specs.declared.table.TableFault.TheVariants.{KeyTwice}
use Rattle.loader.specs.Keys.{HoldsKeys}
use Rattle.meaning.specs.declared.catalog.Column.{Column}
use Rattle.loader.specs.Columns.{AreDeclared, row_counts}
use Rattle.loader.proofs.Declared.{declared_length, longer_still, none_longer}
use Rattle.loader.proofs.RowRuns.{as_meant}
use Rattle.loader.proofs.KeyedRows.{all_refused, all_taken, one_row, all_many, all_done, keys_in}
use Rattle.loader.proofs.table.Rows.add_keyed_rows.Goals as goal

pub loop-row-init : goal.loop-row-init
loop-row-init g c = (refl, refl, c.requires.columns, none_longer (row_counts c.args.columns.now), λ rest left. ([], rest, [], refl, refl, refl, refl, refl, c.requires.none, left))

pub returns-in_err-next_row-clause-taken : goal.returns-in_err-next_row-clause-taken
returns-in_err-next_row-clause-taken g c rest left =
    let known = g.R.Read.remaining in
    let declared = c.args.self.now.declared.now in
    let order = c.args.self.now.order.columns.items in
    let (same, ordered, are, longer, so_far) = c.loop-row.invariant in
    let (before, later, rows, all, long, done, judged, kept, held, on) = so_far rest left in
    let p = err_from_is_err_and c.from_residual.result c.from_residual.ensures.1 in
    let taken = as_meant known c.next_row.new.self.reader declared c.loop-row.self.declared.now order c.loop-row.self.order.columns.items (length before) c.loop-row.row later c.loop-row.columns c.next_row.new.columns (Err c.in_err-next_row.field-0.0)
    same (ap (λ o. o.columns.items) ordered) (sym long) (c.in_err-next_row.ensures.taken later on) in
    rw (p.1, p.2) (all_refused known c.next_row.new.self.reader declared order c.args.key c.args.most c.args.columns.now c.loop-row.columns c.next_row.new.columns rest before later rows all done judged kept c.in_err-next_row.field-0.0 (omega (arith, long, c.loop-row-test.true)) taken)

pub returns-then-not-branch-clause-taken : goal.returns-then-not-branch-clause-taken
returns-then-not-branch-clause-taken g c rest left =
    let known = g.R.Read.remaining in
    let declared = c.args.self.now.declared.now in
    let order = c.args.self.now.order.columns.items in
    let (same, ordered, are, longer, so_far) = c.loop-row.invariant in
    let (before, later, rows, all, long, done, judged, kept, held, on) = so_far rest left in
    let taken = as_meant known c.next_row.new.self.reader declared c.loop-row.self.declared.now order c.loop-row.self.order.columns.items (length before) c.loop-row.row later c.loop-row.columns c.next_row.new.columns (Ok c.in_ok-next_row.field-0)
    same (ap (λ o. o.columns.items) ordered) (sym long) (c.in_ok-next_row.ensures.taken later on) in
    all_taken known c.next_row.new.self.reader declared order c.args.key c.args.most c.args.columns.now c.loop-row.columns c.next_row.new.columns rest before later rows all done judged kept c.in_ok-next_row.field-0 c.if-not-branch.true taken

pub returns-then-not-branch-clause-kept : goal.returns-then-not-branch-clause-kept
returns-then-not-branch-clause-kept g c =
    let (same, ordered, are, longer, so_far) = c.loop-row.invariant in
    subst (λ (ds : List Column). AreDeclared ds c.next_row.new.columns) same c.in_ok-next_row.ensures.kept

pub returns-then-not-branch-clause-longer : goal.returns-then-not-branch-clause-longer
returns-then-not-branch-clause-longer g c =
    let (same, ordered, are, longer, so_far) = c.loop-row.invariant in
    (c.loop-row.row, omega (arith, c.loop-row-test.true), ap row_counts (c.in_ok-next_row.ensures.same c.if-not-branch.true) ∙ longer)

pub returns-then-not-branch-2-clause-taken : goal.returns-then-not-branch-2-clause-taken
returns-then-not-branch-2-clause-taken g c rest left =
    let known = g.R.Read.remaining in
    let declared = c.args.self.now.declared.now in
    let order = c.args.self.now.order.columns.items in
    let (same, ordered, are, longer, so_far) = c.loop-row.invariant in
    let (before, later, rows, all, long, done, judged, kept, held, on) = so_far rest left in
    let taken = as_meant known c.next_row.new.self.reader declared c.loop-row.self.declared.now order c.loop-row.self.order.columns.items (length before) c.loop-row.row later c.loop-row.columns c.next_row.new.columns (Ok c.in_ok-next_row.field-0)
    same (ap (λ o. o.columns.items) ordered) (sym long) (c.in_ok-next_row.ensures.taken later on) in
    let inserted = c.in_ok-insert.ensures (keys_in c.args.key rows) held in
    let one = one_row known c.next_row.new.self.reader declared order c.args.key c.args.most c.args.columns.now c.loop-row.columns c.next_row.new.columns rest before later rows all done judged kept c.in_ok-next_row.field-0 c.if-not-branch.false taken
    (c.args.self.now.order_is.long ∙ sym (declared_length declared c.loop-row.columns are)) (omega (arith, long, c.loop-row-test.true)) c.in_ok-last_key.field-0 c.in_ok-last_key.ensures c.in_ok-insert.field-0 inserted.0 in
    one.0 c.if-not-branch-2.true ∙ ap (λ n. Err (KeyTwice n)) long

pub loop-row-preserved : goal.loop-row-preserved
loop-row-preserved g c =
    let known = g.R.Read.remaining in
    let declared = c.args.self.now.declared.now in
    let order = c.args.self.now.order.columns.items in
    let (same, ordered, are, longer, so_far) = c.loop-row.invariant in (
      c.next_row.ensures.declared ∙ same,
      c.next_row.ensures.order ∙ ordered,
      subst (λ (ds : List Column). AreDeclared ds c.next_row.new.columns) same c.in_ok-next_row.ensures.kept,
      longer_still (row_counts c.args.columns.now) (row_counts c.loop-row.columns) (row_counts c.next_row.new.columns) c.loop-row.row longer (c.in_ok-next_row.ensures.longer c.if-not-branch.false),
      λ rest left.
          let (before, later, rows, all, long, done, judged, kept, held, on) = so_far rest left in
          let taken = as_meant known c.next_row.new.self.reader declared c.loop-row.self.declared.now order c.loop-row.self.order.columns.items (length before) c.loop-row.row later c.loop-row.columns c.next_row.new.columns (Ok c.in_ok-next_row.field-0)
          same (ap (λ o. o.columns.items) ordered) (sym long) (c.in_ok-next_row.ensures.taken later on) in
          let inserted = c.in_ok-insert.ensures (keys_in c.args.key rows) held in
          let one = one_row known c.next_row.new.self.reader declared order c.args.key c.args.most c.args.columns.now c.loop-row.columns c.next_row.new.columns rest before later rows all done judged kept c.in_ok-next_row.field-0 c.if-not-branch.false taken
          (c.args.self.now.order_is.long ∙ sym (declared_length declared c.loop-row.columns are)) (omega (arith, long, c.loop-row-test.true)) c.in_ok-last_key.field-0 c.in_ok-last_key.ensures c.in_ok-insert.field-0 inserted.0 in
          let (xs, ys, zs, split, more, rows_done, rows_judged, columns, keys, go_on) = one.1 c.if-not-branch-2.false in
          (xs, ys, zs, split, more ∙ ap (λ n. n + 1) long, rows_done, rows_judged, columns, subst (λ vs. HoldsKeys c.insert.new.self.present vs) (sym keys) inserted.1, go_on),
    )

pub returns-then-branch-clause-taken : goal.returns-then-branch-clause-taken
returns-then-branch-clause-taken g c rest left =
    let (same, ordered, are, longer, so_far) = c.loop-row.invariant in
    let (before, later, rows, all, long, done, judged, kept, held, on) = so_far rest left in
    all_many g.R.Read.remaining c.loop-row.self.reader c.args.self.now.declared.now c.args.self.now.order.columns.items c.args.key c.args.most c.args.columns.now c.loop-row.columns c.loop-row.columns rest before later rows all done judged kept c.in_ok-has_more.field-0 c.if-branch.true (omega (arith, long, c.loop-row-test.false)) (c.in_ok-has_more.ensures.found later on)

pub returns-clause-taken : goal.returns-clause-taken
returns-clause-taken g c rest left =
    let (same, ordered, are, longer, so_far) = c.loop-row.invariant in
    let (before, later, rows, all, long, done, judged, kept, held, on) = so_far rest left in
    all_done g.R.Read.remaining c.loop-row.self.reader c.args.self.now.declared.now c.args.self.now.order.columns.items c.args.key c.args.most c.args.columns.now c.loop-row.columns c.loop-row.columns rest before later rows all done judged kept c.in_ok-has_more.field-0 c.if-branch.false (c.in_ok-has_more.ensures.found later on)

pub returns-clause-longer : goal.returns-clause-longer
returns-clause-longer g c =
    let (same, ordered, are, longer, so_far) = c.loop-row.invariant in
    (c.loop-row.row, omega (arith, c.loop-row.auto.row-end), longer)

pub next_row-requires : goal.next_row-requires
next_row-requires g c =
    let (same, ordered, are, longer, so_far) = c.loop-row.invariant in
    subst (λ (ds : List Column). AreDeclared ds c.loop-row.columns) (sym same) are
