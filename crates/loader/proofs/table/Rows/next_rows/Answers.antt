-- Proofs of the goals of `Rows::next_rows` (`table`).
use Rattle.std.proofs.Common.{◌≡◌, ◌<◌, ◌+◌, ◌∙◌, refl, sym, subst, ap, arith, List, [], length, map, Ok, Err}
use Rattle.std.proofs.lemmas.Result.{err_from_is_err_and}
use Rattle.meaning.specs.declared.catalog.Column.{Column}
use Rattle.loader.specs.Columns.{AreDeclared, row_counts}
use Rattle.loader.proofs.Declared.{longer_still, none_longer}
use Rattle.loader.proofs.RowRuns.{next_refused, next_missing, next_taken, are_enough, as_meant, left_behind}
use Rattle.loader.proofs.table.Rows.next_rows.Goals as goal

pub returns-in_err-next_row-clause-taken : goal.returns-in_err-next_row-clause-taken
returns-in_err-next_row-clause-taken g c rest left =
    let known = g.R.Read.remaining in
    let declared = c.args.self.now.declared.now in
    let order = c.args.self.now.order.columns.items in
    let (same, ordered, are, longer, so_far) = c.loop-i.invariant in
    let (before, later, rows, all, long, done, kept, on) = so_far rest left in
    let p = err_from_is_err_and c.from_residual.result c.from_residual.ensures.1 in
    let within : length before < c.args.count = omega (arith, long, c.loop-i-test.true) in
    let taken = as_meant known c.next_row.new.self.reader declared c.loop-i.self.declared.now order c.loop-i.self.order.columns.items (c.args.first + length before) (c.args.first + c.from.result) later c.loop-i.columns c.next_row.new.columns (Err c.in_err-next_row.field-0.0)
    same (ap (λ o. o.columns.items) ordered) (ap (λ n. c.args.first + n) (c.from.ensures ∙ sym long)) (c.in_err-next_row.ensures.taken later on) in
    rw (p.1, p.2) (next_refused known c.next_row.new.self.reader declared order c.args.first c.args.count c.args.columns.now c.loop-i.columns c.next_row.new.columns rest before later rows all within done c.in_err-next_row.field-0.0 taken)

pub loop-i-init : goal.loop-i-init
loop-i-init g c = (refl, refl, c.requires.columns, none_longer (row_counts c.args.columns.now), λ rest left. ([], rest, [], refl, refl, refl, refl, left))

pub returns-then-not-branch-clause-taken : goal.returns-then-not-branch-clause-taken
returns-then-not-branch-clause-taken g c rest left =
    let known = g.R.Read.remaining in
    let declared = c.args.self.now.declared.now in
    let order = c.args.self.now.order.columns.items in
    let (same, ordered, are, longer, so_far) = c.loop-i.invariant in
    let (before, later, rows, all, long, done, kept, on) = so_far rest left in
    let within : length before < c.args.count = omega (arith, long, c.loop-i-test.true) in
    let taken = as_meant known c.next_row.new.self.reader declared c.loop-i.self.declared.now order c.loop-i.self.order.columns.items (c.args.first + length before) (c.args.first + c.from.result) later c.loop-i.columns c.next_row.new.columns (Ok c.in_ok-next_row.field-0)
    same (ap (λ o. o.columns.items) ordered) (ap (λ n. c.args.first + n) (c.from.ensures ∙ sym long)) (c.in_ok-next_row.ensures.taken later on) in
    next_missing known c.next_row.new.self.reader declared order c.args.first c.args.count c.args.columns.now c.loop-i.columns c.next_row.new.columns rest before later rows all within done c.in_ok-next_row.field-0 c.if-not-branch.true taken

pub loop-i-preserved : goal.loop-i-preserved
loop-i-preserved g c =
    let known = g.R.Read.remaining in
    let declared = c.args.self.now.declared.now in
    let order = c.args.self.now.order.columns.items in
    let (same, ordered, are, longer, so_far) = c.loop-i.invariant in (
      c.next_row.ensures.declared ∙ same,
      c.next_row.ensures.order ∙ ordered,
      subst (λ (ds : List Column). AreDeclared ds c.next_row.new.columns) same c.in_ok-next_row.ensures.kept,
      longer_still (row_counts c.args.columns.now) (row_counts c.loop-i.columns) (row_counts c.next_row.new.columns) c.loop-i.i longer (c.in_ok-next_row.ensures.longer c.if-not-branch.false),
      λ rest left.
          let (before, later, rows, all, long, done, kept, on) = so_far rest left in
          let within : length before < c.args.count = omega (arith, long, c.loop-i-test.true) in
          let taken = as_meant known c.next_row.new.self.reader declared c.loop-i.self.declared.now order c.loop-i.self.order.columns.items (c.args.first + length before) (c.args.first + c.from.result) later c.loop-i.columns c.next_row.new.columns (Ok c.in_ok-next_row.field-0)
          same (ap (λ o. o.columns.items) ordered) (ap (λ n. c.args.first + n) (c.from.ensures ∙ sym long)) (c.in_ok-next_row.ensures.taken later on) in
          let (xs, ys, zs, split, more, judged, columns, go_on) = next_taken known c.next_row.new.self.reader declared order c.args.first c.args.count c.args.columns.now c.loop-i.columns c.next_row.new.columns rest before later rows all within done
          c.in_ok-next_row.field-0 c.if-not-branch.false kept taken in
          (xs, ys, zs, split, more ∙ ap (λ n. n + 1) long, judged, columns, go_on),
    )

pub returns-clause-taken : goal.returns-clause-taken
returns-clause-taken g c rest left =
    let (same, ordered, are, longer, so_far) = c.loop-i.invariant in
    let (before, later, rows, all, long, done, kept, on) = so_far rest left in
    let whole : length before ≡ c.args.count = omega (arith, long, c.loop-i-test.false, c.loop-i.auto.i-end) in
    (rows, are_enough c.args.self.now.declared.now c.args.self.now.order.columns.items c.args.first c.args.count rest before later rows all whole done, kept, left_behind g.R.Read.remaining c.loop-i.self.reader c.args.count rest before later all whole on)

pub next_row-requires : goal.next_row-requires
next_row-requires g c =
    let (same, ordered, are, longer, so_far) = c.loop-i.invariant in
    subst (λ (ds : List Column). AreDeclared ds c.loop-i.columns) (sym same) are

pub returns-clause-longer : goal.returns-clause-longer
returns-clause-longer g c =
    let (same, ordered, are, longer, so_far) = c.loop-i.invariant in
    let whole : c.loop-i.i ≡ c.args.count = omega (arith, c.loop-i-test.false, c.loop-i.auto.i-end) in
    subst (λ k. row_counts c.loop-i.columns ≡ map (λ n. n + k) (row_counts c.args.columns.now)) whole longer
