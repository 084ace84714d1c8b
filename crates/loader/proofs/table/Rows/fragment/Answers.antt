-- Proofs of the goals of `Rows::fragment` (`table`).
use Rattle.std.proofs.Common.{◌≡◌, ◌∙◌, sym, subst, ap, length, map, []}
use Rattle.std.proofs.lemmas.Result.{err_from_is_err_and}
use Rattle.loader.specs.Columns.{AreRowsOf, kind_of}
use Rattle.loader.proofs.Declared.{declared_length, fresh_declared, fresh_rows}
use Rattle.loader.proofs.Fragments.{columns_length, fragment_columns, put_back}
use Rattle.loader.proofs.RowRuns.{fragment_refused}
use Rattle.loader.proofs.table.Rows.fragment.Goals as goal

pub next_rows-requires-clause-columns : goal.next_rows-requires-clause-columns
next_rows-requires-clause-columns g c =
    ap (map kind_of) (c.deref_mut.ensures.value ∙ c.in_ok-columns.ensures) ∙ fresh_declared c.args.self.now.declared.now

pub returns-in_err-next_rows-clause-taken : goal.returns-in_err-next_rows-clause-taken
returns-in_err-next_rows-clause-taken g c rest left =
    let p = err_from_is_err_and c.from_residual-in_err-next_rows.result c.from_residual-in_err-next_rows.ensures.1 in
    rw (p.1, p.2) (fragment_refused g.R.Read.remaining c.next_rows.new.self.reader c.args.self.now.declared.now c.args.self.now.order.columns.items c.args.first c.args.count rest c.deref_mut.result.now c.next_rows.new.columns c.in_err-next_rows.field-0.0 (c.in_err-next_rows.ensures.taken rest left))

pub returns-clause-taken : goal.returns-clause-taken
returns-clause-taken g c rest left =
    let (rows, enough, columns, on) = c.in_ok-next_rows.ensures.taken rest left in
    let declared = c.args.self.now.declared.now in
    let order = c.args.self.now.order.columns.items in
    let fresh = c.deref_mut.ensures.value ∙ c.in_ok-columns.ensures in
    let loaded = columns ∙ fragment_columns declared order c.args.first c.args.count rest c.deref_mut.result.now rows (sym c.args.self.now.order_is.long) enough fresh in
    let wide : length c.next_rows.new.columns ≡ length c.in_ok-columns.columns.items = ap length loaded ∙ columns_length declared rows ∙ sym (ap length c.in_ok-columns.ensures ∙ columns_length declared []) in
    (rows, enough, c.from_vec.ensures ∙ put_back c.in_ok-columns.columns.len c.next_rows.new.columns c.in_ok-columns.columns.items (sym c.in_ok-columns.columns.ok.0) (wide ∙ sym c.in_ok-columns.columns.ok.0) ∙ loaded, on)

pub returns-clause-rows : goal.returns-clause-rows
returns-clause-rows g c =
    let declared = c.args.self.now.declared.now in
    let fresh = c.deref_mut.ensures.value ∙ c.in_ok-columns.ensures in
    let wide : length c.next_rows.new.columns ≡ length c.in_ok-columns.columns.items =
    declared_length declared c.next_rows.new.columns c.in_ok-next_rows.ensures.kept ∙ sym (ap length c.in_ok-columns.ensures ∙ columns_length declared []) in
    let put : c.from_vec.result ≡ c.next_rows.new.columns =
    c.from_vec.ensures ∙ put_back c.in_ok-columns.columns.len c.next_rows.new.columns c.in_ok-columns.columns.items (sym c.in_ok-columns.columns.ok.0) (wide ∙ sym c.in_ok-columns.columns.ok.0) in
    subst (AreRowsOf declared c.args.count) (sym put) (c.in_ok-next_rows.ensures.kept, fresh_rows declared c.deref_mut.result.now c.next_rows.new.columns c.args.count fresh c.in_ok-next_rows.ensures.longer)
