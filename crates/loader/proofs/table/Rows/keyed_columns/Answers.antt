-- Proofs of the goals of `Rows::keyed_columns` (`table`).
use Rattle.std.proofs.Common.{◌≡◌, ◌∙◌, sym, subst, ap, length, map, []}
use Rattle.std.proofs.lemmas.Result.{err_from_is_err_and}
use Rattle.loader.specs.Columns.{AreAtMost, kind_of}
use Rattle.loader.proofs.Declared.{declared_length, fresh_declared, fresh_rows}
use Rattle.loader.proofs.Fragments.{columns_length, put_back, rows_into}
use Rattle.loader.specs.Steps.{with_rows}
use Rattle.loader.proofs.KeyedRows.{own_rows, table_refused}
use Rattle.loader.proofs.table.Rows.keyed_columns.Goals as goal

pub keyed_rows-requires : goal.keyed_rows-requires
keyed_rows-requires g c =
    ap (map kind_of) (c.deref_mut.ensures.value ∙ c.in_ok-columns.ensures) ∙ fresh_declared c.args.self.now.declared.now

pub returns-in_err-keyed_rows-clause-taken : goal.returns-in_err-keyed_rows-clause-taken
returns-in_err-keyed_rows-clause-taken g c rest left =
    let p = err_from_is_err_and c.from_residual-in_err-keyed_rows.result c.from_residual-in_err-keyed_rows.ensures.1 in
    rw (p.1, p.2) (table_refused c.args.self.now.declared.now c.args.self.now.order.columns.items c.args.key c.args.most rest c.deref_mut.result.now c.keyed_rows.new.columns c.in_err-keyed_rows.field-0.0 (c.in_err-keyed_rows.ensures.taken rest left))

pub returns-clause-taken : goal.returns-clause-taken
returns-clause-taken g c rest left =
    let declared = c.args.self.now.declared.now in
    let order = c.args.self.now.order.columns.items in
    let (rows, keyed, columns) = c.in_ok-keyed_rows.ensures.taken rest left in
    let fresh = c.deref_mut.ensures.value ∙ c.in_ok-columns.ensures in
    let own = own_rows declared order c.args.key c.args.most rest 0 rest rows keyed in
    let loaded = columns ∙ ap (λ cs. with_rows cs rows) fresh ∙ rows_into declared order 0 rest [] rows c.requires own in
    let wide : length c.keyed_rows.new.columns ≡ length c.in_ok-columns.columns.items = ap length loaded ∙ columns_length declared rows ∙ sym (ap length c.in_ok-columns.ensures ∙ columns_length declared []) in
    (rows, keyed, c.from_vec.ensures ∙ put_back c.in_ok-columns.columns.len c.keyed_rows.new.columns c.in_ok-columns.columns.items (sym c.in_ok-columns.columns.ok.0) (wide ∙ sym c.in_ok-columns.columns.ok.0) ∙ loaded)

pub returns-clause-rows : goal.returns-clause-rows
returns-clause-rows g c =
    let declared = c.args.self.now.declared.now in
    let fresh = c.deref_mut.ensures.value ∙ c.in_ok-columns.ensures in
    let wide : length c.keyed_rows.new.columns ≡ length c.in_ok-columns.columns.items =
    declared_length declared c.keyed_rows.new.columns c.in_ok-keyed_rows.ensures.kept ∙ sym (ap length c.in_ok-columns.ensures ∙ columns_length declared []) in
    let put : c.from_vec.result ≡ c.keyed_rows.new.columns =
    c.from_vec.ensures ∙ put_back c.in_ok-columns.columns.len c.keyed_rows.new.columns c.in_ok-columns.columns.items (sym c.in_ok-columns.columns.ok.0) (wide ∙ sym c.in_ok-columns.columns.ok.0) in
    let (n, few, longer) = c.in_ok-keyed_rows.ensures.longer in
    subst (AreAtMost declared c.args.most) (sym put) (n, few, (c.in_ok-keyed_rows.ensures.kept, fresh_rows declared c.deref_mut.result.now c.keyed_rows.new.columns n fresh longer))
