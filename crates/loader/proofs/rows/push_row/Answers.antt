-- Proofs of the goals of `push_row` (`rows`).
use Rattle.std.proofs.Common.{◌≡◌, ◌<◌, ◌∙◌, ◌++◌, ap, sym, arith, length, take, drop, get_or, add-one, List}
use Rattle.std.specs.Prelude.{slice_index_or}
use Rattle.meaning.specs.declared.value.Value.TheVariants.{Null}
use Rattle.csv.specs.Records.{fields_of}
use Rattle.meaning.specs.Records.{catalog_row}
use Rattle.columns.specs.Column.{ColumnSpec, refusal}
use Rattle.loader.specs.Columns.{kind_of, with_row}
use Rattle.loader.specs.Steps.{value_of, values_of}
use Rattle.loader.proofs.Declared.{front_kind, taken_at}
use Rattle.loader.proofs.Values.{set_next, all_set, row_value, row_length}
use Rattle.loader.proofs.rows.push_row.Goals as goal

pub push_field-requires-clause-taken : goal.push_field-requires-clause-taken
push_field-requires-clause-taken c =
    let order = c.args.order.now.columns.items in
    let fields = c.args.order.now.fields.items in
    let values = values_of c.args.parsed.now (fields_of c.args.fields.now) in
    let row = catalog_row order values in
    let i = c.loop-i.i in
    let cs = c.args.columns.now in
    let x = c.index-columns-i.result in
    let lt : i < length fields = omega (arith, c.loop-i-test.true, c.requires.columns) in
    let long : length row ≡ length fields = row_length order fields values c.args.order.now.inverse in
    let value = c.judged_at-judged.ensures.value ∙ sym (row_value order fields values i c.index.result.now c.args.order.now.inverse lt ∙ ap (λ j. slice_index_or values j Null) (sym c.index.ensures)) in
    let here : kind_of (get_or c.loop-i.columns i x) ≡ kind_of (get_or cs i x) = ap (λ (l : List ColumnSpec). kind_of (get_or l i x)) c.loop-i.invariant ∙ front_kind cs row i x (omega (arith, lt, long)) c.loop-i-test.true in
    (λ k. refusal (here k).0 (here k).1 (value k)) ∙ taken_at cs row i x c.requires.taken c.loop-i-test.true

pub loop-i-preserved : goal.loop-i-preserved
loop-i-preserved c =
    let order = c.args.order.now.columns.items in
    let fields = c.args.order.now.fields.items in
    let values = values_of c.args.parsed.now (fields_of c.args.fields.now) in
    let row = catalog_row order values in
    let i = c.loop-i.i in
    let lt : i < length fields = omega (arith, c.loop-i-test.true, c.requires.columns) in
    let long : length row ≡ length fields = row_length order fields values c.args.order.now.inverse in
    let value = c.judged_at-judged.ensures.value ∙ sym (row_value order fields values i c.index.result.now c.args.order.now.inverse lt ∙ ap (λ j. slice_index_or values j Null) (sym c.index.ensures)) in
    let next = set_next c.args.columns.now row i c.index-columns-i.result (value_of (c.judged_at-judged.result.0, c.judged_at-judged.result.1.now)) c.loop-i-test.true (omega (arith, lt, long)) value in
    rw (c.in_ok-push_field.ensures.ok, c.loop-i.invariant) (next ∙ ap (λ k. with_row (take k c.args.columns.now) row ++ drop k c.args.columns.now) (sym (add-one i)))

pub returns-clause-ok : goal.returns-clause-ok
returns-clause-ok c = c.loop-i.invariant ∙ all_set c.args.columns.now (catalog_row c.args.order.now.columns.items (values_of c.args.parsed.now (fields_of c.args.fields.now))) c.loop-i.i c.loop-i-test.false
