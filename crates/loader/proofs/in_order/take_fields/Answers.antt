-- Proofs of the goals of `take_fields` (`in_order`).
use Rattle.std.proofs.Common.{◌≡◌, ◌∙◌, ◌≤◌, ap, arith, sym, length, get_or, Some, List}
use Rattle.std.specs.Prelude.{slice_get, slice_set}
use Rattle.std.proofs.lemmas.Option.{slice_get-get_or}
use Rattle.std.proofs.lemmas.Result.{err_from_is_err_and}
use Rattle.csv.specs.Records.{fields_of}
use Rattle.columns.specs.Column.{ColumnSpec}
use Rattle.loader.specs.Columns.{Kind, kind_of, declared_kind}
use Rattle.loader.proofs.Declared.{declared_at, declared_length, front_kind}
use Rattle.loader.proofs.Fields.{text_there}
use Rattle.loader.proofs.InOrder.{all_fields, field_fails, next_field}
use Rattle.loader.proofs.in_order.take_fields.Goals as goal

pub take_field-requires-clause-text : goal.take_field-requires-clause-text
take_field-requires-clause-text c = text_there (fields_of c.args.fields.now) c.loop-i.i c.in-Some.field.now c.requires.texts (sym c.in-Some.ensures)

pub take_field-requires-clause-declared : goal.take_field-requires-clause-declared
take_field-requires-clause-declared c =
    let (values, count, so_far, is) = c.loop-i.invariant in
    let i = c.loop-i.i in
    let cs = c.args.columns.now in
    let x = c.index-columns-i.result in
    let enough : i ≤ length values = omega (arith, count) in
    let front : kind_of (get_or c.loop-i.columns i x) ≡ kind_of (get_or cs i x) = ap (λ (l : List ColumnSpec). kind_of (get_or l i x)) is ∙ front_kind cs values i x enough c.loop-i-test.true in
    let same = front ∙ declared_at c.args.declared.now cs i c.index-declared-i.result x c.requires.declared c.loop-i-test.true ∙ ap declared_kind (sym c.index-declared-i.is) in
    (ap (λ (k : Kind). k.0) same, ap (λ (k : Kind). k.1) same)

pub returns-in_err-take_field : goal.returns-in_err-take_field
returns-in_err-take_field c =
    let p = err_from_is_err_and c.from_residual.result c.from_residual.ensures.1 in
    let i = c.loop-i.i in
    let d = c.index-declared-i.result in
    let many = declared_length c.args.declared.now c.args.columns.now c.requires.declared in
    let there : slice_get c.args.declared.now i ≡ Some d = slice_get-get_or c.args.declared.now i d (omega (arith, many)) ∙ ap Some (cc) in
    rw (p.1, p.2)
    (field_fails c.args.declared.now c.args.row (fields_of c.args.fields.now) c.args.columns.now i d c.in-Some.field.now c.loop-i.columns c.index-columns-i.result c.take_field.new.column c.in_err-take_field.field-0.0
    c.requires.fields (omega (arith, many)) (sym c.in-Some.ensures) there c.in_err-take_field.ensures c.loop-i.invariant (slice_set c.loop-i.columns i c.take_field.new.column))

pub loop-i-preserved : goal.loop-i-preserved
loop-i-preserved c =
    let d = c.index-declared-i.result in
    let many = declared_length c.args.declared.now c.args.columns.now c.requires.declared in
    let there : slice_get c.args.declared.now c.loop-i.i ≡ Some d = slice_get-get_or c.args.declared.now c.loop-i.i d (omega (arith, many)) ∙ ap Some (cc) in
    next_field c.args.declared.now c.args.row (fields_of c.args.fields.now) c.args.columns.now c.loop-i.i d c.in-Some.field.now c.loop-i.columns c.index-columns-i.result c.take_field.new.column
    many c.loop-i-test.true (sym c.in-Some.ensures) there c.in_ok-take_field.ensures c.loop-i.invariant

pub returns : goal.returns
returns c =
    let many = declared_length c.args.declared.now c.args.columns.now c.requires.declared in
    all_fields c.args.declared.now c.args.row (fields_of c.args.fields.now) c.args.columns.now c.loop-i.i c.loop-i.columns many c.requires.fields (omega arith) (omega arith) c.loop-i.invariant
