-- Proofs of the goals of `load_record` (`table`).
use Rattle.std.proofs.Common.{◌≡◌, ◌∙◌, true, Ok, ap, arith, length, sym, subst}
use Rattle.std.specs.List.{range_with_len}
use Rattle.csv.specs.Records.{fields_of}
use Rattle.meaning.specs.Records.{catalog_row, file_values}
use Rattle.loader.specs.Columns.{take_row}
use Rattle.loader.specs.Steps.{values_of}
use Rattle.loader.proofs.Declared.{declared_length, declared_fields, record_fits}
use Rattle.loader.proofs.InOrder.{order_whole}
use Rattle.loader.proofs.table.load_record.Goals as goal

pub returns-then-order : goal.returns-then-order
returns-then-order c =
    let order = c.args.order.now in
    let declared = c.args.declared.now in
    let many = declared_fields declared order.columns.items order.fields.items c.args.columns.now c.requires.order order.inverse c.requires.columns in
    let wide = declared_length declared c.args.columns.now c.requires.columns in
    let whole : order.columns.items ≡ range_with_len 0 (length declared) =
    order_whole order.columns.items order.fields.items (length declared) order.in_order order.inverse order.ordered c.if-order.true (omega (arith, many, wide)) in
    rw whole c.take_fields.ensures

pub push_row-requires-clause-columns : goal.push_row-requires-clause-columns
push_row-requires-clause-columns c =
    let order = c.args.order.now in
    declared_fields c.args.declared.now order.columns.items order.fields.items c.args.columns.now c.requires.order order.inverse c.requires.columns

pub push_row-requires-clause-taken : goal.push_row-requires-clause-taken
push_row-requires-clause-taken c =
    let order = c.args.order.now in
    let declared = c.args.declared.now in
    let fields = fields_of c.args.fields.now in
    let values = values_of c.judge_texts.new.parsed.items fields in
    let judged : file_values declared order.columns.items c.args.row fields ≡ Ok values = ap (λ o. file_values declared o c.args.row fields) (sym c.deref.ensures.value) ∙ c.in_ok-judge_texts.ensures.read in
    subst (λ parsed. take_row c.args.columns.now (catalog_row order.columns.items (values_of parsed fields)) ≡ true) (sym c.deref-2.ensures.value)
    (record_fits declared order.columns.items order.each c.requires.order.long c.args.row fields values (sym c.len.ensures ∙ c.if-len-declared.false) judged c.args.columns.now c.requires.columns)
