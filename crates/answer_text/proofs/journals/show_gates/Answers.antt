-- Proofs of the goals of `show_gates` (`journals`).
use Rattle.std.proofs.Common.{◌∙◌, ◌∷◌, ◌++◌, [], Err, Ok, ap, false, length, refl, string_bytes, sym, true}
use Rattle.std.proofs.lemmas.Result.{err_from_is_err_and}
use Rattle.answer_fields.specs.declared.fault.DecodeFault.{DecodeFault}
use Rattle.answer_text.specs.Journals.{gates_at}
use Rattle.answer_text.specs.Reading.{fault_in}
use Rattle.answer_text.proofs.Cells.{one_longer}
use Rattle.answer_text.proofs.Gates.{begin, fail, finish, gate_last, go_on, if_closed, if_open, no_text, of_part, record_more, stop}
use Rattle.answer_text.proofs.Took.{still}
use Rattle.answer_text.proofs.journals.show_gates.Goals as goal

pub loop-number-init : goal.loop-number-init
loop-number-init c =
    let whole = c.args.cursor.now.bytes.now in
    let bytes = c.args.cursor.now.rest.now in
    ([], begin whole (gates_at whole c.args.many bytes) c.args.many bytes refl, no_text c.args.detail c.args.cursor.now.first (string_bytes c.args.out.now), refl, (refl, refl))

pub loop-number-preserved : goal.loop-number-preserved
loop-number-preserved c =
    let cursor = c.args.cursor.now in
    let whole = cursor.bytes.now in
    let number = c.loop-number.number in
    let old = string_bytes c.args.out.now in
    let before = string_bytes c.loop-number.out in
    let after = string_bytes c.show_gate.new.out in
    let bytes = c.loop-number.cursor.rest.now in
    let rest = c.show_gate.new.cursor.rest.now in
    let (records, so_far, text, long, same) = c.loop-number.invariant in
    let (r, read, put) = if_open c.args.detail cursor.first number whole before after bytes rest _ c.if-branch.false (of_part c.args.detail number cursor c.loop-number.cursor (Ok _) before after bytes rest same c.in_ok-show_gate.ensures.shown) in (
      records ++ r ∷ [],
      go_on whole (gates_at whole c.args.many cursor.rest.now) c.args.many records number bytes so_far c.loop-number-test.true r rest read,
      record_more c.args.detail cursor.first old records r number before after long text put,
      one_longer records r number long,
      still cursor c.loop-number.cursor c.show_gate.new.cursor same c.in_ok-show_gate.ensures.part,
    )

pub returns-then-branch-clause-shown : goal.returns-then-branch-clause-shown
returns-then-branch-clause-shown c =
    let cursor = c.args.cursor.now in
    let whole = cursor.bytes.now in
    let number = c.loop-number.number in
    let before = string_bytes c.loop-number.out in
    let after = string_bytes c.show_gate.new.out in
    let bytes = c.loop-number.cursor.rest.now in
    let rest = c.show_gate.new.cursor.rest.now in
    let (records, so_far, text, long, same) = c.loop-number.invariant in
    let (read, put) = if_closed c.args.detail cursor.first number whole before after bytes rest _ c.if-branch.true (of_part c.args.detail number cursor c.loop-number.cursor (Ok _) before after bytes rest same c.in_ok-show_gate.ensures.shown) in (
      _,
      finish whole (gates_at whole c.args.many cursor.rest.now) c.args.many records number bytes so_far c.loop-number-test.true rest read,
      gate_last c.args.detail cursor.first (string_bytes c.args.out.now) records _ (length rest) before after text put,
    )

pub returns-in_err-show_gate-clause-shown : goal.returns-in_err-show_gate-clause-shown
returns-in_err-show_gate-clause-shown c =
    let cursor = c.args.cursor.now in
    let whole = cursor.bytes.now in
    let bytes = c.loop-number.cursor.rest.now in
    let (records, so_far, text, long, same) = c.loop-number.invariant in
    let p = err_from_is_err_and c.from_residual.result c.from_residual.ensures.1 in
    let failing =
    of_part c.args.detail c.loop-number.number cursor c.loop-number.cursor (Err c.in_err-show_gate.field-0.0) (string_bytes c.loop-number.out) (string_bytes c.show_gate.new.out) bytes c.show_gate.new.cursor.rest.now same c.in_err-show_gate.ensures.shown in
    rw (p.1, p.2) (λ other. fail whole (gates_at whole c.args.many cursor.rest.now) c.args.many records c.loop-number.number bytes so_far c.loop-number-test.true (fault_in c.in_err-show_gate.field-0.0) (failing other))

pub returns-clause-shown : goal.returns-clause-shown
returns-clause-shown c = λ other.
    let cursor = c.args.cursor.now in
    let whole = cursor.bytes.now in
    let (records, so_far, text, long, same) = c.loop-number.invariant in
    stop whole (gates_at whole c.args.many cursor.rest.now) c.args.many records c.loop-number.number c.loop-number.cursor.rest.now so_far c.loop-number-test.false ∙ ap (λ (e : DecodeFault). Err e) (sym c.refuse.ensures.fault)
