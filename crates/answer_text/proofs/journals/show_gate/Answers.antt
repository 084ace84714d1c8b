-- Proofs of the goals of `show_gate` (`journals`).
use Rattle.std.proofs.Common.{◌≡◌, ◌∙◌, ◌+◌, ◌-◌, ◌++◌, ℕ, Err, Ok, ap, length, string_bytes, subst}
use Rattle.std.proofs.lemmas.Result.{err_from_is_err_and}
use Rattle.answer_text.specs.Journals.{record_at, record_text}
use Rattle.answer_text.specs.Reading.{capped, fault_in}
use Rattle.answer_text.proofs.Gates.{closed, no_gate, no_record, opened, put_closed}
use Rattle.answer_text.proofs.journals.show_gate.Goals as goal

pub returns-in_err-take_gate-clause-shown : goal.returns-in_err-take_gate-clause-shown
returns-in_err-take_gate-clause-shown c =
    let p = err_from_is_err_and c.from_residual.result c.from_residual.ensures.1 in
    rw (p.1, p.2) (λ other. no_gate c.args.cursor.now.bytes.now c.args.cursor.now.rest.now (fault_in c.in_err-take_gate.field-0.0) c.in_err-take_gate.ensures.read)

pub returns-then-branch-eq0-clause-shown : goal.returns-then-branch-eq0-clause-shown
returns-then-branch-eq0-clause-shown c =
    let cursor = c.args.cursor.now in
    let behind = c.take_gate.new.cursor.rest.now in (
      closed cursor.bytes.now cursor.rest.now behind (c.in_ok-take_gate.ensures.read ∙ ap (λ (n : ℕ). Ok (n, behind)) c.if-branch-eq0.true),
      put_closed c.at-at.result c.left.result (capped (cursor.first + (length cursor.bytes.now - length cursor.rest.now))) (length behind) (string_bytes c.args.out.now) (string_bytes c.put_gate.new.out) c.at-at.ensures c.left.ensures c.in_ok-put_gate.ensures,
    )

pub returns-in_err-show_record-clause-shown : goal.returns-in_err-show_record-clause-shown
returns-in_err-show_record-clause-shown c =
    let whole = c.args.cursor.now.bytes.now in
    let p = err_from_is_err_and c.from_residual-in_err-show_record.result c.from_residual-in_err-show_record.ensures.1 in
    rw (p.1, p.2) (
    λ other.
    no_record whole c.args.cursor.now.rest.now _ c.take_gate.new.cursor.rest.now c.in_ok-take_gate.ensures.read c.if-branch-eq0.false (fault_in c.in_err-show_record.field-0.0)
    (subst (λ all. record_at all c.take_gate.new.cursor.rest.now ≡ Err (fault_in c.in_err-show_record.field-0.0)) c.in_ok-take_gate.ensures.part.1 (c.in_err-show_record.ensures.shown other))
    )

pub returns-clause-shown : goal.returns-clause-shown
returns-clause-shown c =
    let whole = c.args.cursor.now.bytes.now in
    let (r, read, more) = c.in_ok-show_record.ensures.shown in (
      r,
      opened whole c.args.cursor.now.rest.now _ c.take_gate.new.cursor.rest.now c.in_ok-take_gate.ensures.read c.if-branch-eq0.false r c.show_record.new.cursor.rest.now
          (subst (λ all. record_at all c.take_gate.new.cursor.rest.now ≡ Ok (r, c.show_record.new.cursor.rest.now)) c.in_ok-take_gate.ensures.part.1 read),
      subst (λ n. string_bytes c.show_record.new.out ≡ string_bytes c.args.out.now ++ record_text c.args.detail n c.args.number r) c.in_ok-take_gate.ensures.part.0 more,
    )
