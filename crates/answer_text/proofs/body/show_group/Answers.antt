-- Proofs of the goals of `show_group` (`body`).
use Rattle.std.proofs.Common.{◌≡◌, ◌++◌, List, Ok, Err, ap, length, string_bytes, subst}
use Rattle.std.proofs.lemmas.Result.{err_from_is_err_and}
use Rattle.answer_fields.specs.Fields.{shape_in}
use Rattle.answer_fields.specs.LayoutReading.{states_at}
use Rattle.answer_fields.specs.declared.shape.AggregateShape.{AggregateShape}
use Rattle.answer_text.specs.Reading.{fault_in}
use Rattle.answer_text.specs.Texts.{states_text}
use Rattle.answer_text.proofs.GroupShown.{group_shown, group_unkeyed, group_unknown, group_unnumbered}
use Rattle.answer_text.proofs.body.show_group.Goals as goal

pub returns-in_err-show_key-clause-shown : goal.returns-in_err-show_key-clause-shown
returns-in_err-show_key-clause-shown c =
    let p = err_from_is_err_and c.from_residual.result c.from_residual.ensures.1 in
    rw (p.1, p.2) (λ other. group_unkeyed (shape_in c.args.shape.now) (length c.as_slice-keys.result.now) (ap length c.as_slice-keys.ensures.value) c.args.cursor.now.rest.now (fault_in c.in_err-show_key.field-0.0) (c.in_err-show_key.ensures.shown other))

pub returns-in_err-show_rows-clause-shown : goal.returns-in_err-show_rows-clause-shown
returns-in_err-show_rows-clause-shown c =
    let (key, key_read, key_text) = c.in_ok-show_key.ensures.shown in
    let p = err_from_is_err_and c.from_residual-in_err-show_rows.result c.from_residual-in_err-show_rows.ensures.1 in
    rw (p.1, p.2) (λ other. group_unnumbered (shape_in c.args.shape.now) (length c.as_slice-keys.result.now) (ap length c.as_slice-keys.ensures.value) c.args.cursor.now.rest.now key c.show_key.new.cursor.rest.now key_read
    (fault_in c.in_err-show_rows.field-0.0) (c.in_err-show_rows.ensures.shown other))

pub returns-in_err-show_states-clause-shown : goal.returns-in_err-show_states-clause-shown
returns-in_err-show_states-clause-shown c =
    let shape = shape_in c.args.shape.now in
    let (key, key_read, key_text) = c.in_ok-show_key.ensures.shown in
    let (rows, rows_read, rows_text) = c.in_ok-show_rows.ensures.shown in
    let p = err_from_is_err_and c.from_residual-in_err-show_states.result c.from_residual-in_err-show_states.ensures.1 in
    rw (p.1, p.2) (λ other. group_unknown shape (length c.as_slice-keys.result.now) (ap length c.as_slice-keys.ensures.value) c.args.cursor.now.rest.now key c.show_key.new.cursor.rest.now key_read rows c.show_rows.new.cursor.rest.now rows_read
    (fault_in c.in_err-show_states.field-0.0) (subst (λ (l : List AggregateShape). states_at l c.show_rows.new.cursor.rest.now ≡ Err (fault_in c.in_err-show_states.field-0.0)) c.as_slice.ensures.value (c.in_err-show_states.ensures.shown other)))

pub returns-clause-shown : goal.returns-clause-shown
returns-clause-shown c =
    let shape = shape_in c.args.shape.now in
    let (key, key_read, key_text) = c.in_ok-show_key.ensures.shown in
    let (rows, rows_read, rows_text) = c.in_ok-show_rows.ensures.shown in
    let (states, states_read, shown) = c.in_ok-show_states.ensures.shown in
    let of_states = subst (λ (l : List AggregateShape). states_at l c.show_rows.new.cursor.rest.now ≡ Ok (states, c.show_states.new.cursor.rest.now)) c.as_slice.ensures.value states_read in
    let of_text = subst (λ (l : List AggregateShape). string_bytes c.show_states.new.out ≡ string_bytes c.show_rows.new.out ++ states_text l states) c.as_slice.ensures.value shown in
    group_shown shape (length c.as_slice-keys.result.now) (ap length c.as_slice-keys.ensures.value) c.args.cursor.now.rest.now key c.show_key.new.cursor.rest.now key_read rows c.show_rows.new.cursor.rest.now rows_read states c.show_states.new.cursor.rest.now of_states
    (string_bytes c.args.out.now) (string_bytes c.show_key.new.out) (string_bytes c.show_rows.new.out) (string_bytes c.show_states.new.out) (string_bytes c.push_str.new.self)
    key_text rows_text of_text c.in_ok-push_str.ensures.bytes
