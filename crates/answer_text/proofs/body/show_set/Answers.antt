-- Proofs of the goals of `show_set` (`body`).
use Rattle.std.proofs.Common.{◌++◌, codes, append_assoc, refl, sym}
use Rattle.std.specs.Prelude.{decimal, length, string_bytes}
use Rattle.std.proofs.lemmas.Result.{err_from_is_err_and}
use Rattle.wire.specs.Reading.{number_at}
use Rattle.answer_fields.specs.Fault.{from_wire}
use Rattle.answer_fields.specs.LayoutReading.{set_at, value_at}
use Rattle.answer_text.specs.Texts.{entries_text, listed, value_text}
use Rattle.answer_text.proofs.Showing.{shows_list}
use Rattle.answer_text.proofs.body.show_set.Goals as goal

pub returns-clause-shown : goal.returns-clause-shown
unfolding set_at
returns-clause-shown c =
    shows_list value_at (from_wire (number_at 4 c.args.cursor.now.rest.now)) (λ n. codes " of " ++ decimal n) (listed (codes ": ") value_text) entries_text
    (λ entries. sym (append_assoc (codes " of ") (decimal (length entries)) (listed (codes ": ") value_text entries))) c.in_ok-count.count c.take_u32.new.self.rest.now c.in_ok-count.ensures.read c.show_values.result
    (string_bytes c.args.out.now) (string_bytes c.put_count.new.out) (string_bytes c.show_values.new.out) c.show_values.new.cursor.rest.now c.in_ok-put_count.ensures c.show_values.ensures.shown

pub returns-in_err-count-clause-shown : goal.returns-in_err-count-clause-shown
unfolding set_at
returns-in_err-count-clause-shown c =
    let p = err_from_is_err_and c.from_residual.result c.from_residual.ensures.1 in
    rw (p.1, p.2) (λ other. rw c.in_err-count.ensures.read refl)
