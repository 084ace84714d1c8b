-- Proofs of the goals of `show_from_fragment` (`answers`).
use Rattle.std.proofs.Common.{◌++◌, refl, string_bytes, subst}
use Rattle.wire.specs.Reading.{number_at}
use Rattle.answer_fields.specs.Fault.{from_wire}
use Rattle.answer_text.specs.Reading.{Shows, shaped_at}
use Rattle.answer_text.specs.Texts.{fragment_line, shaped_text}
use Rattle.answer_text.proofs.Showing.{shows_next}
use Rattle.answer_text.proofs.answers.show_from_fragment.Goals as goal

pub returns-clause-shown : goal.returns-clause-shown
returns-clause-shown c =
    let whole = c.args.cursor.now.bytes.now in
    let format = c.args.format in
    let detail = c.args.detail in
    let r = c.show_shaped.result in
    let mid = string_bytes c.put_fragment.new.out in
    let new = string_bytes c.show_shaped.new.out in
    let between = c.take_u32.new.self.rest.now in
    let rest = c.show_shaped.new.cursor.rest.now in
    shows_next (from_wire (number_at 4 c.args.cursor.now.rest.now)) (λ k bytes. shaped_at format whole bytes) (λ k p. (k, p)) fragment_line (λ k p. shaped_text detail p) (λ p. fragment_line p.0 ++ shaped_text detail p.1)
    c.in_ok-fragment.fragment between c.in_ok-fragment.ensures.read r (string_bytes c.args.out.now) mid new rest c.in_ok-put_fragment.ensures (λ p read. refl)
    (subst (λ all. Shows (shaped_text detail) r mid new rest (shaped_at format all between)) c.in_ok-fragment.ensures.part.1 c.show_shaped.ensures.shown)
