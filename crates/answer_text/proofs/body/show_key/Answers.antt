-- Proofs of the goals of `show_key` (`body`).
use Rattle.std.proofs.Common.{[], ◌≡◌, codes, refl, string_bytes}
use Rattle.wire.specs.Reading.{repeat_at}
use Rattle.answer_fields.specs.LayoutReading.{value_at}
use Rattle.answer_text.specs.Texts.{key_text, listed, value_text}
use Rattle.answer_text.proofs.Lists.{some_key}
use Rattle.answer_text.proofs.Showing.{repeat_length, shows_same}
use Rattle.answer_text.proofs.body.show_key.Goals as goal

pub returns-then-keys-eq0-clause-shown : goal.returns-then-keys-eq0-clause-shown
unfolding repeat_at
returns-then-keys-eq0-clause-shown c = ([], rw c.if-keys-eq0.true refl, c.in_ok-push_str.ensures.bytes)

pub returns-clause-shown : goal.returns-clause-shown
returns-clause-shown c =
    shows_same (repeat_at value_at c.args.keys c.args.cursor.now.rest.now) (listed (codes "  ") value_text) key_text c.show_values.result (string_bytes c.args.out.now) (string_bytes c.show_values.new.out) c.show_values.new.cursor.rest.now
    (λ key read. some_key key c.args.keys (repeat_length value_at c.args.keys c.args.cursor.now.rest.now (key, c.show_values.new.cursor.rest.now) read) c.if-keys-eq0.false) c.show_values.ensures.shown
