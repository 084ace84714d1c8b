-- Proofs of the goals of `refill_text` (`spare`).
use Rattle.std.proofs.Common.{◌≡◌, true, subst, sym}
use Rattle.std.proofs.lemmas.Str.{is_utf8-from_IsUtf8}
use Rattle.meaning.specs.declared.value.Value.{Value}
use Rattle.aggregate_states.specs.Values.{is_spelled}
use Rattle.answer_fields.proofs.spare.refill_text.Goals as goal

pub returns-clause-spelled : goal.returns-clause-spelled
returns-clause-spelled c = subst (λ (v : Value). is_spelled v ≡ true) (sym (c.in_ok-place.ensures)) (is_utf8-from_IsUtf8 c.args.text.now c.utf8.text)
