-- Proofs of the goals of `text_of` (`reading`).
use Rattle.std.proofs.Common.{◌≡◌, refl, Bool, true, false, Ok, Err, List, ℕ}
use Rattle.std.specs.Str.{is_utf8, IsUtf8}
use Rattle.std.proofs.lemmas.Str.{is_utf8-from_IsUtf8, IsUtf8-from_is_utf8}
use Rattle.wire.specs.declared.fault.WireFault.TheVariants.{NotUtf8}
use Rattle.wire.specs.Reading.{utf8_of}
use Rattle.wire.proofs.reading.text_of.Goals as goal

of_utf8 : (bytes text : List ℕ) → IsUtf8 bytes → text ≡ bytes → utf8_of bytes ≡ Ok text
of_utf8 bytes text is same = rw (is_utf8-from_IsUtf8 bytes is, same) refl

of_other : (bytes : List ℕ) (b : Bool) → is_utf8 bytes ≡ b → (IsUtf8 bytes → ⊥) → utf8_of bytes ≡ Err NotUtf8
of_other bytes true is not_utf8 = absurd (not_utf8 (IsUtf8-from_is_utf8 bytes is))
of_other bytes false is not_utf8 = rw is refl

pub returns-in-Ok : goal.returns-in-Ok
returns-in-Ok c = of_utf8 c.args.bytes.now c.in-Ok.text.now c.in-Ok.ensures.cases.1 c.in-Ok.ensures.cases.0

pub returns-in-Err : goal.returns-in-Err
returns-in-Err c = of_other c.args.bytes.now (is_utf8 c.args.bytes.now) refl c.in-Err.ensures.cases.0
