-- Values: what is read is spelled so, and what is spelled is read again.
use Rattle.std.proofs.Common.{◌≡◌, ℕ, zero, suc, false, eqb, List, ◌++◌, Ok, refl, ap, subst, ◌∙◌, append_assoc, arith}
use Rattle.std.proofs.lemmas.Bool.{ne_eqb}
use Rattle.meaning.specs.declared.value.Value.{Value}
use Rattle.meaning.specs.declared.value.Value.TheVariants.{Null, Int, Text}
use Rattle.wire.specs.Reading.{number_at, text_at, i64_at}
use Rattle.wire.specs.Bytes.{number_bytes, i64_bytes, text_bytes}
use Rattle.answer_fields.specs.Spelling.{value_bytes}
use Rattle.answer_fields.specs.LayoutReading.{tagged_value_at, value_at}
use Rattle.answer_fields.specs.Ranges.{IsValue}
use Rattle.wire.proofs.Numbers.{ok_is, IsBytes, Takes, Takes-then, number_takes, number_again}
use Rattle.answer_fields.proofs.FromWire.{read_ok}
use Rattle.wire.proofs.Parts.{IsSpelled, IsReadAgain, text_takes, text_again, i64_takes, i64_again}

tagged_takes : (start : List ℕ) (tag : ℕ) (bytes : List ℕ) (p : Value × List ℕ) → IsBytes bytes → Takes start (number_bytes 1 tag) bytes → tagged_value_at tag bytes ≡ Ok p → Takes start (value_bytes p.0) p.1
unfolding tagged_value_at value_bytes
tagged_takes start zero bytes p fits first e =
    subst (λ (q : Value × List ℕ). Takes start (value_bytes q.0) q.1) (ok_is (Null, bytes) p e) first
tagged_takes start (suc zero) bytes p fits first e =
    let a = read_ok (i64_at bytes) (λ z. Ok (Int z.0, z.1)) p e in
    let taken = i64_takes bytes a.0 fits a.1 in
    let made : Value × List ℕ = (Int a.0.0, a.0.1) in
    subst (λ (q : Value × List ℕ). Takes start (value_bytes q.0) q.1) (ok_is made p a.2) (Takes-then start (number_bytes 1 1) bytes (i64_bytes a.0.0) a.0.1 first taken)
tagged_takes start (suc (suc zero)) bytes p fits first e =
    let a = read_ok (text_at 2 bytes) (λ t. Ok (Text t.0, t.1)) p e in
    let taken = text_takes 2 bytes a.0 fits a.1 in
    let made : Value × List ℕ = (Text a.0.0, a.0.1) in
    subst (λ (q : Value × List ℕ). Takes start (value_bytes q.0) q.1) (ok_is made p a.2) (Takes-then start (number_bytes 1 2) bytes (text_bytes 2 a.0.0) a.0.1 first taken)
tagged_takes start (suc (suc (suc n))) bytes p fits first e =
    let not0 : eqb (suc (suc (suc n))) 0 ≡ false = ne_eqb _ _ (λ h. omega (arith, h)) in
    let not1 : eqb (suc (suc (suc n))) 1 ≡ false = ne_eqb _ _ (λ h. omega (arith, h)) in
    let not2 : eqb (suc (suc (suc n))) 2 ≡ false = ne_eqb _ _ (λ h. omega (arith, h)) in
    let wrong = rw (not0, not1, not2) at e in
    absurd cc

pub value_takes : IsSpelled value_at value_bytes
unfolding value_at
value_takes bytes p fits e =
    let a = read_ok (number_at 1 bytes) (λ tag. tagged_value_at tag.0 tag.1) p e in
    let tag = number_takes 1 bytes a.0.0 a.0.1 fits a.1 in
    tagged_takes bytes a.0.0 a.0.1 p tag.0.rest_fits tag.0 a.2

pub value_again : IsReadAgain value_at value_bytes IsValue
unfolding value_at tagged_value_at value_bytes
value_again Null rest fits = rw (number_again 1 0 rest (omega arith)) refl
value_again (Int z) rest fits =
    ap value_at (append_assoc (number_bytes 1 1) (i64_bytes z) rest) ∙ rw (number_again 1 1 (i64_bytes z ++ rest) (omega arith), i64_again z rest fits) refl
value_again (Text t) rest fits =
    ap value_at (append_assoc (number_bytes 1 2) (text_bytes 2 t) rest) ∙ rw (number_again 1 2 (text_bytes 2 t ++ rest) (omega arith), text_again 2 t rest fits) refl
