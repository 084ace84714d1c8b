-- What a cursor took is what is read of its bytes.
use Rattle.std.proofs.Common.{◌≡◌, ℕ, ◌*◌, ◌≤◌, ◌<◌, Bool, true, false, ltb, List, length, take, drop, refl, sym, subst, ◌∙◌, ap}
use Rattle.std.specs.Prelude.{Result, Ok, Err, IfOk, if◌then◌else◌}
use Rattle.std.proofs.lemmas.Bool.{ltb-false, ltb-true}
use Rattle.std.proofs.lemmas.List.{length-take-le}
use Rattle.std.specs.Borrow.{Bor}
use Rattle.std.specs.Str.{is_utf8, IsUtf8}
use Rattle.std.proofs.lemmas.Str.{is_utf8-from_IsUtf8, IsUtf8-from_is_utf8}
use Rattle.wire.specs.declared.fault.WireFault.{WireFault}
use Rattle.wire.specs.declared.fault.WireFault.TheVariants.{NotUtf8, Truncated}
use Rattle.wire.specs.Reading.{Read, Reads, bytes_at, repeat_at, utf8_of}
use Rattle.wire.proofs.Numbers.{ok_is}
use Rattle.answer_fields.specs.Fault.{fault_of as of_wire, from_wire}
use Rattle.answer_fields.specs.declared.fault.DecodeFault.{DecodeFault}
use Rattle.answer_fields.specs.declared.fault.DecodeFault.TheVariants as of_decode
use Rattle.answer_fields.specs.declared.fault.DecodeFault.TheVariants.{Shape}
use Rattle.answer_fields.specs.declared.fields.JobFields.{JobFields}
use Rattle.answer_fields.specs.Fields.{AreJobFields, words}
use Rattle.answer_fields.specs.LayoutReading.{job_at, length_at}
use Rattle.answer_fields.specs.LayoutReading.{JobFields as Fields}
use Rattle.answer_fields.proofs.FromWire.{wire_ok}
use Rattle.answer_fields.proofs.Words.{words_read, words_short}
use Rattle.answer_text.specs.declared.cursor.Cursor.{Cursor}
use Rattle.answer_text.specs.declared.damage.Stop.{Stop}
use Rattle.answer_text.specs.Reading.{GoesOn, IsSamePart, Takes, fault_in, text_of_bytes}

module _ {X Y : Type 0} (view : X → Y) where
  of_ok : (x : X) (behind : Bor (List ℕ)) (result : Result X Stop) (rest : List ℕ) (read : Read WireFault Y) → read ≡ Ok (view x, behind.now) → result ≡ Ok x → rest ≡ behind.now
      → Takes view result rest (from_wire read)
  of_ok x behind result rest read is same left = rw (same, left, is) refl

  of_err : (e : WireFault) (s : Stop) (result : Result X Stop) (rest : List ℕ) (read : Read WireFault Y) → read ≡ Err e → result ≡ Err s → fault_in s ≡ of_wire e
      → Takes view result rest (from_wire read)
  of_err e s result rest read is same fault = rw (same, is, fault) refl

  pub took : (taken : Result (X × Bor (List ℕ)) WireFault) (result : Result X Stop) (rest : List ℕ) (read : Read WireFault Y) → Reads (λ x. (view x.0, x.1.now)) taken read → GoesOn taken result rest
      → Takes view result rest (from_wire read)
  took (Ok p) result rest read is (same, left) = of_ok p.0 p.1 result rest read is same left
  took (Err e) result rest read is (s, same, fault) = of_err e s result rest read is same fault

-- ---- texts

pub of_utf8 : (bytes text : List ℕ) → IsUtf8 bytes → text ≡ bytes → utf8_of bytes ≡ Ok text
of_utf8 bytes text is same = rw (is_utf8-from_IsUtf8 bytes is, same) refl

of_other : (bytes : List ℕ) (b : Bool) → is_utf8 bytes ≡ b → (IsUtf8 bytes → ⊥) → utf8_of bytes ≡ Err NotUtf8
of_other bytes true is not_utf8 = absurd (not_utf8 (IsUtf8-from_is_utf8 bytes is))
of_other bytes false is not_utf8 = rw is refl

pub of_no_utf8 : (bytes : List ℕ) → (IsUtf8 bytes → ⊥) → utf8_of bytes ≡ Err NotUtf8
of_no_utf8 bytes not_utf8 = of_other bytes (is_utf8 bytes) refl not_utf8

pub text_taken : (n : ℕ) (bytes taken behind text : List ℕ) → from_wire (bytes_at n bytes) ≡ Ok (taken, behind) → utf8_of taken ≡ Ok text → from_wire (text_of_bytes n bytes) ≡ Ok (text, behind)
text_taken n bytes taken behind text is utf8 = rw (wire_ok (bytes_at n bytes) (taken, behind) is, utf8) refl

pub text_refused : (n : ℕ) (bytes taken behind : List ℕ) → from_wire (bytes_at n bytes) ≡ Ok (taken, behind) → utf8_of taken ≡ Err NotUtf8 → from_wire (text_of_bytes n bytes) ≡ Err Shape
text_refused n bytes taken behind is utf8 = rw (wire_ok (bytes_at n bytes) (taken, behind) is, utf8) refl

-- ---- numbers of four bytes

module _ (n : ℕ) (bytes : List ℕ) where
  enough : (b : Bool) (taken rest : List ℕ) → ltb (length bytes) (n * 4) ≡ b → from_wire {X = List ℕ × List ℕ} (if b then Err Truncated else Ok (take (n * 4) bytes, drop (n * 4) bytes)) ≡ Ok (taken, rest)
      → (repeat_at length_at n bytes ≡ Ok (words n taken, rest)) × (length taken ≡ n * 4)
  enough true taken rest is read = absurd cc
  enough false taken rest is read =
      let long : n * 4 ≤ length bytes = ltb-false _ _ is in
      let same : ◌≡◌ {A = Result (List ℕ × List ℕ) DecodeFault} (Ok (take (n * 4) bytes, drop (n * 4) bytes)) (Ok (taken, rest)) = read in
      let pair : (take (n * 4) bytes, drop (n * 4) bytes) ≡ (taken, rest) = ok_is {E = DecodeFault} (take (n * 4) bytes, drop (n * 4) bytes) (taken, rest) same in (
        words_read n bytes long ∙ ap (λ (q : List ℕ × List ℕ). Ok (words n q.0, q.1)) pair,
        ap (λ (q : List ℕ × List ℕ). length q.0) (sym pair) ∙ length-take-le (n * 4) bytes long,
      )

  short : (b : Bool) (e : DecodeFault) → ltb (length bytes) (n * 4) ≡ b → from_wire {X = List ℕ × List ℕ} (if b then Err Truncated else Ok (take (n * 4) bytes, drop (n * 4) bytes)) ≡ Err e → repeat_at length_at n bytes ≡ Err e
  short true e is read =
      let few : length bytes < n * 4 = ltb-true _ _ is in
      let same : ◌≡◌ {A = Result (List ℕ × List ℕ) DecodeFault} (Err of_decode.Truncated) (Err e) = read in
      let one : of_decode.Truncated ≡ e = cc same in
      words_short n bytes few ∙ ap (λ x. Err x) one
  short false e is read = absurd cc

  pub lengths_read : (r : Result (Bor (List ℕ)) Stop) (rest : List ℕ) → Takes (λ b. b.now) r rest (from_wire (bytes_at (n * 4) bytes)) → Takes (λ b. words n b.now) r rest (repeat_at length_at n bytes)
  unfolding bytes_at
  lengths_read (Ok taken) rest read = (enough (ltb (length bytes) (n * 4)) taken.now rest refl read).0
  lengths_read (Err e) rest read = short (ltb (length bytes) (n * 4)) (fault_in e) refl read

  pub lengths_long : (r : Result (Bor (List ℕ)) Stop) (rest : List ℕ) → Takes (λ b. b.now) r rest (from_wire (bytes_at (n * 4) bytes)) → IfOk r (λ b. length b.now ≡ n * 4)
  unfolding bytes_at
  lengths_long (Ok taken) rest read = (enough (ltb (length bytes) (n * 4)) taken.now rest refl read).1
  lengths_long (Err e) rest read = tt

pub kept : (bytes rest : List ℕ) (job : JobFields) (y : Fields × List ℕ) → job_at bytes ≡ Ok y → AreJobFields job y.0 → rest ≡ y.1 → (x : Fields) × (job_at bytes ≡ Ok (x, rest)) × AreJobFields job x
kept bytes rest job y is are same = (y.0, is ∙ ap (λ r. Ok (y.0, r)) (sym same), are)

-- the same part all the time
pub still : (a b c : Cursor) → IsSamePart a b → IsSamePart b c → IsSamePart a c
still a b c first second = (second.0 ∙ first.0, second.1 ∙ first.1)
