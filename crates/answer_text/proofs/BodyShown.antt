-- What is shown of a body, by its tag.
use Rattle.std.proofs.Common.{◌≡◌, ◌≢◌, ℕ, Bool, List, true, false, eqb, refl, subst, sym}
use Rattle.std.specs.Prelude.{Result, Ok, Err}
use Rattle.std.proofs.lemmas.Bool.{eqb-true}
use Rattle.meaning.specs.Said.{Body}
use Rattle.wire.specs.Reading.{◌>>=◌, number_at}
use Rattle.answer_fields.specs.Fault.{from_wire}
use Rattle.answer_fields.specs.LayoutReading.{body_at, fault_at, groups_at, tagged_body_at}
use Rattle.answer_fields.specs.Shape.{Shape}
use Rattle.answer_fields.specs.declared.fault.DecodeFault.{DecodeFault}
use Rattle.answer_fields.specs.declared.fault.DecodeFault.TheVariants as of_decode
use Rattle.answer_text.specs.declared.damage.Stop.{Stop}
use Rattle.answer_text.specs.Reading.{Shows}

not_equal : (m n : ℕ) (b : Bool) → eqb m n ≡ b → m ≢ n → eqb m n ≡ false
not_equal m n true is apart = absurd (apart (eqb-true m n is))
not_equal m n false is apart = is

pub differs : (m n : ℕ) → m ≢ n → eqb m n ≡ false
differs m n apart = not_equal m n (eqb m n) refl apart

module _ (shape : Shape) (bytes : List ℕ) where
  pub untagged : (e : DecodeFault) → from_wire (number_at 1 bytes) ≡ Err e → body_at shape bytes ≡ Err e
  unfolding body_at
  untagged e is = rw is refl

  module _ (tag : ℕ) (behind : List ℕ) (read : from_wire (number_at 1 bytes) ≡ Ok (tag, behind)) where
    fault_is : tag ≡ 0 → body_at shape bytes ≡ fault_at behind
    unfolding body_at tagged_body_at
    fault_is zero = rw (read, zero) refl

    groups_are : tag ≡ 1 → body_at shape bytes ≡ groups_at shape behind
    unfolding body_at tagged_body_at
    groups_are one = rw (read, one) refl

    pub fault_shown : tag ≡ 0 → (text : Body → List ℕ) (r : Result (Unit {0}) Stop) (old new rest : List ℕ) → Shows text r old new rest (fault_at behind) → Shows text r old new rest (body_at shape bytes)
    fault_shown zero text r old new rest shown = subst (Shows text r old new rest) (sym (fault_is zero)) shown

    pub counted_shown : tag ≡ 1 → (text : Body → List ℕ) (r : Result (Unit {0}) Stop) (old new rest : List ℕ) → Shows text r old new rest (groups_at shape behind) → Shows text r old new rest (body_at shape bytes)
    counted_shown one text r old new rest shown = subst (Shows text r old new rest) (sym (groups_are one)) shown

    pub other_shown : tag ≢ 0 → tag ≢ 1 → body_at shape bytes ≡ Err of_decode.Shape
    unfolding body_at tagged_body_at
    other_shown zero one = rw (read, differs tag 0 zero, differs tag 1 one) refl
