-- The parts of a file, as they were shown.
use Rattle.std.proofs.Common.{◌≡◌, ◌∙◌, ℕ, List, [], ◌++◌, Ok, Err, ap, drop, subst, sym}
use Rattle.std.specs.Prelude.{OnOk, Result}
use Rattle.wire.specs.Reading.{Read, bytes_at}
use Rattle.answer_fields.proofs.FromWire.{wire_ok}
use Rattle.answer_fields.specs.Fault.{from_wire}
use Rattle.answer_fields.specs.declared.fault.DecodeFault.{DecodeFault}
use Rattle.answer_text.specs.Reading.{Shows}
use Rattle.answer_text.specs.declared.damage.Stop.{Stop}
use Rattle.answer_text.specs.declared.detail.Detail.{Detail}
use Rattle.show.specs.Shown.{ArePartsOf, IsRead}
use Rattle.show.specs.declared.file_kind.FileKind.{FileKind}
use Rattle.show.proofs.Begins.{four_behind}

pub behind_magic : (bytes begun magic behind : List ℕ) → begun ≡ bytes → from_wire (bytes_at 4 begun) ≡ Ok (magic, behind) → behind ≡ drop 4 bytes
behind_magic bytes begun magic behind same read = four_behind begun (magic, behind) (wire_ok (bytes_at 4 begun) (magic, behind) read) ∙ ap (λ b. drop 4 b) same

-- what was shown of the bytes behind the magic was read there
pub read_parts : {Y : Type 0} (read : List ℕ → List ℕ → Read DecodeFault Y) (text : Y → List ℕ) (bytes : List ℕ) (r : Result (Unit {0}) Stop) (old new whole behind rest : List ℕ) → old ≡ [] → whole ≡ bytes → behind ≡ drop 4 bytes
    → Shows text r old new rest (read whole behind) → OnOk r (IsRead read text bytes new)
read_parts read text bytes (Ok done) old new whole behind rest none all cut (y, is, more) = (
  y,
  rest,
  subst (λ w. read w (drop 4 bytes) ≡ Ok (y, rest)) all (subst (λ b. read whole b ≡ Ok (y, rest)) cut is),
  more ∙ ap (λ o. o ++ text y) none,
)
read_parts read text bytes (Err e) old new whole behind rest none all cut stops = tt

-- the parts of a file of this kind
pub of_kind : (bytes : List ℕ) (detail : Detail) (k is : FileKind) → k ≡ is → (r : Result (Unit {0}) Stop) (text : List ℕ) → OnOk r (ArePartsOf is bytes detail text) → OnOk r (ArePartsOf k bytes detail text)
of_kind bytes detail k is same r text parts = subst (λ x. OnOk r (ArePartsOf x bytes detail text)) (sym same) parts
