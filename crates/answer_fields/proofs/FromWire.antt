-- Reading by what `wire` gives.
use Rattle.std.proofs.Common.{◌≡◌, Result, Ok, Err, refl}
use Rattle.wire.specs.declared.fault.WireFault.{WireFault}
use Rattle.wire.specs.Reading.{◌>>=◌}
use Rattle.answer_fields.specs.declared.fault.DecodeFault.{DecodeFault}
use Rattle.answer_fields.specs.Fault.{from_wire}

-- what a reader of `wire` gave that did not fail
pub read_ok : {A B : Type 0} (r : Result A WireFault) (f : A → Result B DecodeFault) (y : B) → (from_wire r >>= f) ≡ Ok y → (x : A) × (r ≡ Ok x) × (f x ≡ Ok y)
read_ok (Ok x) f y e = (x, refl, e)
read_ok (Err d) f y e = absurd cc

pub wire_ok : {A : Type 0} (r : Result A WireFault) (y : A) → from_wire r ≡ Ok y → r ≡ Ok y
wire_ok (Ok x) y e = cc
wire_ok (Err d) y e = absurd cc
