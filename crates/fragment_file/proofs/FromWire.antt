-- Reading by what `wire` gives.
use Rattle.std.proofs.Common.{◌≡◌, Result, Ok, Err, refl}
use Rattle.wire.specs.declared.fault.WireFault.{WireFault}
use Rattle.wire.specs.Reading.{◌>>=◌}
use Rattle.fragment_file.specs.declared.fault.FileFault.{FileFault}
use Rattle.fragment_file.specs.Fault.{from_wire}

-- what a reader of `wire` gave that did not fail
pub read_ok : {A B : Type 0} (r : Result A WireFault) (f : A → Result B FileFault) (y : B) → (from_wire r >>= f) ≡ Ok y → (x : A) × (r ≡ Ok x) × (f x ≡ Ok y)
read_ok (Ok x) f y e = (x, refl, e)
read_ok (Err d) f y e = absurd cc
