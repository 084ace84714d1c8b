-- The magic of a source, and its header.
use Rattle.std.specs.Prelude.{◌≡◌, ℕ, Bool, true, false, not, cond, List, Result, Ok, Err}
use Rattle.std.proofs.Common.{refl, ap}
use Rattle.wire.specs.declared.fault.WireFault.{WireFault}
use Rattle.wire.specs.declared.fault.WireFault.TheVariants as of_wire
use Rattle.wire.specs.Reading.{◌>>=◌, Read, behind_magic, bytes_at, same_bytes}
use Rattle.fragment_file.specs.declared.fault.FileFault.{FileFault}
use Rattle.fragment_file.specs.declared.fault.FileFault.TheVariants.{Magic}
use Rattle.fragment_file.specs.declared.header.Header.{Header}
use Rattle.fragment_file.specs.Fault.{from_wire}
use Rattle.fragment_file.specs.Fragment.{fragment_magic}
use Rattle.fragment_file.specs.FragmentReading.{header_at}
use Rattle.group_reader.specs.Coming.{header_read}

abbrev front_or : Bool → List ℕ → Read FileFault Header
front_or b rest = cond b (header_at rest) (Err Magic)

abbrev pub behind_front : List ℕ × List ℕ → Read FileFault Header
behind_front first = front_or (same_bytes first.0 fragment_magic) first.1

abbrev magic_or : Bool → List ℕ → Result (List ℕ) WireFault
magic_or b rest = cond b (Ok rest) (Err of_wire.Magic)

front_case : (b : Bool) (rest : List ℕ) → (from_wire (magic_or b rest) >>= header_at) ≡ front_or b rest
front_case true rest = refl
front_case false rest = refl

front_of : (r : Read WireFault (List ℕ)) → (from_wire (r >>= (λ first. magic_or (same_bytes first.0 fragment_magic) first.1)) >>= header_at) ≡ (from_wire r >>= behind_front)
front_of (Ok first) = front_case (same_bytes first.0 fragment_magic) first.1
front_of (Err e) = refl

pub front_start : (bytes : List ℕ) → header_read bytes ≡ (from_wire (bytes_at 4 bytes) >>= behind_front)
unfolding behind_magic
front_start bytes = front_of (bytes_at 4 bytes)

abbrev pub other_magic : List ℕ → Bool
other_magic magic = not (same_bytes magic fragment_magic)

flipped : (b r : Bool) → r ≡ not b → r ≡ true → b ≡ false
flipped true r is e = absurd cc
flipped false r is e = refl

unflipped : (b r : Bool) → r ≡ not b → r ≡ false → b ≡ true
unflipped true r is e = refl
unflipped false r is e = absurd cc

pub wrong_magic : (magic rest : List ℕ) (r : Bool) → r ≡ other_magic magic → r ≡ true → behind_front (magic, rest) ≡ Err Magic
wrong_magic magic rest r is e = ap (λ b. front_or b rest) (flipped (same_bytes magic fragment_magic) r is e)

pub right_magic : (magic rest : List ℕ) (r : Bool) → r ≡ other_magic magic → r ≡ false → behind_front (magic, rest) ≡ header_at rest
right_magic magic rest r is e = ap (λ b. front_or b rest) (unflipped (same_bytes magic fragment_magic) r is e)
