-- Numbers of a source, read as their bytes.
use Rattle.std.specs.Prelude.{◌≡◌, ℕ, Bool, true, false, List, length, take, drop, Ok, Err, cond, nat_lt}
use Rattle.std.proofs.Common.{sym, ap, ◌∙◌, arith}
use Rattle.byteorder.specs.Endian.{little_number}
use Rattle.byteorder.specs.Numbers.{little_from-take}
use Rattle.wire.specs.declared.fault.WireFault.{WireFault}
use Rattle.wire.specs.declared.fault.WireFault.TheVariants.{Truncated}
use Rattle.wire.specs.Reading.{Read, bytes_at, number_at}
use Rattle.fragment_file.specs.declared.fault.FileFault.{FileFault}
use Rattle.fragment_file.specs.Fault.{from_wire}

abbrev bytes_or : Bool → ℕ → List ℕ → Read WireFault (List ℕ)
bytes_or b n rest = cond b (Err Truncated) (Ok (take n rest, drop n rest))

abbrev number_or : Bool → ℕ → List ℕ → Read WireFault ℕ
number_or b n rest = cond b (Err Truncated) (Ok (little_number n rest, drop n rest))

abbrev pair : {X : Type 0} → X × List ℕ → Read FileFault X
pair p = Ok p

pair_is : {X : Type 0} (p q : X × List ℕ) → pair p ≡ pair q → p ≡ q
pair_is p q e = cc

taken_number : (n : ℕ) (rest : List ℕ) → little_number n rest ≡ little_number n (take n rest)
taken_number n rest = sym (little_from-take 0 n n rest (omega arith))

read_case : (b : Bool) (n : ℕ) (rest out left : List ℕ) → from_wire (bytes_or b n rest) ≡ Ok (out, left) → from_wire (number_or b n rest) ≡ Ok (little_number n out, left)
read_case true n rest out left e = absurd cc
read_case false n rest out left e =
    let same : (take n rest, drop n rest) ≡ (out, left) = pair_is (take n rest, drop n rest) (out, left) e in
    λ i. Ok ((taken_number n rest ∙ ap (λ (p : List ℕ × List ℕ). little_number n p.0) same) i, (same i).1)

-- a number is that of its bytes
pub number_read : (n : ℕ) (rest out left : List ℕ) → from_wire (bytes_at n rest) ≡ Ok (out, left) → from_wire (number_at n rest) ≡ Ok (little_number n out, left)
unfolding bytes_at number_at
number_read n rest out left e = read_case (nat_lt (length rest) n) n rest out left e

failed_case : (b : Bool) (n : ℕ) (rest : List ℕ) (e : FileFault) → from_wire (bytes_or b n rest) ≡ Err e → from_wire (number_or b n rest) ≡ Err e
failed_case true n rest e is = cc
failed_case false n rest e is = absurd cc

-- it is wanting where they are
pub number_failed : (n : ℕ) (rest : List ℕ) (e : FileFault) → from_wire (bytes_at n rest) ≡ Err e → from_wire (number_at n rest) ≡ Err e
unfolding bytes_at number_at
number_failed n rest e is = failed_case (nat_lt (length rest) n) n rest e is
