-- The seal of a source, and what stands behind it.
use Rattle.std.specs.Prelude.{◌≡◌, ℕ, ◌-◌, ◌≤◌, ◌<◌, Bool, true, false, not, cond, List, [], ◌++◌, length, take, Option, Some, None, Ok, Err}
use Rattle.std.proofs.Common.{refl, sym, ap, ◌∙◌, arith, take_all}
use Rattle.std.proofs.lemmas.Bool.{ne_eqb}
use Rattle.std.proofs.lemmas.List.{append-nil, length-append, length-take-le, take_at}
use Rattle.wire.specs.Reading.{same_bytes, sealed_end}
use Rattle.wire.specs.Bytes.{seal_of}
use Rattle.wire.specs.declared.fault.WireFault.TheVariants as of_wire
use Rattle.fragment_file.specs.declared.fault.FileFault.{FileFault}
use Rattle.fragment_file.specs.declared.fault.FileFault.TheVariants.{Truncated, TrailingBytes, Seal}
use Rattle.fragment_file.specs.Fault.{from_wire}
use Rattle.group_reader.specs.Coming.{end_at, end_behind, fault_in}
use Rattle.group_reader.specs.Source.{IsFilled}
use Rattle.group_reader.proofs.Reading.{too_few, enough}

-- the bytes end within the seal
pub end_short : (left : Option (List ℕ)) (all rest : List ℕ) (n : ℕ) (seal : List ℕ) → IsFilled left rest n seal → length seal ≡ 32 → n < length seal → end_at all rest ≡ Some Truncated
end_short left all rest n seal filled long less = ap (end_behind all) (too_few left rest n 32 seal filled long less)

end_sealed : (left : Option (List ℕ)) (all rest : List ℕ) (n : ℕ) (seal : List ℕ) → (filled : IsFilled left rest n seal) → length seal ≡ 32 → length seal ≤ n
    → end_at all rest ≡ fault_in (from_wire (sealed_end all seal filled.0))
end_sealed left all rest n seal filled long most = ap (end_behind all) (enough left rest n 32 seal filled long most)

-- the seal is there, whatever stands behind it
pub end_full : (all rest : List ℕ) (n : ℕ) (seal : List ℕ) → length seal ≡ 32 → length seal ≤ n → end_at all (seal ++ rest) ≡ fault_in (from_wire (sealed_end all seal rest))
end_full all rest n seal long most = end_sealed (Some rest) all (seal ++ rest) n seal (rest, refl, ap (λ (front : List ℕ). front ++ rest) (sym (take_all n seal most)), (λ less. absurd (omega (arith, less, most)))) long most

-- ---- behind the seal

pub some_more : (rest : List ℕ) (n : ℕ) (more : List ℕ) → n ≤ length more → 0 < n → 0 < length (take n more ++ rest)
some_more rest n more within some =
    let all = length-append (take n more) rest in
    let taken : length (take n more) ≡ n = length-take-le n more within in
    omega (arith, all, taken, some)

pub none_left : (left : Option (List ℕ)) (rest : List ℕ) (n : ℕ) (more : List ℕ) → IsFilled left rest n more → length more ≡ 1 → n ≤ 0 → rest ≡ []
none_left left rest n more filled one none =
    let zero : n ≡ 0 = omega (arith, none) in
    filled.2 ∙ (λ i. take (zero i) more ++ filled.3 (omega (arith, one, zero)) i)

pub trailing : (all seal rest : List ℕ) → 0 < length rest → fault_in (from_wire (sealed_end all seal rest)) ≡ Some TrailingBytes
unfolding sealed_end
trailing all seal rest some = rw (ne_eqb (length rest) 0 (λ none. omega (arith, none, some))) refl

-- ---- the seal

before_seal : (front seal rest all : List ℕ) → all ≡ front ++ rest → rest ≡ seal ++ [] → length seal ≡ 32 → take (length all - 32) all ≡ front
before_seal front seal rest all parts end long =
    let whole : all ≡ front ++ seal = parts ∙ ap (λ (r : List ℕ). front ++ r) (end ∙ append-nil seal) in
    let short : length front ≡ length all - 32 = omega (arith, ap length whole, length-append front seal, long) in
    ap (take (length all - 32)) whole ∙ take_at front seal (length all - 32) short

seal_case : (all seal : List ℕ) (b : Bool) → same_bytes seal (seal_of (take (length all - 32) all)) ≡ b
    → fault_in (from_wire (sealed_end all seal [])) ≡ fault_in (from_wire (cond (not b) (Err of_wire.Seal) (Ok seal)))
unfolding sealed_end
seal_case all seal b is = ap (λ t. fault_in (from_wire (cond (not t) (Err of_wire.Seal) (Ok seal)))) is

abbrev ends_by : List ℕ → List ℕ → List ℕ → Option FileFault
ends_by all seal left = fault_in (from_wire (sealed_end all seal left))

-- the seal is compared with this digest, and nothing stands behind it
compared : (front seal rest left all digest : List ℕ) (b : Bool) → all ≡ front ++ rest → rest ≡ seal ++ left → left ≡ [] → length seal ≡ 32 → digest ≡ seal_of front → same_bytes seal digest ≡ b
    → ends_by all seal left ≡ fault_in (from_wire (cond (not b) (Err of_wire.Seal) (Ok seal)))
compared front seal rest left all digest b parts end none long is same =
    let whole : rest ≡ seal ++ [] = end ∙ ap (λ (l : List ℕ). seal ++ l) none in
    let sealed : seal_of (take (length all - 32) all) ≡ digest = ap seal_of (before_seal front seal rest all parts whole long) ∙ sym is in
    ap (ends_by all seal) none ∙ seal_case all seal b (ap (same_bytes seal) sealed ∙ same)

flipped : (b r : Bool) → r ≡ not b → r ≡ true → b ≡ false
flipped true r is e = absurd cc
flipped false r is e = refl

unflipped : (b r : Bool) → r ≡ not b → r ≡ false → b ≡ true
unflipped true r is e = refl
unflipped false r is e = absurd cc

pub other_seal : (front seal rest left all digest : List ℕ) (r : Bool) → all ≡ front ++ rest → rest ≡ seal ++ left → left ≡ [] → length seal ≡ 32 → digest ≡ seal_of front → r ≡ not (same_bytes seal digest) → r ≡ true
    → ends_by all seal left ≡ Some Seal
other_seal front seal rest left all digest r parts end none long is test e =
    compared front seal rest left all digest false parts end none long is (flipped (same_bytes seal digest) r test e)

pub right_seal : (front seal rest left all digest : List ℕ) (r : Bool) → all ≡ front ++ rest → rest ≡ seal ++ left → left ≡ [] → length seal ≡ 32 → digest ≡ seal_of front → r ≡ not (same_bytes seal digest) → r ≡ false
    → ends_by all seal left ≡ None
right_seal front seal rest left all digest r parts end none long is test e =
    compared front seal rest left all digest true parts end none long is (unflipped (same_bytes seal digest) r test e)
