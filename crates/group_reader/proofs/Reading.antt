-- What a full buffer, and one that isn't, say of the bytes that were to be read.
use Rattle.std.specs.Prelude.{◌≡◌, ℕ, ◌≤◌, ◌<◌, List, [], ◌++◌, length, take, drop, Option, Some, Ok, Err, if◌then◌else◌}
use Rattle.std.proofs.Common.{refl, sym, ap, ◌∙◌, ◌+◌, arith, take_all, append-nil, length-take-le, lt-ltb, le-ltb, length-append}
use Rattle.std.proofs.Math.Seq.{take-append_seam, drop-append_seam}
use Rattle.wire.specs.Reading.{bytes_at}
use Rattle.wire.specs.declared.fault.WireFault.TheVariants as of_wire
use Rattle.fragment_file.specs.Fault.{from_wire}
use Rattle.fragment_file.specs.declared.fault.FileFault.TheVariants.{Truncated}
use Rattle.group_reader.specs.Source.{IsFilled}

-- the bytes end before the buffer is full
pub too_few : (left : Option (List ℕ)) (bytes : List ℕ) (n k : ℕ) (out : List ℕ) → IsFilled left bytes n out → length out ≡ k → n < length out
    → from_wire (bytes_at k bytes) ≡ Err Truncated
unfolding bytes_at
too_few left bytes n k out filled long less =
    let all : bytes ≡ take n out = filled.2 ∙ ap (λ (rest : List ℕ). take n out ++ rest) (filled.3 less) ∙ append-nil (take n out) in
    let count : length bytes ≡ n = ap length all ∙ length-take-le n out (omega (arith, less)) in
    ap (λ b. from_wire (if b then Err of_wire.Truncated else Ok (take k bytes, drop k bytes))) (lt-ltb (length bytes) k (omega (arith, count, long, less)))

-- what was to be read, where the buffer is full
pub full_parts : (left : Option (List ℕ)) (bytes : List ℕ) (n : ℕ) (out : List ℕ) → (filled : IsFilled left bytes n out) → length out ≤ n → bytes ≡ out ++ filled.0
full_parts left bytes n out filled most = filled.2 ∙ ap (λ (front : List ℕ). front ++ filled.0) (take_all n out most)

-- the buffer is full
pub enough : (left : Option (List ℕ)) (bytes : List ℕ) (n k : ℕ) (out : List ℕ) → (filled : IsFilled left bytes n out) → length out ≡ k → length out ≤ n
    → from_wire (bytes_at k bytes) ≡ Ok (out, filled.0)
unfolding bytes_at
enough left bytes n k out filled long most =
    let all : bytes ≡ out ++ filled.0 = full_parts left bytes n out filled most in
    let count : length bytes ≡ length out + length filled.0 = ap length all ∙ length-append out filled.0 in
    ap (λ b. from_wire (if b then Err of_wire.Truncated else Ok (take k bytes, drop k bytes))) (le-ltb (length bytes) k (omega (arith, count, long)))
    ∙ (λ i. Ok (take (sym long i) (all i), drop (sym long i) (all i)))
    ∙ (λ i. Ok (take-append_seam out filled.0 i, drop-append_seam out filled.0 i))

-- ---- bytes that may have been those

-- a buffer that isn't full has all bytes
pub filled_short : (n : ℕ) (out : List ℕ) → IsFilled (Some []) (take n out) n out
filled_short n out = ([], refl, sym (append-nil (take n out)), (λ less. refl))
