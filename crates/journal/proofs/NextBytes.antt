-- Bytes that stand next.
use Rattle.std.specs.Prelude.{◌≡◌, ℕ, ◌+◌, ltb, false, cond, List, [], ◌++◌, length, take, drop, Ok, Err}
use Rattle.std.proofs.Common.{sym, ap, ◌∙◌, arith}
use Rattle.std.proofs.lemmas.Bool.{le-ltb}
use Rattle.std.proofs.lemmas.List.{append-nil, take-append-drop, drop-drop, length-drop, nil_from_length}
use Rattle.byteorder.specs.Endian.{little_number}
use Rattle.wire.specs.declared.fault.WireFault.TheVariants.{Truncated}
use Rattle.wire.specs.Bytes.{number_bytes}
use Rattle.wire.specs.Reading.{number_at}
use Rattle.wire.proofs.Numbers.{IsBytes, number_takes}

-- n bytes from an offset on, and those behind them
pub next_bytes : (at n : ℕ) (bytes : List ℕ) → drop at bytes ≡ take n (drop at bytes) ++ drop (at + n) bytes
next_bytes at n bytes = sym (take-append-drop n (drop at bytes)) ∙ ap (λ (l : List ℕ). take n (drop at bytes) ++ l) (drop-drop n at bytes)

-- four bytes are those of their number
pub four_bytes : (bytes : List ℕ) → IsBytes bytes → length bytes ≡ 4 → bytes ≡ number_bytes 4 (little_number 4 bytes)
unfolding number_at
four_bytes bytes fits four =
    let long : ltb (length bytes) 4 ≡ false = le-ltb (length bytes) 4 (omega (arith, four)) in
    let read : number_at 4 bytes ≡ Ok (little_number 4 bytes, drop 4 bytes) = ap (λ b. cond b (Err Truncated) (Ok (little_number 4 bytes, drop 4 bytes))) long in
    let none : drop 4 bytes ≡ [] = nil_from_length (drop 4 bytes) (omega (arith, length-drop 4 bytes, four)) in
    (number_takes 4 bytes (little_number 4 bytes) (drop 4 bytes) fits read).0.parts
    ∙ ap (λ (l : List ℕ). number_bytes 4 (little_number 4 bytes) ++ l) none
    ∙ append-nil (number_bytes 4 (little_number 4 bytes))
