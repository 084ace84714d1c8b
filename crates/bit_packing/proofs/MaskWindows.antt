-- The bits of a mask in eight bytes that are read as one number.
use Rattle.std.proofs.Common.{◌≡◌, ℕ, ◌+◌, ◌*◌, ◌/◌, ◌%◌, ◌^◌, ◌<◌, List, [], ◌∷◌, get_or, take, drop, refl, sym, ap, ◌∙◌, arith}
use Rattle.std.proofs.lemmas.List.{get_or-drop}
use Rattle.bit_packing.specs.Bytes.{number_of}
use Rattle.bit_packing.proofs.UnpackNumbers.{AreBytes, digit-take, offset_at-drop}

abbrev pub bit_of : List ℕ → ℕ → ℕ
bit_of mask j = get_or mask (j / 8) 0 / 2 ^ (j % 8) % 2

abbrev pub window : ℕ → List ℕ → ℕ
window byte mask = number_of (take 8 (drop byte mask))

first_byte : (xs : List ℕ) → number_of (take 1 xs) ≡ get_or xs 0 0
first_byte [] = refl
first_byte (x ∷ xs) = omega arith

pub window_bit : (mask : List ℕ) (byte i : ℕ) → AreBytes mask → i < 64 → window byte mask / 2 ^ i % 2 ≡ bit_of mask (8 * byte + i)
window_bit mask byte i small h =
    let j = 8 * byte + i in
    let q = j / 8 in
    let s = j % 8 in
    let behind : AreBytes (drop byte mask) = λ k. rw get_or-drop (small (byte + k)) in
    let rest : AreBytes (drop q mask) = λ k. rw get_or-drop (small (q + k)) in
    sym (digit-take 8 1 i (drop byte mask) behind (omega arith))
    ∙ sym (offset_at-drop 1 byte i j mask small (omega arith))
    ∙ offset_at-drop 1 q s j mask small (omega arith)
    ∙ digit-take 1 1 s (drop q mask) rest (omega arith)
    ∙ ap (λ n. n / 2 ^ s % 2) (first_byte (drop q mask) ∙ get_or-drop q mask 0 0 ∙ ap (λ k. get_or mask k 0) (omega arith))
