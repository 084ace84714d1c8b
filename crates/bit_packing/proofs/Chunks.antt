-- The bytes of a number among those that stand one after the other.
use Rattle.std.proofs.Common.{◌≡◌, ℕ, zero, suc, ◌+◌, ◌*◌, ◌<◌, List, [], length, get_or, take, drop, pos, refl, ap, ◌∙◌, arith}
use Rattle.std.specs.Simd.{first_chunks}
use Rattle.std.specs.Int.{w16, w32, from_le_bytes}
use Rattle.std.proofs.lemmas.List.{drop-drop, get_or-map, length-map}
use Rattle.bit_packing.specs.Bytes.{shorts, words, integer_of, integers}

pub get_or-first_chunks : {X : Type 0} (n m i : ℕ) (xs : List X) → i < m → get_or (first_chunks n m xs) i [] ≡ take n (drop (n * i) xs)
get_or-first_chunks n zero i xs h = absurd (omega arith)
get_or-first_chunks n (suc m) zero xs h =
    let none : 0 ≡ n * 0 = omega arith in
    ap (λ k. take n (drop k xs)) none
get_or-first_chunks n (suc m) (suc i) xs h =
    let next : n + n * i ≡ n * suc i = omega arith in
    get_or-first_chunks n m i (drop n xs) (omega arith) ∙ ap (take n) (drop-drop (n * i) n xs ∙ ap (λ k. drop k xs) next)

pub length-first_chunks : {X : Type 0} (n m : ℕ) (xs : List X) → length (first_chunks n m xs) ≡ m
length-first_chunks n zero xs = refl
length-first_chunks n (suc m) xs = ap suc (length-first_chunks n m (drop n xs))

pub get_or-shorts : (m i : ℕ) (bytes : List ℕ) → i < m → get_or (shorts m bytes) i 0 ≡ from_le_bytes w16 (take 2 (drop (2 * i) bytes))
get_or-shorts m i bytes h =
    let e = length-first_chunks 2 m bytes in
    get_or-map (from_le_bytes w16) (first_chunks 2 m bytes) i [] 0 (omega arith) ∙ ap (from_le_bytes w16) (get_or-first_chunks 2 m i bytes h)

pub get_or-words : (m i : ℕ) (bytes : List ℕ) → i < m → get_or (words m bytes) i 0 ≡ from_le_bytes w32 (take 4 (drop (4 * i) bytes))
get_or-words m i bytes h =
    let e = length-first_chunks 4 m bytes in
    get_or-map (from_le_bytes w32) (first_chunks 4 m bytes) i [] 0 (omega arith) ∙ ap (from_le_bytes w32) (get_or-first_chunks 4 m i bytes h)

pub get_or-integers : (m i : ℕ) (bytes : List ℕ) → i < m → get_or (integers m bytes) i (pos 0) ≡ integer_of (take 8 (drop (8 * i) bytes))
get_or-integers m i bytes h =
    let e = length-first_chunks 8 m bytes in
    get_or-map integer_of (first_chunks 8 m bytes) i [] (pos 0) (omega arith) ∙ ap integer_of (get_or-first_chunks 8 m i bytes h)

pub length-shorts : (m : ℕ) (bytes : List ℕ) → length (shorts m bytes) ≡ m
length-shorts m bytes = length-map (first_chunks 2 m bytes) (from_le_bytes w16) ∙ length-first_chunks 2 m bytes

pub length-words : (m : ℕ) (bytes : List ℕ) → length (words m bytes) ≡ m
length-words m bytes = length-map (first_chunks 4 m bytes) (from_le_bytes w32) ∙ length-first_chunks 4 m bytes

pub length-integers : (m : ℕ) (bytes : List ℕ) → length (integers m bytes) ≡ m
length-integers m bytes = length-map (first_chunks 8 m bytes) integer_of ∙ length-first_chunks 8 m bytes
