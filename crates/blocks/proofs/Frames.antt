-- What makes bytes a frame, and the integers that its offsets give.
use Rattle.std.proofs.Common.{◌≡◌, ℕ, ◌+◌, ◌-◌, ◌*◌, ◌/◌, ◌^◌, ◌<◌, ◌≤◌, ℤ, pos, negsuc, ◌+ℤ◌, Bool, true, ◌&&◌, ◌||◌, ◌==◌, nat_le, nat_lt, List, length, get_or, take, map, sym, ap, ◌∙◌, arith}
use Rattle.std.specs.List.{list_any, list_all, range_with_len}
use Rattle.std.proofs.lemmas.Bool.Decides.{Decides-ltb, Decides-eqb}
use mir.Syntax.{w128}
use mir.Val.{to_z, of_z}
use Rattle.std.specs.Int.RustNames.{FitsSigned}
use Rattle.std.proofs.lemmas.Int.{to_z-of_z}
use Rattle.std.proofs.lemmas.List.{get_or-map, length-map}
use Rattle.std.proofs.lemmas.List.Folds.{list_all_more}
use Rattle.std.proofs.lemmas.List.FromFn.{get_or-map-range_with_len, length-range_with_len}
use Rattle.meaning.specs.Operators.{fits_i64}
use Rattle.bit_packing.specs.Bits.{bytes_of_bits}
use Rattle.bit_packing.specs.Offsets.{offset_at}
use Rattle.blocks.specs.Frame.{offsets_of, frame_integers, is_frame, base_of, width_of, packed_of}
use Rattle.bit_packing.specs.Bytes.{number_of}
use Rattle.blocks.proofs.RowCells.{all_at}
use Rattle.bit_packing.proofs.Steps.{both_true}
use Rattle.bit_packing.proofs.Fits.{Decides-leb}

pub all_more : (p : ℕ → Bool) (xs : List ℕ) (i x : ℕ) (r b : Bool) → i < length xs → x ≡ get_or xs i 0 → r ≡ list_all p (take i xs) → b ≡ p x → (r && b) ≡ list_all p (take (i + 1) xs)
all_more p xs i x r b h read known test =
    ap (λ k. k && b) known ∙ ap (λ k. list_all p (take i xs) && k) (test ∙ ap p read) ∙ sym (list_all_more p xs i 0 h)

-- ---- a frame as its definition tests it

abbrev pub are_offsets : ℕ → ℕ → List ℕ → ℤ → Bool
are_offsets rows width packed base =
    list_any (λ offset. offset == 0) (map (offset_at width packed) (range_with_len 0 rows))
    && ((width == 0 || list_any (λ offset. nat_le (2 ^ (width - 1)) offset) (map (offset_at width packed) (range_with_len 0 rows)))
    && list_all fits_i64 (map (λ offset. base +ℤ pos offset) (map (offset_at width packed) (range_with_len 0 rows))))

under : (a b r : Bool) → a ≡ true → r ≡ b → r ≡ (a && b)
under a b r e h = h ∙ ap (λ k. k && b) (sym e)

pub frame_is : (rows width : ℕ) (body packed : List ℕ) (base : ℤ) (r : Bool) → 9 ≤ length body → width ≡ width_of body → packed ≡ packed_of body → base ≡ base_of body → width ≤ 64 → length packed ≡ (rows * width + 7) / 8 → nat_lt (number_of packed) (2 ^ (rows * width)) ≡ true → r ≡ are_offsets rows width packed base → r ≡ is_frame rows body
frame_is rows width body packed base r long w p b narrow exact clear known =
    let short : width_of body ≤ 64 = omega arith in
    let exact_here : length (packed_of body) ≡ bytes_of_bits (rows * width_of body) = ap length (sym p) ∙ exact ∙ ap (λ k. (rows * k + 7) / 8) w in
    let clear_here : nat_lt (number_of (packed_of body)) (2 ^ (rows * width_of body)) ≡ true = ap (λ k. nat_lt (number_of (packed_of body)) (2 ^ (rows * k))) (sym w) ∙ ap (λ k. nat_lt (number_of k) (2 ^ (rows * width))) (sym p) ∙ clear in
    let known_here : r ≡ are_offsets rows (width_of body) (packed_of body) (base_of body) = known ∙ ap (λ k. are_offsets rows k packed base) w ∙ ap (λ k. are_offsets rows (width_of body) k base) p ∙ ap (λ k. are_offsets rows (width_of body) (packed_of body) k) b in
    under (nat_le 9 (length body)) _ r ((Decides-leb 9 (length body)).1 long)
    (under (nat_le (width_of body) 64) _ r ((Decides-leb (width_of body) 64).1 short)
    (under (length (packed_of body) == bytes_of_bits (rows * width_of body)) _ r ((Decides-eqb (length (packed_of body)) (bytes_of_bits (rows * width_of body))).1 exact_here)
    (under (nat_lt (number_of (packed_of body)) (2 ^ (rows * width_of body))) _ r clear_here known_here)))

-- ---- one integer

pub frame_value : (rows row : ℕ) (body : List ℕ) → row < rows → get_or (frame_integers rows body) row (pos 0) ≡ base_of body +ℤ pos (offset_at (width_of body) (packed_of body) row)
frame_value rows row body h =
    let long = length-map (range_with_len 0 rows) (offset_at (width_of body) (packed_of body)) in
    let many = length-range_with_len 0 rows in
    get_or-map (λ offset. base_of body +ℤ pos offset) (offsets_of rows body) row 0 (pos 0) (omega arith)
    ∙ ap (λ offset. base_of body +ℤ pos offset) (get_or-map-range_with_len (offset_at (width_of body) (packed_of body)) 0 rows row row 0 h (omega arith))

last_true : (a b c d e f g : Bool) → (a && (b && (c && (d && (e && (f && g)))))) ≡ true → g ≡ true
last_true a b c d e f g h =
    let h1 = both_true a (b && (c && (d && (e && (f && g))))) h in
    let h2 = both_true b (c && (d && (e && (f && g)))) h1.1 in
    let h3 = both_true c (d && (e && (f && g))) h2.1 in
    let h4 = both_true d (e && (f && g)) h3.1 in
    let h5 = both_true e (f && g) h4.1 in
    (both_true f g h5.1).1

pub frame_fits : (rows row : ℕ) (body : List ℕ) → is_frame rows body ≡ true → row < rows → fits_i64 (base_of body +ℤ pos (offset_at (width_of body) (packed_of body) row)) ≡ true
frame_fits rows row body e h =
    let long = length-map (range_with_len 0 rows) (offset_at (width_of body) (packed_of body)) in
    let longer = length-map (offsets_of rows body) (λ offset. base_of body +ℤ pos offset) in
    let many = length-range_with_len 0 rows in
    let all = last_true (nat_le 9 (length body)) (nat_le (width_of body) 64) (length (packed_of body) == bytes_of_bits (rows * width_of body)) (nat_lt (number_of (packed_of body)) (2 ^ (rows * width_of body))) (list_any (λ offset. offset == 0) (offsets_of rows body)) (width_of body == 0 || list_any (λ offset. nat_le (2 ^ (width_of body - 1)) offset) (offsets_of rows body)) (list_all fits_i64 (frame_integers rows body)) e in
    ap fits_i64 (sym (frame_value rows row body h)) ∙ all_at fits_i64 (frame_integers rows body) row (pos 0) (omega arith) all

-- ---- the sum of a base and an offset, computed in 128 bits

fits_128 : (z : ℤ) → fits_i64 z ≡ true → FitsSigned w128 z
fits_128 (pos n) e = let h : n < 9223372036854775808 = (Decides-ltb n 9223372036854775808).0 e in record { sfits = omega arith }
fits_128 (negsuc n) e = let h : n < 9223372036854775808 = (Decides-ltb n 9223372036854775808).0 e in record { sfits = omega arith }

pub wide_sum : (a b z : ℤ) → FitsSigned w128 a → FitsSigned w128 b → a +ℤ b ≡ z → fits_i64 z ≡ true → to_z w128 (of_z w128 (to_z w128 (of_z w128 a) +ℤ to_z w128 (of_z w128 b))) ≡ z
wide_sum a b z f g e h =
    ap (λ k. to_z w128 (of_z w128 (k +ℤ to_z w128 (of_z w128 b)))) (to_z-of_z w128 a f) ∙ ap (λ k. to_z w128 (of_z w128 (a +ℤ k))) (to_z-of_z w128 b g) ∙ ap (λ k. to_z w128 (of_z w128 k)) e ∙ to_z-of_z w128 z (fits_128 z h)
