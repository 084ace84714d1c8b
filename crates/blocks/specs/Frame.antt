-- A frame of reference: a base, a width in bits, and an offset of that width for each row.
use Rattle.std.specs.Prelude.{ℕ, ◌-◌, ◌*◌, ◌^◌, ◌==◌, nat_lt, nat_le, ℤ, pos, negsuc, ◌+ℤ◌, Bool, ◌&&◌, ◌||◌, List, [], ◌∷◌, length, map, take, drop, get_or, ◌-ℤ◌}
use Rattle.std.specs.List.{list_all, list_any, range_with_len}
use Rattle.meaning.specs.Operators.{fits_i64}
use Rattle.bit_packing.specs.Bytes.{number_of, integer_of}
use Rattle.bit_packing.specs.Offsets.{offset_at}
use Rattle.bit_packing.specs.Bits.{bytes_of_bits}
use Rattle.std.specs.Ordering.{int_cmp, ord_min, ord_max}

abbrev pub base_of : List ℕ → ℤ
base_of body = integer_of (take 8 body)

abbrev pub width_of : List ℕ → ℕ
width_of body = get_or body 8 0

abbrev pub packed_of : List ℕ → List ℕ
packed_of body = drop 9 body

abbrev pub offsets_of : ℕ → List ℕ → List ℕ
offsets_of rows body = map (offset_at (width_of body) (packed_of body)) (range_with_len 0 rows)

abbrev pub frame_integers : ℕ → List ℕ → List ℤ
frame_integers rows body = map (λ offset. base_of body +ℤ pos offset) (offsets_of rows body)

-- the base is the least value, so that some offset is 0; no lesser width holds the greatest offset; the integers are
-- within 64 bits, and the bits behind the last offset are 0
abbrev pub is_frame : ℕ → List ℕ → Bool
is_frame rows body =
    nat_le 9 (length body)
    && (nat_le (width_of body) 64
    && (length (packed_of body) == bytes_of_bits (rows * width_of body)
    && (nat_lt (number_of (packed_of body)) (2 ^ (rows * width_of body))
    && (list_any (λ offset. offset == 0) (offsets_of rows body)
    && ((width_of body == 0 || list_any (λ offset. nat_le (2 ^ (width_of body - 1)) offset) (offsets_of rows body))
    && list_all fits_i64 (frame_integers rows body))))))

abbrev pub least_of : ℤ → List ℤ → ℤ
least_of n [] = n
least_of n (m ∷ ms) = ord_min int_cmp n (least_of m ms)

abbrev pub greatest_of : ℤ → List ℤ → ℤ
greatest_of n [] = n
greatest_of n (m ∷ ms) = ord_max int_cmp n (greatest_of m ms)

-- the distance of an integer from one that is no greater
abbrev pub natural : ℤ → ℕ
natural (pos n) = n
natural (negsuc n) = 0

-- how far the greatest integer is from the least
abbrev pub span : List ℤ → ℕ
span [] = 0
span (n ∷ ns) = natural (greatest_of n ns -ℤ least_of n ns)

-- the least and the greatest of some integers
abbrev pub least_in : List ℤ → ℤ
least_in [] = pos 0
least_in (n ∷ ns) = least_of n ns

abbrev pub greatest_in : List ℤ → ℤ
greatest_in [] = pos 0
greatest_in (n ∷ ns) = greatest_of n ns
