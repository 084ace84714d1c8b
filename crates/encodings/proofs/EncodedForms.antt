-- Numbers, integers and texts that are written are read again.
use Rattle.std.proofs.Common.{◌≡◌, ℕ, ◌+◌, ◌-◌, ◌*◌, ◌^◌, ◌<◌, ◌≤◌, ℤ, pos, negsuc, Bool, true, List, [], ◌∷◌, ◌++◌, length, map, take, drop, get_or, refl, sym, ap, ◌∙◌, suc, zero, arith, append_assoc, length-append, zero-add}
use Rattle.std.specs.Prelude.{nat_lt, nat_le}
use Rattle.std.specs.List.{concat, list_all, flat_map}
use Rattle.std.specs.Int.{w16, w32, w64, from_le_bytes, cast_signed, cast_unsigned}
use Rattle.std.specs.Simd.{first_chunks}
use Rattle.std.proofs.lemmas.Bool.{ltb-true, leb-true}
use Rattle.std.specs.Str.{is_utf8}
use Rattle.columns.specs.Column.{is_text}
use Rattle.std.proofs.lemmas.Int.{to_z-of_z}
use Rattle.std.proofs.lemmas.List.{take_at, drop_at, append-nil, drop-drop, length-drop, take_more, take_all, get_or-drop, get_or-take, map-append}
use Rattle.std.proofs.lemmas.List.Concat.{flat_map-append}
use Rattle.std.proofs.lemmas.List.Folds.{concat-append}
use Rattle.columns.specs.Texts.{ends_from}
use Rattle.columns.proofs.Joined.{ends-push}
use Rattle.std.proofs.lemmas.Nat.{from_le_bytes-to_le_bytes_2, from_le_bytes-to_le_bytes_4, from_le_bytes-to_le_bytes_8}
use Rattle.meaning.specs.Limits.{max_text_bytes}
use mir.Val.{SFits}
use Rattle.meaning.specs.Operators.{fits_i64}
use Rattle.meaning.proofs.Tests.{all_first, all_rest, second_of}
use Rattle.bit_packing.specs.Bytes.{shorts, words, integers, integer_of}
use Rattle.blocks.specs.Numbers.{short_bytes, word_bytes, integer_bytes}

-- what is written with a fixed length is cut again
pub chunks_read : {X : Type 0} (f : X → List ℕ) (w : ℕ) → ((x : X) → length (f x) ≡ w) → (xs : List X) (rest : List ℕ) → first_chunks w (length xs) (flat_map f xs ++ rest) ≡ map f xs
chunks_read f w h [] rest = refl
chunks_read f w h (x ∷ xs) rest =
    let cut : take w (f x ++ (flat_map f xs ++ rest)) ≡ f x = take_at (f x) (flat_map f xs ++ rest) w (h x) in
    let left : drop w (f x ++ (flat_map f xs ++ rest)) ≡ flat_map f xs ++ rest = drop_at (f x) (flat_map f xs ++ rest) w (h x) in
    rw (append_assoc (f x) (flat_map f xs) rest, cut, left, chunks_read f w h xs rest) refl

pub chunks_behind : {X : Type 0} (f : X → List ℕ) (w : ℕ) → ((x : X) → length (f x) ≡ w) → (xs : List X) (rest : List ℕ) → drop (w * length xs) (flat_map f xs ++ rest) ≡ rest
chunks_behind f w h [] rest = let e : w * 0 ≡ 0 = omega arith in rw e refl
chunks_behind f w h (x ∷ xs) rest =
    let e : w * suc (length xs) ≡ w + w * length xs = omega arith in
    rw (e, append_assoc (f x) (flat_map f xs) rest, ← drop-drop (w * length xs) w (f x ++ (flat_map f xs ++ rest)), drop_at (f x) (flat_map f xs ++ rest) w (h x)) (chunks_behind f w h xs rest)

pub length-chunks : {X : Type 0} (f : X → List ℕ) (w : ℕ) → ((x : X) → length (f x) ≡ w) → (xs : List X) → length (flat_map f xs) ≡ w * length xs
length-chunks f w h [] = let e : w * 0 ≡ 0 = omega arith in rw e refl
length-chunks f w h (x ∷ xs) =
    let e : w * suc (length xs) ≡ w + w * length xs = omega arith in
    rw (length-append (f x) (flat_map f xs), h x, length-chunks f w h xs) (sym e)

pub length-short_bytes : (n : ℕ) → length (short_bytes n) ≡ 2
unfolding short_bytes
length-short_bytes n = refl

pub length-word_bytes : (n : ℕ) → length (word_bytes n) ≡ 4
unfolding word_bytes
length-word_bytes n = refl

pub length-integer_bytes : (n : ℤ) → length (integer_bytes n) ≡ 8
unfolding integer_bytes
length-integer_bytes n = refl

pub short_read : (n : ℕ) → n < 2 ^ 16 → from_le_bytes w16 (short_bytes n) ≡ n
unfolding short_bytes
short_read n h = from_le_bytes-to_le_bytes_2 n h

pub word_read : (n : ℕ) → n < 2 ^ 32 → from_le_bytes w32 (word_bytes n) ≡ n
unfolding word_bytes
word_read n h = from_le_bytes-to_le_bytes_4 n h

fits_word : (z : ℤ) → fits_i64 z ≡ true → SFits w64 z
fits_word (pos n) e = record { sfits = ltb-true n (2 ^ 63) e }
fits_word (negsuc n) e = record { sfits = ltb-true n (2 ^ 63) e }

unsigned_below : (n : ℤ) → fits_i64 n ≡ true → cast_unsigned w64 n < 2 ^ 64
unsigned_below (pos n) h = let l : n < 2 ^ 63 = ltb-true n (2 ^ 63) h in omega arith
unsigned_below (negsuc n) h = let l : n < 2 ^ 63 = ltb-true n (2 ^ 63) h in omega arith

pub integer_read : (n : ℤ) → fits_i64 n ≡ true → integer_of (integer_bytes n) ≡ n
unfolding integer_bytes
integer_read n h = ap (cast_signed w64) (from_le_bytes-to_le_bytes_8 (cast_unsigned w64 n) (unsigned_below n h)) ∙ to_z-of_z w64 n (fits_word n h)

-- ---- lists of numbers

pub map_twice : {X Y Z : Type 0} (f : X → Y) (g : Y → Z) (xs : List X) → map g (map f xs) ≡ map (λ x. g (f x)) xs
map_twice f g [] = refl
map_twice f g (x ∷ xs) = ap (λ ys. g (f x) ∷ ys) (map_twice f g xs)

pub all_map_same : {X : Type 0} (p : X → Bool) (f : X → X) → ((x : X) → p x ≡ true → f x ≡ x) → (xs : List X) → list_all p xs ≡ true → map f xs ≡ xs
all_map_same p f h [] e = refl
all_map_same p f h (x ∷ xs) e =
    let a = h x (all_first p x xs e) in
    let b = all_map_same p f h xs (all_rest p x xs e) in
    cc

pub words_read : (ns : List ℕ) (rest : List ℕ) → list_all (λ n. nat_lt n (2 ^ 32)) ns ≡ true → words (length ns) (flat_map word_bytes ns ++ rest) ≡ ns
words_read ns rest h =
    ap (map (from_le_bytes w32)) (chunks_read word_bytes 4 length-word_bytes ns rest) ∙ (map_twice word_bytes (from_le_bytes w32) ns
    ∙ all_map_same (λ n. nat_lt n (2 ^ 32)) (λ n. from_le_bytes w32 (word_bytes n)) (λ n e. word_read n (ltb-true n (2 ^ 32) e)) ns h)

pub shorts_read : (ns : List ℕ) (rest : List ℕ) → list_all (λ n. nat_lt n (2 ^ 16)) ns ≡ true → shorts (length ns) (flat_map short_bytes ns ++ rest) ≡ ns
shorts_read ns rest h =
    ap (map (from_le_bytes w16)) (chunks_read short_bytes 2 length-short_bytes ns rest) ∙ (map_twice short_bytes (from_le_bytes w16) ns
    ∙ all_map_same (λ n. nat_lt n (2 ^ 16)) (λ n. from_le_bytes w16 (short_bytes n)) (λ n e. short_read n (ltb-true n (2 ^ 16) e)) ns h)

pub integers_read : (ns : List ℤ) (rest : List ℕ) → list_all fits_i64 ns ≡ true → integers (length ns) (flat_map integer_bytes ns ++ rest) ≡ ns
integers_read ns rest h =
    ap (map integer_of) (chunks_read integer_bytes 8 length-integer_bytes ns rest) ∙ (map_twice integer_bytes integer_of ns
    ∙ all_map_same fits_i64 (λ n. integer_of (integer_bytes n)) integer_read ns h)

-- ---- rows one after the other

pub window_more : {X : Type 0} (xs : List X) (from row : ℕ) (d : X) → from ≤ row → row < length xs → take (row + 1 - from) (drop from xs) ≡ take (row - from) (drop from xs) ++ get_or xs row d ∷ []
window_more xs from row d h l =
    let e : row + 1 - from ≡ (row - from) + 1 = omega arith in
    let long : row - from < length (drop from xs) = omega (arith, length-drop from xs) in
    let row_is : from + (row - from) ≡ row = omega arith in
    let same : get_or (drop from xs) (row - from) d ≡ get_or xs row d = get_or-drop from xs (row - from) d ∙ ap (λ k. get_or xs k d) row_is in
    rw (e, take_more (drop from xs) (row - from) d long, same) refl

-- one more end behind those that are written
pub ends_more : (ts : List (List ℕ)) (t : List ℕ) → flat_map word_bytes (ends_from 0 (ts ++ t ∷ [])) ≡ flat_map word_bytes (ends_from 0 ts) ++ word_bytes (length (concat ts) + length t)
ends_more ts t =
    let e : ends_from 0 (ts ++ t ∷ []) ≡ ends_from 0 ts ++ (length (concat ts) + length t) ∷ [] = simp zero-add at (ends-push 0 ts t) in
    ap (flat_map word_bytes) e ∙ (flat_map-append word_bytes (ends_from 0 ts) ((length (concat ts) + length t) ∷ []) ∙ ap (λ xs. flat_map word_bytes (ends_from 0 ts) ++ xs) (append-nil (word_bytes (length (concat ts) + length t))))

pub length-more : (ts : List (List ℕ)) (t : List ℕ) → length (concat (ts ++ t ∷ [])) ≡ length (concat ts) + length t
length-more ts t = rw (concat-append ts (t ∷ []), append-nil t) (length-append (concat ts) t)

pub ends_step : (xs : List (List ℕ)) (from row end : ℕ) (t before now new : List ℕ) → from ≤ row → row < length xs → t ≡ get_or xs row [] → end ≡ length (concat (take (row - from) (drop from xs))) → now ≡ before ++ flat_map word_bytes (ends_from 0 (take (row - from) (drop from xs))) → new ≡ now ++ word_bytes (end + length t) → (end + length t ≡ length (concat (take (row + 1 - from) (drop from xs)))) × (new ≡ before ++ flat_map word_bytes (ends_from 0 (take (row + 1 - from) (drop from xs))))
ends_step xs from row end t before now new h l e n w p =
    let ts = take (row - from) (drop from xs) in
    let more : take (row + 1 - from) (drop from xs) ≡ ts ++ t ∷ [] = rw e (window_more xs from row [] h l) in
    let sum : end + length t ≡ length (concat ts) + length t = ap (λ k. k + length t) n in
    let all : new ≡ before ++ (flat_map word_bytes (ends_from 0 ts) ++ word_bytes (length (concat ts) + length t)) =
    p ∙ (ap (λ ys. ys ++ word_bytes (end + length t)) w ∙ (append_assoc before (flat_map word_bytes (ends_from 0 ts)) (word_bytes (end + length t)) ∙ ap (λ k. before ++ (flat_map word_bytes (ends_from 0 ts) ++ word_bytes k)) sum)) in
    (sum ∙ (sym (length-more ts t) ∙ ap (λ ys. length (concat ys)) (sym more)), all ∙ (ap (λ ys. before ++ ys) (sym (ends_more ts t)) ∙ ap (λ ys. before ++ flat_map word_bytes (ends_from 0 ys)) (sym more)))

pub text_short : (t : List ℕ) → is_text t ≡ true → length t ≤ max_text_bytes
text_short t e = leb-true (length t) max_text_bytes (second_of (is_utf8 t) (nat_le (length t) max_text_bytes) e)

-- ---- texts at some indexes

pub window_at : {X : Type 0} (xs : List X) (from to index : ℕ) (d : X) → index < to - from → get_or (take (to - from) (drop from xs)) index d ≡ get_or xs (from + index) d
window_at xs from to index d h = get_or-take (to - from) (drop from xs) index d h ∙ get_or-drop from xs index d

map_more : {X Y : Type 0} (f : X → Y) (xs : List X) (i : ℕ) (d : X) → i < length xs → map f (take (i + 1) xs) ≡ map f (take i xs) ++ f (get_or xs i d) ∷ []
map_more f xs i d h = ap (map f) (take_more xs i d h) ∙ map-append f (take i xs) (get_or xs i d ∷ [])

pub ends_at_step : (f : ℕ → List ℕ) (indexes : List ℕ) (i end : ℕ) (t before now new : List ℕ) → i < length indexes → t ≡ f (get_or indexes i 0) → end ≡ length (concat (map f (take i indexes))) → now ≡ before ++ flat_map word_bytes (ends_from 0 (map f (take i indexes))) → new ≡ now ++ word_bytes (end + length t) → (end + length t ≡ length (concat (map f (take (i + 1) indexes)))) × (new ≡ before ++ flat_map word_bytes (ends_from 0 (map f (take (i + 1) indexes))))
ends_at_step f indexes i end t before now new h e n w p =
    let ts = map f (take i indexes) in
    let more : map f (take (i + 1) indexes) ≡ ts ++ t ∷ [] = map_more f indexes i 0 h ∙ ap (λ u. ts ++ u ∷ []) (sym e) in
    let sum : end + length t ≡ length (concat ts) + length t = ap (λ k. k + length t) n in
    let all : new ≡ before ++ (flat_map word_bytes (ends_from 0 ts) ++ word_bytes (length (concat ts) + length t)) =
    p ∙ (ap (λ ys. ys ++ word_bytes (end + length t)) w ∙ (append_assoc before (flat_map word_bytes (ends_from 0 ts)) (word_bytes (end + length t)) ∙ ap (λ k. before ++ (flat_map word_bytes (ends_from 0 ts) ++ word_bytes k)) sum)) in
    (sum ∙ (sym (length-more ts t) ∙ ap (λ ys. length (concat ys)) (sym more)), all ∙ (ap (λ ys. before ++ ys) (sym (ends_more ts t)) ∙ ap (λ ys. before ++ flat_map word_bytes (ends_from 0 ys)) (sym more)))

pub joined_at_step : (f : ℕ → List ℕ) (indexes : List ℕ) (i : ℕ) (t before now new : List ℕ) → i < length indexes → t ≡ f (get_or indexes i 0) → now ≡ before ++ concat (map f (take i indexes)) → new ≡ now ++ t → new ≡ before ++ concat (map f (take (i + 1) indexes))
joined_at_step f indexes i t before now new h e w p =
    let ts = map f (take i indexes) in
    let more : map f (take (i + 1) indexes) ≡ ts ++ t ∷ [] = map_more f indexes i 0 h ∙ ap (λ u. ts ++ u ∷ []) (sym e) in
    let one : concat (ts ++ t ∷ []) ≡ concat ts ++ t = concat-append ts (t ∷ []) ∙ ap (λ u. concat ts ++ u) (append-nil t) in
    p ∙ (ap (λ ys. ys ++ t) w ∙ (append_assoc before (concat ts) t ∙ ap (λ ys. before ++ ys) (sym one ∙ ap concat (sym more))))

pub all_indexes : {Y : Type 0} (g : List (List ℕ) → Y) (f : ℕ → List ℕ) (indexes : List ℕ) (i : ℕ) → length indexes ≤ i → g (map f (take i indexes)) ≡ g (map f indexes)
all_indexes g f indexes i h = ap (λ ps. g (map f ps)) (take_all i indexes h)

pub index_below : (indexes : List ℕ) (n i : ℕ) → list_all (λ index. nat_lt index n) indexes ≡ true → i < length indexes → get_or indexes i 0 < n
index_below [] n i e h = absurd (omega arith)
index_below (index ∷ indexes) n zero e h = ltb-true index n (all_first (λ at. nat_lt at n) index indexes e)
index_below (index ∷ indexes) n (suc i) e h = index_below indexes n i (all_rest (λ at. nat_lt at n) index indexes e) (omega arith)
