-- The NULLs of a frame: which offset leads to 0, and rows and their cells by their indexes.
use Rattle.std.proofs.Common.{◌≡◌, ◌≢◌, ℕ, suc, ◌+◌, ◌%◌, ◌^◌, ◌<◌, ℤ, pos, negsuc, ◌+ℤ◌, Bool, true, false, not, ◌&&◌, ◌||◌, ◌==◌, List, [], ◌∷◌, length, get_or, map, zip, refl, sym, ap, ◌∙◌, arith, of_z, w64}
use Rattle.std.specs.List.{list_all, range_with_len}
use Rattle.std.specs.Int.RustNames.{FitsSigned}
use Rattle.std.proofs.lemmas.Bool.Decides.{same_from_decides, Decides-eqb, Decides-ltb}
use Rattle.std.proofs.lemmas.Int.{ints}
use Rattle.meaning.specs.Operators.{fits_i64}
use Rattle.meaning.specs.declared.value.ColType.TheVariants as of_type
use Rattle.meaning.specs.declared.value.Value.{Value}
use Rattle.meaning.specs.declared.value.Value.TheVariants.{Null, Int}
use Rattle.blocks.specs.declared.kind.Kind.TheVariants as kind
use Rattle.bit_packing.specs.Bits.{bit_at}
use Rattle.bit_packing.specs.Offsets.{offset_at}
use Rattle.blocks.specs.Block.{are_blank_from, is_blank}
use Rattle.blocks.specs.Frame.{base_of, frame_integers, is_frame, packed_of, width_of}
use Rattle.blocks.proofs.Frames.{frame_fits, frame_value}
use Rattle.blocks.proofs.Nulls.{bits_of, frame_cell_is, length_pairs, pair_is}

-- ---- the offset that leads to 0

same_tests : (a b c d : ℕ) → (a ≡ b → c ≡ d) → (c ≡ d → a ≡ b) → (a == b) ≡ (c == d)
same_tests a b c d to back =
    same_from_decides (a == b) (c == d) (Decides-eqb a b) (λ e. back ((Decides-eqb c d).0 e), λ e. (Decides-eqb c d).1 (to e))

at_zero : (n offset t : ℕ) (z : ℤ) → z ≡ negsuc n +ℤ pos offset → t ≡ suc n → is_blank (Int z) ≡ (offset == t)
at_zero n offset t (pos m) e f = same_tests m 0 offset t (λ h. omega (arith, ints)) (λ h. omega (arith, ints))
at_zero n offset t (negsuc m) e f =
    let other : offset ≢ t = omega (arith, ints) in
    elim (offset == t) as (λ r. (offset == t) ≡ r → false ≡ r) [ true ↦ λ h. absurd (other ((Decides-eqb offset t).0 h)) | false ↦ λ h. refl ] refl

pub leads_to_zero : (z : ℤ) (offset u t : ℕ) → FitsSigned w64 z → u ≡ of_z w64 z → t < 2 ^ 64 → (t + u) % 2 ^ 64 ≡ 0 → fits_i64 (z +ℤ pos offset) ≡ true → is_blank (Int (z +ℤ pos offset)) ≡ (offset == t)
leads_to_zero (pos n) offset u t f is small e fit =
    let below : n + offset < 9223372036854775808 = (Decides-ltb (n + offset) 9223372036854775808).0 fit in
    same_tests (n + offset) 0 offset t (λ h. omega arith) (λ h. omega arith)
leads_to_zero (negsuc n) offset u t f is small e fit =
    let low : n < 9223372036854775808 = f.sfits in
    at_zero n offset t (negsuc n +ℤ pos offset) refl (omega arith)

-- ---- rows by their indexes

all_by_index : {X : Type 0} (p : X → Bool) (q : ℕ → Bool) (xs : List X) (d : X) (a : ℕ) → ((i : ℕ) → i < length xs → p (get_or xs i d) ≡ q (a + i)) → list_all p xs ≡ list_all q (range_with_len a (length xs))
all_by_index p q [] d a same = refl
all_by_index p q (x ∷ xs) d a same =
    let first : p x ≡ q a = same 0 (omega arith) ∙ ap q (omega arith) in
    ap (λ b. b && list_all p xs) first
    ∙ ap (λ b. q a && b) (all_by_index p q xs d (a + 1) (λ i h. same (suc i) (omega arith) ∙ ap q (omega arith)))

module _ (rows : ℕ) (mask body : List ℕ) (form : is_frame rows body ≡ true) (t : ℕ) (leads : (offset : ℕ) → fits_i64 (base_of body +ℤ pos offset) ≡ true → is_blank (Int (base_of body +ℤ pos offset)) ≡ (offset == t)) where
  abbrev cells : List Value
  cells = map Int (frame_integers rows body)

  at_index : (i : ℕ) → i < rows → is_blank (get_or cells i Null) ≡ (offset_at (width_of body) (packed_of body) i == t)
  at_index i h =
      ap is_blank (sym (frame_cell_is kind.Frame of_type.Int rows i body (base_of body +ℤ pos (offset_at (width_of body) (packed_of body) i)) refl h (sym (frame_value rows i body h))))
      ∙ leads (offset_at (width_of body) (packed_of body) i) (frame_fits rows i body form h)

  pub marked_are_blank : list_all (λ i. not (bit_at mask i) || offset_at (width_of body) (packed_of body) i == t) (range_with_len 0 rows) ≡ are_blank_from 0 rows mask cells
  marked_are_blank =
      let long = length_pairs kind.Frame of_type.Int rows mask body form in
      let pairs : List (Bool × Value) = zip (bits_of rows mask) cells in
      let q : ℕ → Bool = λ i. not (bit_at mask i) || offset_at (width_of body) (packed_of body) i == t in
      sym (all_by_index (λ (p : Bool × Value). not p.0 || is_blank p.1) q pairs (false, Null) 0
      (λ i h. let here : i < rows = omega arith in
      sym (pair_is kind.Frame of_type.Int rows mask body form i here)
      ∙ ap (λ b. not (bit_at mask i) || b) (at_index i here) ∙ ap q (let e : i ≡ 0 + i = omega arith in e))
      ∙ ap (λ n. list_all q (range_with_len 0 n)) long)
