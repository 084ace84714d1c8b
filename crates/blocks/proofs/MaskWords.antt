-- The bits of the mask by words, from which the lower bits are shifted out.
use Rattle.std.proofs.Common.{◌≡◌, ℕ, ◌+◌, ◌-◌, ◌*◌, ◌/◌, ◌%◌, ◌^◌, ◌<◌, ◌≤◌, Bool, true, false, not, ◌||◌, ◌==◌, List, ⊎_elim, get_or, drop, zip, sym, ap, ◌∙◌, arith}
use Rattle.std.specs.List.{list_all}
use Rattle.std.specs.Int.{w64, trailing_zeros}
use Rattle.std.proofs.lemmas.Nat.{shr-shr}
use Rattle.std.proofs.lemmas.Nat.Bits.{bit_at-trailing_zeros, bit_at-zero, bit_at_above}
use Rattle.std.proofs.lemmas.Bool.{cases_lt}
use Rattle.std.proofs.lemmas.List.{at_drop_all, get_or-drop}
use Rattle.meaning.specs.declared.value.ColType.{ColType}
use Rattle.meaning.specs.declared.value.Value.{Value}
use Rattle.meaning.specs.declared.value.Value.TheVariants.{Null}
use Rattle.blocks.specs.declared.kind.Kind.{Kind}
use Rattle.bit_packing.specs.Bits.{bit_at}
use Rattle.blocks.specs.Block.{body_cells, is_body, is_blank}
use Rattle.blocks.specs.Block.{are_blank_from}
use Rattle.blocks.proofs.Nulls.{bits_of, length_pairs, pair_is}
use Rattle.bit_packing.proofs.Steps.{all_skips, all_keeps, all_stops}
use Rattle.bit_packing.proofs.MaskWindows.{bit_of, window, window_bit}
use Rattle.bit_packing.proofs.UnpackNumbers.{AreBytes, number-front_below}

module _ (mask : List ℕ) (byte row marks : ℕ) (small : AreBytes mask) (low : 8 * byte ≤ row) (known : marks ≡ window byte mask / 2 ^ (row - 8 * byte)) where
  mark_is : (i : ℕ) → row - 8 * byte + i < 64 → marks / 2 ^ i % 2 ≡ bit_of mask (row + i)
  mark_is i h =
      ap (λ n. n / 2 ^ i % 2) known
      ∙ ap (λ n. n % 2) (shr-shr (window byte mask) (row - 8 * byte) i)
      ∙ window_bit mask byte (row - 8 * byte + i) small h
      ∙ ap (bit_of mask) (omega arith)

  mark_set : (i : ℕ) → row - 8 * byte + i < 64 → marks / 2 ^ i % 2 ≡ 1 → bit_at mask (row + i) ≡ true
  mark_set i h set = ap (λ n. n == 1) (sym (mark_is i h) ∙ set)

  mark_clear : (i : ℕ) → row - 8 * byte + i < 64 → marks / 2 ^ i % 2 ≡ 0 → bit_at mask (row + i) ≡ false
  mark_clear i h clear = ap (λ n. n == 1) (sym (mark_is i h) ∙ clear)

  -- no mark stands above the word
  mark_within : (i : ℕ) → marks / 2 ^ i % 2 ≡ 1 → row - 8 * byte + i < 64
  mark_within i set =
      let behind : AreBytes (drop byte mask) = λ k. rw get_or-drop (small (byte + k)) in
      let below : window byte mask < 2 ^ 64 = number-front_below 8 (drop byte mask) behind in
      let here : window byte mask / 2 ^ (row - 8 * byte + i) % 2 ≡ 1 = sym (ap (λ n. n / 2 ^ i % 2) known ∙ ap (λ n. n % 2) (shr-shr (window byte mask) (row - 8 * byte) i)) ∙ set in
      ⊎_elim (λ h. h) (λ h. (let none = bit_at_above (window byte mask) 64 (row - 8 * byte + i) below h in absurd (omega arith))) (cases_lt (row - 8 * byte + i) 64)

  -- the row of the lowest mark, and those before it
  pub next_mark : 0 < marks → marks < 2 ^ 64 → (row - 8 * byte + trailing_zeros w64 marks < 64) × (bit_at mask (row + trailing_zeros w64 marks) ≡ true) × ((i : ℕ) → i < trailing_zeros w64 marks → bit_at mask (row + i) ≡ false)
  next_mark some fits =
      let lowest = bit_at-trailing_zeros w64 marks some fits in
      let within = mark_within (trailing_zeros w64 marks) lowest.1 in
      (within, mark_set (trailing_zeros w64 marks) within lowest.1, λ i h. mark_clear i (omega arith) (lowest.2 i h))

  pub no_mark : marks ≡ 0 → (i : ℕ) → row - 8 * byte + i < 64 → bit_at mask (row + i) ≡ false
  no_mark none i h = mark_clear i h (ap (λ n. n / 2 ^ i % 2) none ∙ bit_at-zero i)

  pub shifted_more : (clear next : ℕ) → next ≡ row + clear + 1 → marks / 2 ^ clear / 2 ^ 1 ≡ window byte mask / 2 ^ (next - 8 * byte)
  shifted_more clear next e =
      ap (λ n. n / 2 ^ clear / 2 ^ 1) known
      ∙ ap (λ n. n / 2 ^ 1) (shr-shr (window byte mask) (row - 8 * byte) clear)
      ∙ shr-shr (window byte mask) (row - 8 * byte + clear) 1
      ∙ ap (λ k. window byte mask / 2 ^ k) (omega arith)

-- ---- rows and their cells

module _ (k : Kind) (col_type : ColType) (rows : ℕ) (mask body : List ℕ) (form : is_body k col_type rows body ≡ true) where
  abbrev cells : List Value
  cells = body_cells k col_type rows body

  abbrev pairs : List (Bool × Value)
  pairs = zip (bits_of rows mask) cells

  abbrev test : Bool × Value → Bool
  test p = not p.0 || is_blank p.1

  passes_clear : (j : ℕ) → j < rows → bit_at mask j ≡ false → test (get_or pairs j (false, Null)) ≡ true
  passes_clear j h clear =
      sym (pair_is k col_type rows mask body form j h) ∙ ap (λ b. not b || is_blank (get_or cells j Null)) clear

  at_set : (j : ℕ) (b : Bool) → j < rows → bit_at mask j ≡ true → is_blank (get_or cells j Null) ≡ b → test (get_or pairs j (false, Null)) ≡ b
  at_set j b h set e =
      sym (pair_is k col_type rows mask body form j h) ∙ ap (λ t. not t || is_blank (get_or cells j Null)) set ∙ e

  -- rows whose bits are clear
  pub clear_rows : (n row : ℕ) (r : Bool) → ((i : ℕ) → i < n → row + i < rows → bit_at mask (row + i) ≡ false) → are_blank_from row rows mask cells ≡ r → are_blank_from (row + n) rows mask cells ≡ r
  clear_rows n row r clear e =
      let long = length_pairs k col_type rows mask body form in
      all_skips test pairs (false, Null) r n row (λ j low high inside. (let at : row + (j - row) ≡ j = omega arith in passes_clear j (omega arith) (ap (bit_at mask) (sym at) ∙ clear (j - row) (omega arith) (omega arith)))) e

  -- a row whose bit is set
  pub set_row : (row next : ℕ) (r : Bool) → row < rows → next ≡ row + 1 → bit_at mask row ≡ true → is_blank (get_or cells row Null) ≡ true → are_blank_from row rows mask cells ≡ r → are_blank_from next rows mask cells ≡ r
  set_row row next r h n set blank e =
      let long = length_pairs k col_type rows mask body form in
      ap (λ i. are_blank_from i rows mask cells) n ∙ all_keeps test pairs (false, Null) r row (omega arith) e (at_set row true h set blank)

  pub full_row : (row : ℕ) (r : Bool) → row < rows → bit_at mask row ≡ true → is_blank (get_or cells row Null) ≡ false → are_blank_from row rows mask cells ≡ r → false ≡ r
  full_row row r h set full e =
      let long = length_pairs k col_type rows mask body form in
      all_stops test pairs (false, Null) r row (omega arith) e (at_set row false h set full)

  pub behind_rows : (row : ℕ) → rows ≤ row → are_blank_from row rows mask cells ≡ true
  behind_rows row h =
      let long = length_pairs k col_type rows mask body form in
      at_drop_all (list_all test) pairs row (omega arith)
