-- The mask beside the cells.
use Rattle.std.proofs.Common.{◌≡◌, ℕ, zero, suc, ◌+◌, ◌-◌, ◌*◌, ◌<◌, ℤ, pos, ◌+ℤ◌, Bool, true, false, not, ◌&&◌, ◌||◌, ◌==◌, nat_le, List, [], ◌∷◌, length, get_or, drop, map, zip, sum, replicate, refl, sym, ap, ◌∙◌, arith}
use Rattle.std.specs.List.{list_all, range_with_len}
use Rattle.std.proofs.lemmas.Bool.Decides.{Decides-eqb}
use Rattle.std.proofs.lemmas.List.{get_or-map, length-map, length-append, length-replicate}
use Rattle.std.proofs.lemmas.List.Sums.{sum_by-cons}
use Rattle.std.proofs.lemmas.List.FromFn.{get_or-map-range_with_len, length-range_with_len}
use Rattle.std.proofs.lemmas.Slice.Zip.{get_or-zip, length-zip}
use Rattle.meaning.specs.declared.value.ColType.{ColType}
use Rattle.meaning.specs.declared.value.Value.{Value}
use Rattle.meaning.specs.declared.value.Value.TheVariants.{Null, Int}
use Rattle.blocks.specs.declared.kind.Kind.{Kind}
use Rattle.blocks.specs.declared.kind.Kind.TheVariants as kind
use Rattle.bit_packing.specs.Bits.{bit_at}
use Rattle.bit_packing.specs.Offsets.{offset_at}
use Rattle.blocks.specs.Block.{body_cells, is_body, is_blank}
use Rattle.blocks.specs.Plain.{is_values_form}
use Rattle.blocks.specs.Runs.{repeated, run_cells, run_values, run_lengths, run_value_bytes, are_runs}
use Rattle.blocks.specs.Numbers.{count_of}
use Rattle.blocks.specs.Dictionary.{entries_of, codes_of}
use Rattle.blocks.specs.Frame.{frame_integers, offsets_of, width_of, packed_of, base_of}
use Rattle.bit_packing.proofs.Chunks.{length-shorts}
use Rattle.blocks.proofs.Ends.{length-values_form}
use Rattle.bit_packing.proofs.Steps.{both_true}

length_repeated : (vs : List Value) (ns : List ℕ) → length vs ≡ length ns → length (repeated (zip vs ns)) ≡ sum ns
length_repeated [] [] e = refl
length_repeated [] (n ∷ ns) e = absurd (omega arith)
length_repeated (v ∷ vs) [] e = absurd (omega arith)
length_repeated (v ∷ vs) (n ∷ ns) e =
    let rest = length_repeated vs ns (omega arith) in
    let more : sum (n ∷ ns) ≡ n + sum ns = sum_by-cons (λ k. k) n ns in
    length-append (replicate n v) (repeated (zip vs ns)) ∙ ap (λ k. k + length (repeated (zip vs ns))) (length-replicate n v) ∙ ap (λ k. n + k) rest ∙ sym more

sixth_true : (a b c d e f g : Bool) → (a && (b && (c && (d && (e && (f && g)))))) ≡ true → f ≡ true
sixth_true a b c d e f g h =
    let h1 = both_true a (b && (c && (d && (e && (f && g))))) h in
    let h2 = both_true b (c && (d && (e && (f && g)))) h1.1 in
    let h3 = both_true c (d && (e && (f && g))) h2.1 in
    let h4 = both_true d (e && (f && g)) h3.1 in
    let h5 = both_true e (f && g) h4.1 in
    (both_true f g h5.1).0

length_run_cells : (col_type : ColType) (rows : ℕ) (body : List ℕ) → are_runs col_type rows body ≡ true → length (run_cells col_type body) ≡ rows
length_run_cells col_type rows body e =
    let total = sixth_true (nat_le 4 (length body)) (nat_le 1 (count_of body)) (nat_le (count_of body) rows) (nat_le (4 + 2 * count_of body) (length body)) (list_all (λ n. nat_le 1 n) (run_lengths body)) (sum (run_lengths body) == rows) (is_values_form col_type (count_of body) (run_value_bytes body)) e in
    let same : length (run_values col_type body) ≡ length (run_lengths body) = length-values_form col_type (count_of body) (run_value_bytes body) ∙ sym (length-shorts (count_of body) (drop 4 body)) in
    length_repeated (run_values col_type body) (run_lengths body) same ∙ (Decides-eqb (sum (run_lengths body)) rows).0 total

pub length_cells : (k : Kind) (col_type : ColType) (rows : ℕ) (body : List ℕ) → is_body k col_type rows body ≡ true → length (body_cells k col_type rows body) ≡ rows
length_cells kind.Plain col_type rows body e = length-values_form col_type rows body
length_cells kind.Dict col_type rows body e = length-map (codes_of rows body) (λ code. get_or (entries_of col_type rows body) code Null) ∙ length-shorts rows (drop (length body - 2 * rows) body)
length_cells kind.Runs col_type rows body e = length_run_cells col_type rows body e
length_cells kind.Frame col_type rows body e =
    length-map (frame_integers rows body) Int ∙ length-map (offsets_of rows body) (λ offset. base_of body +ℤ pos offset) ∙ length-map (range_with_len 0 rows) (offset_at (width_of body) (packed_of body)) ∙ length-range_with_len 0 rows

pub frame_cell_is : (k : Kind) (col_type : ColType) (rows row : ℕ) (body : List ℕ) (n : ℤ) → k ≡ kind.Frame → row < rows → n ≡ get_or (frame_integers rows body) row (pos 0) → Int n ≡ get_or (body_cells k col_type rows body) row Null
frame_cell_is kind.Plain col_type rows row body n e h w = absurd (cc)
frame_cell_is kind.Dict col_type rows row body n e h w = absurd (cc)
frame_cell_is kind.Runs col_type rows row body n e h w = absurd (cc)
frame_cell_is kind.Frame col_type rows row body n e h w =
    let long = length-map (offsets_of rows body) (λ offset. base_of body +ℤ pos offset) ∙ length-map (range_with_len 0 rows) (offset_at (width_of body) (packed_of body)) ∙ length-range_with_len 0 rows in
    ap Int w ∙ sym (get_or-map Int (frame_integers rows body) row (pos 0) Null (omega arith))

abbrev pub bits_of : ℕ → List ℕ → List Bool
bits_of rows mask = map (bit_at mask) (range_with_len 0 rows)

pub length_bits : (rows : ℕ) (mask : List ℕ) → length (bits_of rows mask) ≡ rows
length_bits rows mask = length-map (range_with_len 0 rows) (bit_at mask) ∙ length-range_with_len 0 rows

pub bit_is : (rows i : ℕ) (mask : List ℕ) → i < rows → get_or (bits_of rows mask) i false ≡ bit_at mask i
bit_is rows i mask h = get_or-map-range_with_len (bit_at mask) 0 rows i i false h (omega arith)

module _ (k : Kind) (col_type : ColType) (rows : ℕ) (mask body : List ℕ) (form : is_body k col_type rows body ≡ true) where
  pub length_pairs : length (zip (bits_of rows mask) (body_cells k col_type rows body)) ≡ rows
  length_pairs =
      let bits = length_bits rows mask in
      let cells = length_cells k col_type rows body form in
      let both = length-zip (bits_of rows mask) (body_cells k col_type rows body) in
      omega arith

  pub pair_is : (i : ℕ) → i < rows → (not (bit_at mask i) || is_blank (get_or (body_cells k col_type rows body) i Null)) ≡ (let p = get_or (zip (bits_of rows mask) (body_cells k col_type rows body)) i (false, Null) in not p.0 || is_blank p.1)
  pair_is i h =
      let bits = length_bits rows mask in
      let cells = length_cells k col_type rows body form in
      let here = get_or-zip (bits_of rows mask) (body_cells k col_type rows body) i (false, Null) (omega arith) (omega arith) in
      ap (λ b. not b || is_blank (get_or (body_cells k col_type rows body) i Null)) (sym (bit_is rows i mask h)) ∙ ap (λ (p : Bool × Value). not p.0 || is_blank p.1) (sym here)

pub none_masked : (n : ℕ) (cells : List Value) → list_all (λ (p : Bool × Value). not p.0 || is_blank p.1) (zip (replicate n false) cells) ≡ true
none_masked zero cells = refl
none_masked (suc n) [] = refl
none_masked (suc n) (v ∷ cells) = none_masked n cells
