-- The code of each row, by the code of its number.
use Rattle.std.proofs.Common.{◌≡◌, ℕ, true, nat_lt, List, [], ◌∷◌, ◌++◌, length, map, take, drop, get_or, refl, sym, ap, ◌∙◌, arith}
use Rattle.std.specs.List.{list_all}
use Rattle.std.proofs.lemmas.Bool.{lt-ltb, ltb-true}
use Rattle.std.proofs.lemmas.List.{get_or-map, length-map, take_all, take_at}
use Rattle.meaning.specs.declared.value.Value.{Value}
use Rattle.meaning.specs.declared.value.Value.TheVariants.{Null, Text}
use denote.Bor.{Bor}
use Rattle.meaning.proofs.Tests.{all_first, all_rest, both}
use Rattle.encodings.specs.Entries.{AreNumbers, AreNumberEntries}
use Rattle.blocks.specs.Dictionary.{AreEntries}
use Rattle.blocks.specs.Plain.{cells_at}
use Rattle.encodings.proofs.EncodedForms.{index_below}

-- what a buffer holds that was lent and comes back full
pub put_back : {A : Type 0} (n : ℕ) (now items : List A) → length items ≡ n → length now ≡ n → take n (now ++ drop (length now) items) ≡ now
put_back n now items full same = take_at now (drop (length now) items) n same

codes_below : (codes numbers : List ℕ) (bound : ℕ) → list_all (λ code. nat_lt code bound) codes ≡ true → list_all (λ n. nat_lt n (length codes)) numbers ≡ true → list_all (λ code. nat_lt code bound) (map (λ n. get_or codes n 0) numbers) ≡ true
codes_below codes [] bound e known = refl
codes_below codes (n ∷ numbers) bound e known =
    let low = ltb-true n (length codes) (all_first (λ m. nat_lt m (length codes)) n numbers known) in
    both _ _ (lt-ltb (get_or codes n 0) bound (index_below codes bound n e low)) (codes_below codes numbers bound e (all_rest (λ m. nat_lt m (length codes)) n numbers known))

cells_of_codes : (entries : List Value) (codes numbers : List ℕ) → list_all (λ n. nat_lt n (length codes)) numbers ≡ true → cells_at entries (map (λ n. get_or codes n 0) numbers) ≡ cells_at (cells_at entries codes) numbers
cells_of_codes entries codes [] known = refl
cells_of_codes entries codes (n ∷ numbers) known =
    let low = ltb-true n (length codes) (all_first (λ m. nat_lt m (length codes)) n numbers known) in
    let first : get_or entries (get_or codes n 0) Null ≡ get_or (cells_at entries codes) n Null = sym (get_or-map (λ code. get_or entries code Null) codes n 0 Null low) in
    ap (λ v. v ∷ cells_at entries (map (λ m. get_or codes m 0) numbers)) first ∙ ap (λ vs. get_or (cells_at entries codes) n Null ∷ vs) (cells_of_codes entries codes numbers (all_rest (λ m. nat_lt m (length codes)) n numbers known))

pub row_codes : (cells : List Value) (firsts of_rows entry_rows codes : List ℕ) → AreNumbers cells firsts of_rows (length cells) → AreNumberEntries cells firsts entry_rows codes → AreEntries cells entry_rows (map (λ n. get_or codes n 0) of_rows)
row_codes cells firsts of_rows entry_rows codes h e =
    let entries = cells_at cells entry_rows in
    let coded = length-map codes (λ code. get_or entries code Null) in
    let many = length-map firsts (λ row. get_or cells row Null) in
    let long : length firsts ≡ length codes = sym many ∙ (sym (ap length e.cells_are) ∙ coded) in
    let known : list_all (λ n. nat_lt n (length codes)) of_rows ≡ true = ap (λ m. list_all (λ n. nat_lt n m) of_rows) (sym long) ∙ h.known in
    let few = h.few in
    let fewer = e.few in
    record {
      within = e.within;
      few = omega arith;
      ascending = e.ascending;
      codes_within = codes_below codes of_rows (length entry_rows) e.codes_within known;
      cells_are = cells_of_codes entries codes of_rows known ∙ (ap (λ es. cells_at es of_rows) e.cells_are ∙ (h.cells_are ∙ take_all (length cells) cells (omega arith)));
    }

pub text_cells : (texts : List (Bor (List ℕ))) → map (λ (t : Bor (List ℕ)). Text t.now) texts ≡ map Text (map (λ (t : Bor (List ℕ)). t.now) texts)
text_cells [] = refl
text_cells (t ∷ ts) = ap (λ vs. Text t.now ∷ vs) (text_cells ts)
