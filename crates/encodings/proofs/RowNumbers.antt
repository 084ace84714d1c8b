-- Rows that get numbers one after the other.
use Rattle.std.proofs.Common.{◌≡◌, ℕ, ◌+◌, ◌<◌, ◌≤◌, true, List, [], ◌∷◌, ◌++◌, length, get_or, nat_lt, refl, sym, ap, ◌∙◌, arith}
use Rattle.std.specs.List.{list_all}
use Rattle.std.proofs.lemmas.Bool.{lt-ltb, ltb-true}
use Rattle.std.proofs.lemmas.List.{take_more, map-append, get_or-map, length-map, length_push, get_or_push, get_or_append_left}
use Rattle.meaning.specs.declared.value.Value.{Value}
use Rattle.meaning.specs.declared.value.Value.TheVariants.{Null}
use Rattle.meaning.proofs.Tests.{all_append, all_imply, all_first, all_rest, both}
use Rattle.encodings.specs.Entries.{AreNumbers}
use Rattle.blocks.specs.Plain.{cells_at}

-- one more number keeps a list of numbers below the bound
pub bound_kept : (m n : ℕ) (ns : List ℕ) → m ≤ n → list_all (λ k. nat_lt k m) ns ≡ true → list_all (λ k. nat_lt k n) ns ≡ true
bound_kept m n ns h e = all_imply (λ k. nat_lt k m) (λ k. nat_lt k n) (λ k t. lt-ltb k n (let l = ltb-true k m t in omega arith)) ns e

pub below_push : (ns : List ℕ) (n bound : ℕ) → list_all (λ k. nat_lt k bound) ns ≡ true → n < bound → list_all (λ k. nat_lt k bound) (ns ++ n ∷ []) ≡ true
below_push ns n bound e h = all_append (λ k. nat_lt k bound) ns (n ∷ []) e (both _ _ (lt-ltb n bound h) refl)

pub at_push : (cells : List Value) (entry_rows : List ℕ) (index : ℕ) → cells_at cells (entry_rows ++ index ∷ []) ≡ cells_at cells entry_rows ++ get_or cells index Null ∷ []
at_push cells entry_rows index = map-append (λ p. get_or cells p Null) entry_rows (index ∷ [])

-- more entries behind the last change nothing at codes of those before
pub at_kept : (entries more : List Value) (codes : List ℕ) → list_all (λ code. nat_lt code (length entries)) codes ≡ true → cells_at (entries ++ more) codes ≡ cells_at entries codes
at_kept entries more [] e = refl
at_kept entries more (code ∷ codes) e =
    let low = ltb-true code (length entries) (all_first (λ c. nat_lt c (length entries)) code codes e) in
    let first : get_or (entries ++ more) code Null ≡ get_or entries code Null = get_or_append_left entries more Null code low in
    ap (λ v. v ∷ cells_at (entries ++ more) codes) first ∙ ap (λ vs. get_or entries code Null ∷ vs) (at_kept entries more codes (all_rest (λ c. nat_lt c (length entries)) code codes e))

pub no_numbers : (cells : List Value) → AreNumbers cells [] [] 0
no_numbers cells = record { within = refl; few = omega arith; known = refl; cells_are = refl }

pub number_new : (cells : List Value) (firsts of_rows : List ℕ) (row number : ℕ) → AreNumbers cells firsts of_rows row → row < length cells → number ≡ length firsts → AreNumbers cells (firsts ++ row ∷ []) (of_rows ++ number ∷ []) (row + 1)
number_new cells firsts of_rows row number h l e =
    let entries = cells_at cells firsts in
    let long : length entries ≡ length firsts = length-map firsts (λ p. get_or cells p Null) in
    let longer = length_push firsts row in
    let few = h.few in
    let known : list_all (λ n. nat_lt n (length entries)) of_rows ≡ true = ap (λ m. list_all (λ n. nat_lt n m) of_rows) long ∙ h.known in
    let next : get_or (entries ++ get_or cells row Null ∷ []) number Null ≡ get_or cells row Null = get_or_push entries (get_or cells row Null) Null number (long ∙ sym e) in
    record {
      within = below_push firsts row (length cells) h.within l;
      few = omega arith;
      known = below_push of_rows number (length (firsts ++ row ∷ [])) (bound_kept (length firsts) (length (firsts ++ row ∷ [])) of_rows (omega arith) h.known) (omega arith);
      cells_are = ap (λ es. cells_at es (of_rows ++ number ∷ [])) (at_push cells firsts row)
          ∙ (at_push (entries ++ get_or cells row Null ∷ []) of_rows number
          ∙ (ap (λ v. cells_at (entries ++ get_or cells row Null ∷ []) of_rows ++ v ∷ []) next
          ∙ (ap (λ vs. vs ++ get_or cells row Null ∷ []) (at_kept entries (get_or cells row Null ∷ []) of_rows known ∙ h.cells_are)
          ∙ sym (take_more cells row Null l))));
    }

pub number_known : (cells : List Value) (firsts of_rows : List ℕ) (row number : ℕ) → AreNumbers cells firsts of_rows row → row < length cells → number < length firsts → get_or cells (get_or firsts number 0) Null ≡ get_or cells row Null → AreNumbers cells firsts (of_rows ++ number ∷ []) (row + 1)
number_known cells firsts of_rows row number h l below same =
    let few = h.few in
    let entry : get_or (cells_at cells firsts) number Null ≡ get_or cells row Null = get_or-map (λ p. get_or cells p Null) firsts number 0 Null below ∙ same in
    record {
      within = h.within;
      few = omega arith;
      known = below_push of_rows number (length firsts) h.known below;
      cells_are = at_push (cells_at cells firsts) of_rows number
          ∙ (ap (λ v. cells_at (cells_at cells firsts) of_rows ++ v ∷ []) entry
          ∙ (ap (λ vs. vs ++ get_or cells row Null ∷ []) h.cells_are
          ∙ sym (take_more cells row Null l)));
    }
