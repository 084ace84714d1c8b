-- Numbers in the order of their cells, and the entries that these cells are.
use Rattle.std.proofs.Common.{◌≡◌, ◌≢◌, ℕ, zero, suc, ◌+◌, ◌-◌, ◌<◌, ◌≤◌, Bool, true, false, nat_eq, nat_lt, List, [], ◌∷◌, ◌++◌, length, map, get_or, set, refl, sym, ap, ◌∙◌, subst, arith}
use Rattle.std.specs.Prelude.{Contains, IsPermutation, IsSorted}
use Rattle.std.specs.List.{list_all}
use Rattle.std.specs.declared.cmp.Ordering.{Ordering}
use Rattle.std.specs.declared.cmp.Ordering.TheVariants.{Less, Equal, Greater}
use Rattle.std.specs.Ordering.{is_lt, is_eq, nat_cmp, ordering_then, ordering_reverse}
use Rattle.std.proofs.lemmas.Bool.{lt-ltb, ltb-true, ltb-false, eqb-true, eq-eqb, true≢false}
use Rattle.std.proofs.lemmas.List.{map-append, get_or-map, length-map, length_push, length-append, get_or_push, get_or_append_left, get_or-set_same, get_or-set_other, ext_get_or}
use Rattle.std.proofs.lemmas.List.Elements.{All-push, All-contains, Contains-push, Contains-append_left}
use Rattle.std.proofs.lemmas.List.Sorted.{length_permutation, All-permutation, Contains-permutation}
use Rattle.meaning.specs.declared.value.Value.{Value}
use Rattle.meaning.specs.declared.value.Value.TheVariants.{Null}
use Rattle.meaning.specs.Order.{same_value, value_cmp, is_ascending}
use Rattle.meaning.proofs.Orders.{value_total}
use Rattle.meaning.proofs.Tests.{both, first_of, second_of}
use Rattle.encodings.specs.Entries.{AreNumbered, DoNotFall, AreFirstEntries, AreFirstCodes, AreNumberEntries}
use Rattle.blocks.specs.Plain.{cells_at}
use Rattle.encodings.proofs.RowNumbers.{at_push, below_push}

is_last : (k count : ℕ) → k < count + 1 → nat_lt k count ≡ false → k ≡ count
is_last k count l t = let past : count ≤ k = ltb-false k count t in omega arith

-- ---- numbers with their cells

pub numbered_none : {K : Type 0} (value : K → Value) (cells : List Value) → AreNumbered value cells [] 0
numbered_none value cells = record { beside = λ k d h. absurd (omega arith); each = λ n h. absurd (omega arith); long = refl }

pub numbered_more : {K : Type 0} (value : K → Value) (cells : List Value) (numbered : List (K × ℕ)) (cell : K) (number : ℕ) → AreNumbered value cells numbered number → number < length cells → value cell ≡ get_or cells number Null → AreNumbered value cells (numbered ++ (cell, number) ∷ []) (number + 1)
numbered_more {K} value cells numbered cell number h l e =
    let last : K × ℕ = (cell, number) in
    record {
      beside = All-push (λ p. (p.1 < length cells) × (value p.0 ≡ get_or cells p.1 Null)) numbered last h.beside (l, e);
      each = λ n below. elim (nat_lt n number) as (λ b. nat_lt n number ≡ b → (p : K × ℕ) × Contains (numbered ++ last ∷ []) p × (p.1 ≡ n)) [
        | true ↦ λ t. let old = h.each n (ltb-true n number t) in (old.0, Contains-append_left numbered (last ∷ []) old.0 old.1, old.2)
        | false ↦ λ t. (last, Contains-push numbered last, sym (is_last n number below t))
      ] refl;
      long = length_push numbered last ∙ ap (λ m. m + 1) h.long;
    }

pub numbered_sorted : {K : Type 0} (value : K → Value) (cells : List Value) (numbered sorted : List (K × ℕ)) (count : ℕ) → IsPermutation numbered sorted → AreNumbered value cells numbered count → AreNumbered value cells sorted count
numbered_sorted value cells numbered sorted count p h = record {
  beside = All-permutation (λ q. (q.1 < length cells) × (value q.0 ≡ get_or cells q.1 Null)) numbered sorted p h.beside;
  each = λ n below. let old = h.each n below in (old.0, Contains-permutation numbered sorted old.0 p old.1, old.2);
  long = length_permutation numbered sorted p ∙ h.long;
}

not_less : (r s : Ordering) → is_lt (ordering_then r s) ≡ false → is_lt r ≡ false
not_less Less s e = e
not_less Equal s e = refl
not_less Greater s e = refl

pub cells_sorted : {K : Type 0} (cmp : K → K → Ordering) (value : K → Value) (xs : List (K × ℕ)) → ((a b : K) → cmp a b ≡ value_cmp (value a) (value b)) → IsSorted (λ x y. ordering_then (cmp x.0 y.0) (nat_cmp x.1 y.1)) xs → DoNotFall (map (λ p. value p.0) xs)
cells_sorted cmp value [] order s k h = absurd (omega arith)
cells_sorted {K} cmp value (x ∷ xs) order s k h =
    let cell : K × ℕ → Value = λ p. value p.0 in
    let long = length-map (x ∷ xs) cell in
    let within : k + 1 < length (x ∷ xs) = omega arith in
    let a = get_or (x ∷ xs) (k + 1) x in
    let b = get_or (x ∷ xs) k x in
    let returned : is_lt (cmp a.0 b.0) ≡ false = not_less _ _ (s k x (omega arith) within) in
    rw (get_or-map cell (x ∷ xs) (k + 1) x Null within, get_or-map cell (x ∷ xs) k x Null (omega arith)) (ap is_lt (sym (order a.0 b.0)) ∙ returned)

-- ---- entries

turned : (r : Ordering) → is_lt (ordering_reverse r) ≡ false → is_eq r ≡ false → is_lt r ≡ true
turned Less e f = refl
turned Equal e f = cc
turned Greater e f = cc

pub less_next : (v w : Value) → is_lt (value_cmp w v) ≡ false → same_value v w ≡ false → is_lt (value_cmp v w) ≡ true
less_next v w e f = turned (value_cmp v w) (ap is_lt (sym (value_total.antisymm w v)) ∙ e) f

ascending-push : (vs : List Value) (v w : Value) → is_ascending value_cmp (vs ++ v ∷ []) ≡ true → is_lt (value_cmp v w) ≡ true → is_ascending value_cmp ((vs ++ v ∷ []) ++ w ∷ []) ≡ true
ascending-push [] v w e l = both _ _ l refl
ascending-push (a ∷ []) v w e l = both _ _ (first_of _ _ e) (both _ _ l refl)
ascending-push (a ∷ b ∷ vs) v w e l = both _ _ (first_of _ _ e) (ascending-push (b ∷ vs) v w (second_of _ _ e) l)

ascending_next : (cells sorted : List Value) (count : ℕ) (entry_rows : List ℕ) (v : Value) → AreFirstEntries cells sorted count entry_rows → (0 < count → is_lt (value_cmp (get_or sorted (count - 1) Null) v) ≡ true) → is_ascending value_cmp (cells_at cells entry_rows ++ v ∷ []) ≡ true
ascending_next cells sorted zero [] v h l = refl
ascending_next cells sorted zero (index ∷ entry_rows) v h l = let few = h.few in absurd (omega arith)
ascending_next cells sorted (suc n) entry_rows v h l =
    let last = h.last (omega arith) in
    let w = get_or sorted (suc n - 1) Null in
    ap (λ es. is_ascending value_cmp (es ++ v ∷ [])) last.1 ∙ ascending-push last.0 w v (ap (is_ascending value_cmp) (sym last.1) ∙ h.ascending) (l (omega arith))

pub entry_next : (cells sorted : List Value) (count : ℕ) (entry_rows : List ℕ) (row : ℕ) → AreFirstEntries cells sorted count entry_rows → row < length cells → get_or cells row Null ≡ get_or sorted count Null → (0 < count → is_lt (value_cmp (get_or sorted (count - 1) Null) (get_or sorted count Null)) ≡ true) → AreFirstEntries cells sorted (count + 1) (entry_rows ++ row ∷ [])
entry_next cells sorted count entry_rows row h below e l =
    let few = h.few in
    let longer = length_push entry_rows row in
    let back : count ≡ count + 1 - 1 = omega arith in
    let next = at_push cells entry_rows row ∙ ap (λ v. cells_at cells entry_rows ++ v ∷ []) e in
    record {
      within = below_push entry_rows row (length cells) h.within below;
      few = omega arith;
      ascending = ap (is_ascending value_cmp) next ∙ ascending_next cells sorted count entry_rows (get_or sorted count Null) h l;
      last = λ _. (cells_at cells entry_rows, next ∙ ap (λ k. cells_at cells entry_rows ++ get_or sorted k Null ∷ []) back);
    }

pub entry_same : (cells sorted : List Value) (count : ℕ) (entry_rows : List ℕ) → AreFirstEntries cells sorted count entry_rows → 0 < count → get_or sorted (count - 1) Null ≡ get_or sorted count Null → AreFirstEntries cells sorted (count + 1) entry_rows
entry_same cells sorted count entry_rows h some e =
    let few = h.few in
    let last = h.last some in
    let back : count ≡ count + 1 - 1 = omega arith in
    record {
      within = h.within;
      few = omega arith;
      ascending = h.ascending;
      last = λ _. (last.0, last.1 ∙ ap (λ v. last.0 ++ v ∷ []) (e ∙ ap (λ k. get_or sorted k Null) back));
    }

-- the last entry is the cell that was entered last
pub last_code : (cells sorted : List Value) (count : ℕ) (entry_rows : List ℕ) (code : ℕ) → AreFirstEntries cells sorted (count + 1) entry_rows → code ≡ length entry_rows - 1 → (code < length entry_rows) × (get_or (cells_at cells entry_rows) code Null ≡ get_or sorted count Null)
last_code cells sorted count entry_rows code h e =
    let last = h.last (omega arith) in
    let back : count + 1 - 1 ≡ count = omega arith in
    let long = length-map entry_rows (λ p. get_or cells p Null) in
    let all = ap length last.1 ∙ length_push last.0 (get_or sorted (count + 1 - 1) Null) in
    (omega arith, ap (λ es. get_or es code Null) last.1 ∙ (get_or_push last.0 (get_or sorted (count + 1 - 1) Null) Null code (omega arith) ∙ ap (λ k. get_or sorted k Null) back))

-- ---- codes

is_same : (sorted : List Value) (numbers : List ℕ) (count k : ℕ) → k < count + 1 → ((j : ℕ) → j < count → get_or numbers j 0 ≡ get_or numbers count 0 → get_or sorted j Null ≡ get_or sorted count Null) → get_or numbers k 0 ≡ get_or numbers count 0 → get_or sorted k Null ≡ get_or sorted count Null
is_same sorted numbers count k l alike e = elim (nat_lt k count) as (λ b. nat_lt k count ≡ b → get_or sorted k Null ≡ get_or sorted count Null) [
  | true ↦ λ t. alike k (ltb-true k count t) e
  | false ↦ λ t. ap (λ j. get_or sorted j Null) (is_last k count l t)
] refl

is_before : (numbers : List ℕ) (count k : ℕ) → k < count + 1 → get_or numbers k 0 ≢ get_or numbers count 0 → k < count
is_before numbers count k l other = elim (nat_lt k count) as (λ b. nat_lt k count ≡ b → k < count) [
  | true ↦ λ t. ltb-true k count t
  | false ↦ λ t. absurd (other (ap (λ j. get_or numbers j 0) (is_last k count l t)))
] refl

pub codes_more : (entries more sorted : List Value) (numbers codes : List ℕ) (count code : ℕ) → AreFirstCodes entries sorted numbers codes count → get_or numbers count 0 < length codes → code < length (entries ++ more) → get_or (entries ++ more) code Null ≡ get_or sorted count Null → ((k : ℕ) → k < count → get_or numbers k 0 ≡ get_or numbers count 0 → get_or sorted k Null ≡ get_or sorted count Null) → AreFirstCodes (entries ++ more) sorted numbers (set codes (get_or numbers count 0) code) (count + 1)
codes_more entries more sorted numbers codes count code h room below returned alike k l =
    let number = get_or numbers count 0 in
    let n = get_or numbers k 0 in
    let longer = length-append entries more in
    let here = get_or-set_same codes number code 0 room in
    let P : ℕ → Type 0 = λ c. (c < length (entries ++ more)) × (get_or (entries ++ more) c Null ≡ get_or sorted k Null) in
    elim (nat_eq n number) as (λ b. nat_eq n number ≡ b → P (get_or (set codes number code) n 0)) [
      | true ↦ λ t.
          let e : n ≡ number = eqb-true n number t in
          subst P (sym (ap (λ m. get_or (set codes number code) m 0) e ∙ here)) (below, returned ∙ sym (is_same sorted numbers count k l alike e))
      | false ↦ λ t.
          let other : n ≢ number = λ e. absurd (true≢false (sym (eq-eqb n number e) ∙ t)) in
          let old = h k (is_before numbers count k l other) in
          let low = old.0 in
          subst P (sym (get_or-set_other codes number n code 0 other)) (omega arith, get_or_append_left entries more Null (get_or codes n 0) low ∙ old.1)
    ] refl

all_from_each : (p : ℕ → Bool) (xs : List ℕ) → ((i : ℕ) → i < length xs → p (get_or xs i 0) ≡ true) → list_all p xs ≡ true
all_from_each p [] h = refl
all_from_each p (x ∷ xs) h = both _ _ (h 0 (omega arith)) (all_from_each p xs (λ i l. h (suc i) (omega arith)))

-- what is known of the code of each number
code_of : {K : Type 0} (value : K → Value) (entries cells : List Value) (numbered : List (K × ℕ)) (codes : List ℕ) (count : ℕ) → AreNumbered value cells numbered count → AreFirstCodes entries (map (λ p. value p.0) numbered) (map (λ p. p.1) numbered) codes (length numbered) → (n : ℕ) → n < count → (get_or codes n 0 < length entries) × (get_or entries (get_or codes n 0) Null ≡ get_or cells n Null)
code_of {K} value entries cells numbered codes count h returned n l =
    let found = h.each n l in
    let p = found.0 in
    let k = found.1.0 in
    let within = found.1.1 in
    let number : get_or (map (λ q. q.1) numbered) k 0 ≡ n = get_or-map (λ q. q.1) numbered k p 0 within ∙ (ap (λ q. q.1) found.1.2 ∙ found.2) in
    let cell : get_or (map (λ q. value q.0) numbered) k Null ≡ value p.0 = get_or-map (λ q. value q.0) numbered k p Null within ∙ ap (λ q. value q.0) found.1.2 in
    let beside = All-contains (λ q. (q.1 < length cells) × (value q.0 ≡ get_or cells q.1 Null)) numbered p h.beside found.1 in
    let old = returned k within in
    subst (λ m. (get_or codes m 0 < length entries) × (get_or entries (get_or codes m 0) Null ≡ get_or cells n Null)) number
    (old.0, old.1 ∙ (cell ∙ (beside.1 ∙ ap (λ m. get_or cells m Null) found.2)))

pub number_entries : {K : Type 0} (value : K → Value) (cells : List Value) (firsts entry_rows codes : List ℕ) (numbered : List (K × ℕ)) (count : ℕ) → AreNumbered value (cells_at cells firsts) numbered (length firsts) → AreFirstEntries cells (map (λ p. value p.0) numbered) count entry_rows → AreFirstCodes (cells_at cells entry_rows) (map (λ p. value p.0) numbered) (map (λ p. p.1) numbered) codes count → count ≡ length numbered → length codes ≡ length firsts → AreNumberEntries cells firsts entry_rows codes
number_entries {K} value cells firsts entry_rows codes numbered count h e so_far done room =
    let returned = subst (λ n. AreFirstCodes (cells_at cells entry_rows) (map (λ (p : K × ℕ). value p.0) numbered) (map (λ (p : K × ℕ). p.1) numbered) codes n) done so_far in
    let entries = cells_at cells entry_rows in
    let long = length-map entry_rows (λ p. get_or cells p Null) in
    let firstly = cells_at cells firsts in
    let many = length-map firsts (λ p. get_or cells p Null) in
    let coded = length-map codes (λ c. get_or entries c Null) in
    let all = h.long in
    let few = e.few in
    record {
      within = e.within;
      few = omega arith;
      ascending = e.ascending;
      codes_within = all_from_each (λ c. nat_lt c (length entry_rows)) codes (λ i l. let t = code_of value entries firstly numbered codes (length firsts) h returned i (omega arith) in let low = t.0 in lt-ltb (get_or codes i 0) (length entry_rows) (omega arith));
      cells_are = ext_get_or Null (cells_at entries codes) firstly (coded ∙ (room ∙ sym many)) (λ i l. get_or-map (λ c. get_or entries c Null) codes i 0 Null (omega arith) ∙ (code_of value entries firstly numbered codes (length firsts) h returned i (omega arith)).1);
    }

-- the first row of the number at an index has the cell at this index
pub row_of : {K : Type 0} (value : K → Value) (cells : List Value) (firsts : List ℕ) (numbered : List (K × ℕ)) (index : ℕ) (p : K × ℕ) → AreNumbered value (cells_at cells firsts) numbered (length firsts) → index < length numbered → ((get_or numbered index p).1 < length firsts) × (get_or cells (get_or firsts (get_or numbered index p).1 0) Null ≡ get_or (map (λ q. value q.0) numbered) index Null)
row_of {K} value cells firsts numbered index p h within =
    let many = length-map firsts (λ row. get_or cells row Null) in
    let beside = h.beside index p within in
    let low = beside.0 in
    let n = (get_or numbered index p).1 in
    let here : n < length firsts = omega arith in
    (here, sym (get_or-map (λ row. get_or cells row Null) firsts n 0 Null here) ∙ (sym beside.1 ∙ sym (get_or-map (λ q. value q.0) numbered index p Null within)))

-- equal numbers have equal cells
pub alike_of : {K : Type 0} (value : K → Value) (cells : List Value) (numbered : List (K × ℕ)) (count index k : ℕ) (p : K × ℕ) → AreNumbered value cells numbered count → index < length numbered → k < index → get_or (map (λ q. q.1) numbered) k 0 ≡ get_or (map (λ q. q.1) numbered) index 0 → get_or (map (λ q. value q.0) numbered) k Null ≡ get_or (map (λ q. value q.0) numbered) index Null
alike_of {K} value cells numbered count index k p h within l e =
    let low : k < length numbered = omega arith in
    let this = h.beside index p within in
    let that = h.beside k p low in
    let same : (get_or numbered k p).1 ≡ (get_or numbered index p).1 = sym (get_or-map (λ q. q.1) numbered k p 0 low) ∙ (e ∙ get_or-map (λ q. q.1) numbered index p 0 within) in
    get_or-map (λ q. value q.0) numbered k p Null low ∙ (that.1 ∙ (ap (λ n. get_or cells n Null) same ∙ (sym this.1 ∙ sym (get_or-map (λ q. value q.0) numbered index p Null within))))

-- the code of one more number
pub codes_next : {K : Type 0} (value : K → Value) (cells : List Value) (firsts entry_rows more new codes : List ℕ) (numbered : List (K × ℕ)) (index code : ℕ) (p : K × ℕ) → AreNumbered value (cells_at cells firsts) numbered (length firsts) → index < length numbered → AreFirstCodes (cells_at cells entry_rows) (map (λ q. value q.0) numbered) (map (λ q. q.1) numbered) codes index → length codes ≡ length firsts → new ≡ entry_rows ++ more → (code < length new) × (get_or (cells_at cells new) code Null ≡ get_or (map (λ q. value q.0) numbered) index Null) → AreFirstCodes (cells_at cells new) (map (λ q. value q.0) numbered) (map (λ q. q.1) numbered) (set codes (get_or numbered index p).1 code) (index + 1)
codes_next {K} value cells firsts entry_rows more new codes numbered index code p h within returned room kept here =
    let sorted = map (λ (q : K × ℕ). value q.0) numbered in
    let numbers = map (λ (q : K × ℕ). q.1) numbered in
    let entries = cells_at cells entry_rows in
    let number : get_or numbers index 0 ≡ (get_or numbered index p).1 = get_or-map (λ q. q.1) numbered index p 0 within in
    let low = (row_of value cells firsts numbered index p h within).0 in
    let parts : cells_at cells new ≡ entries ++ cells_at cells more = ap (cells_at cells) kept ∙ map-append (λ row. get_or cells row Null) entry_rows more in
    let long = length-map new (λ row. get_or cells row Null) in
    let below : code < length (cells_at cells new) = let b = here.0 in omega arith in
    let all = codes_more entries (cells_at cells more) sorted numbers codes index code returned (omega arith) (subst (λ es. code < length es) parts below) (ap (λ es. get_or es code Null) (sym parts) ∙ here.1) (λ k l e. alike_of value (cells_at cells firsts) numbered (length firsts) index k p h within l e) in
    subst (λ n. AreFirstCodes (cells_at cells new) sorted numbers (set codes n code) (index + 1)) number (subst (λ es. AreFirstCodes es sorted numbers (set codes (get_or numbers index 0) code) (index + 1)) (sym parts) all)
