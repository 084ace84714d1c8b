-- Marks at the slots of cells, which are gone through from the last on: a cell whose slot has no mark is a new one.
use Rattle.std.proofs.Common.{◌≡◌, ℕ, zero, suc, ◌+◌, ◌-◌, ◌<◌, ◌≤◌, Bool, true, false, ◌||◌, ◌==◌, if◌then◌else◌, List, [], ◌∷◌, length, get_or, set, drop, refl, sym, ap, ◌∙◌, subst, arith}
use Rattle.std.specs.List.{list_any}
use Rattle.std.specs.Ordering.{is_eq, match_ordering}
use Rattle.std.specs.declared.cmp.Ordering.TheVariants.{Less, Equal, Greater}
use Rattle.std.proofs.lemmas.Bool.{false≢true}
use Rattle.std.proofs.lemmas.Bool.Decides.{Decides-eqb}
use Rattle.std.proofs.lemmas.List.{drop_more, get_or-drop, length-drop, get_or-set_same, get_or-set_other}
use Rattle.std.proofs.lemmas.List.Sums.{sum_by-cons}
use Rattle.meaning.specs.declared.value.ColType.{ColType}
use Rattle.meaning.specs.declared.value.ColType.TheVariants as of_type
use Rattle.meaning.specs.declared.value.Value.{Value}
use Rattle.meaning.specs.declared.value.Value.TheVariants.{Null}
use Rattle.meaning.specs.Order.{bytes, value_cmp, same_value, inserted_once, ascending_set}
use Rattle.meaning.proofs.Orders.{value_total}
use Rattle.meaning.proofs.Sets.{any-ascending_set}
use Rattle.meaning.proofs.Same.{same_is}
use Rattle.meaning.proofs.Tests.{or_other}
use Rattle.encodings.specs.Slots.{value_slot, value_size}
use Rattle.blocks.specs.Plain.{form_size}

-- ---- the size of a set, one element more

pub form_cons : (col_type : ColType) (v : Value) (vs : List Value) → form_size col_type (v ∷ vs) ≡ value_size col_type v + form_size col_type vs
form_cons of_type.Int v vs = omega arith
form_cons of_type.Text v vs = sum_by-cons (λ u. 4 + length (bytes u)) v vs

inserted_more : (col_type : ColType) (v : Value) (vs : List Value) → form_size col_type vs ≤ form_size col_type (inserted_once value_cmp v vs)
inserted_more col_type v [] = let e = form_cons col_type v [] in omega arith
inserted_more col_type v (w ∷ vs) =
    elim (value_cmp v w) as (λ o. form_size col_type (w ∷ vs) ≤ form_size col_type (match_ordering o (v ∷ w ∷ vs) (w ∷ vs) (w ∷ inserted_once value_cmp v vs))) [
      | Less ↦ let e = form_cons col_type v (w ∷ vs) in omega arith
      | Equal ↦ omega arith
      | Greater ↦ let e = form_cons col_type w vs in let f = form_cons col_type w (inserted_once value_cmp v vs) in let g = inserted_more col_type v vs in omega arith
    ]

none_first : (a b : Bool) → (a || b) ≡ false → (a ≡ false) × (b ≡ false)
none_first true b e = absurd (false≢true (sym e))
none_first false b e = (refl, e)

inserted_new : (col_type : ColType) (v : Value) (vs : List Value) → list_any (same_value v) vs ≡ false → form_size col_type (inserted_once value_cmp v vs) ≡ value_size col_type v + form_size col_type vs
inserted_new col_type v [] h = form_cons col_type v []
inserted_new col_type v (w ∷ vs) h =
    let p = none_first (same_value v w) (list_any (same_value v) vs) h in
    elim (value_cmp v w) as (λ o. value_cmp v w ≡ o → form_size col_type (match_ordering o (v ∷ w ∷ vs) (w ∷ vs) (w ∷ inserted_once value_cmp v vs)) ≡ value_size col_type v + form_size col_type (w ∷ vs)) [
      | Less ↦ λ e. form_cons col_type v (w ∷ vs)
      | Equal ↦ λ e. absurd (false≢true (sym p.0 ∙ ap is_eq e))
      | Greater ↦ λ e. (let f = form_cons col_type w vs in let g = form_cons col_type w (inserted_once value_cmp v vs) in let i = inserted_new col_type v vs p.1 in omega arith)
    ] refl

pub set_drop : (col_type : ColType) (n : ℕ) (cells : List Value) → form_size col_type (ascending_set value_cmp (drop n cells)) ≤ form_size col_type (ascending_set value_cmp cells)
set_drop col_type zero cells = omega arith
set_drop col_type (suc n) [] = omega arith
set_drop col_type (suc n) (v ∷ cells) =
    let rest = set_drop col_type n cells in
    let more = inserted_more col_type v (ascending_set value_cmp cells) in
    omega arith

-- ---- marks

-- the slots of the rows from one on have marks
abbrev pub AreMarked : List Bool → List Value → ℕ → Type 0
AreMarked marks cells row = (j : ℕ) → row ≤ j → j < length cells → get_or marks (value_slot (get_or cells j Null)) false ≡ true

mark_keeps : (marks : List Bool) (slot k : ℕ) → slot < length marks → get_or marks k false ≡ true → get_or (set marks slot true) k false ≡ true
mark_keeps marks slot k h e =
    elim (k == slot) as (λ b. (k == slot) ≡ b → get_or (set marks slot true) k false ≡ true) [
      | true ↦ λ t. ap (λ i. get_or (set marks slot true) i false) ((Decides-eqb k slot).0 t) ∙ get_or-set_same marks slot true false h
      | false ↦ λ f. get_or-set_other marks slot k true false (λ same. false≢true (sym f ∙ (Decides-eqb k slot).1 same)) ∙ e
    ] refl

pub marked_more : (marks : List Bool) (cells : List Value) (i slot : ℕ) → slot < length marks → slot ≡ value_slot (get_or cells i Null) → AreMarked marks cells (i + 1) → AreMarked (set marks slot true) cells i
marked_more marks cells i slot h is known = λ j low inside.
    elim (j == i) as (λ b. (j == i) ≡ b → get_or (set marks slot true) (value_slot (get_or cells j Null)) false ≡ true) [
      | true ↦ λ t. ap (λ k. get_or (set marks slot true) (value_slot (get_or cells k Null)) false) ((Decides-eqb j i).0 t) ∙ ap (λ k. get_or (set marks slot true) k false) (sym is) ∙ get_or-set_same marks slot true false h
      | false ↦ λ f. (let other : ¬ (j ≡ i) = λ same. false≢true (sym f ∙ (Decides-eqb j i).1 same) in mark_keeps marks slot (value_slot (get_or cells j Null)) h (known j (omega arith) inside))
    ] refl

any_index : (p : Value → Bool) (xs : List Value) → list_any p xs ≡ true → (j : ℕ) × (j < length xs) × (p (get_or xs j Null) ≡ true)
any_index p [] h = absurd (false≢true h)
any_index p (x ∷ xs) h =
    elim (p x) as (λ b. p x ≡ b → (j : ℕ) × (j < length (x ∷ xs)) × (p (get_or (x ∷ xs) j Null) ≡ true)) [
      | true ↦ λ e. (0, omega arith, e)
      | false ↦ λ e. (let r = any_index p xs (or_other (p x) (list_any p xs) h e) in (suc r.0, omega arith, r.2))
    ] refl

false_unless : (b : Bool) → ¬ (b ≡ true) → b ≡ false
false_unless true wrong = absurd (wrong refl)
false_unless false wrong = refl

pub size_more : (col_type : ColType) (marks : List Bool) (cells : List Value) (i slot size more cost : ℕ) → i < length cells → slot ≡ value_slot (get_or cells i Null) → cost ≡ value_size col_type (get_or cells i Null) → more ≡ (if get_or marks slot false then 0 else cost) → AreMarked marks cells (i + 1)
    → size ≤ form_size col_type (ascending_set value_cmp (drop (i + 1) cells)) → size + more ≤ form_size col_type (ascending_set value_cmp (drop i cells))
size_more col_type marks cells i slot size more cost h is paid returned known small =
    let x = get_or cells i Null in
    let rest = drop (i + 1) cells in
    let split : form_size col_type (ascending_set value_cmp (drop i cells)) ≡ form_size col_type (inserted_once value_cmp x (ascending_set value_cmp rest)) = ap (λ vs. form_size col_type (ascending_set value_cmp vs)) (drop_more cells i Null h) in
    elim (get_or marks slot false) as (λ b. get_or marks slot false ≡ b → more ≡ (if b then 0 else cost) → size + more ≤ form_size col_type (ascending_set value_cmp (drop i cells))) [
      | true ↦ λ e m. (let grows = inserted_more col_type x (ascending_set value_cmp rest) in omega arith)
      | false ↦ λ e m. (
          let new : list_any (same_value x) rest ≡ false = false_unless (list_any (same_value x) rest) (λ t. (
          let at = any_index (same_value x) rest t in
          let long = length-drop (i + 1) cells in
          let same : x ≡ get_or cells (i + 1 + at.0) Null = same_is x (get_or rest at.0 Null) at.2 ∙ get_or-drop (i + 1) cells at.0 Null in
          let marked : get_or marks slot false ≡ true = ap (λ k. get_or marks k false) (is ∙ ap value_slot same) ∙ known (i + 1 + at.0) (omega arith) (let inside : at.0 < length rest = at.1 in omega arith) in
          false≢true (sym e ∙ marked))) in
          let grown = inserted_new col_type x (ascending_set value_cmp rest) (any-ascending_set value_total x rest ∙ new) in
          omega arith)
    ] refl returned

-- one row before those that were gone through
pub row_before : (col_type : ColType) (cells : List Value) (v : Value) (marks new : List Bool) (row slot size more cost : ℕ) → 0 < row → row ≤ length cells → v ≡ get_or cells (row - 1) Null → slot ≡ value_slot v → cost ≡ value_size col_type v → slot < length marks → new ≡ set marks slot true → more ≡ (if get_or marks slot false then 0 else cost)
    → AreMarked marks cells row → size ≤ form_size col_type (ascending_set value_cmp (drop row cells)) → AreMarked new cells (row - 1) × (size + more ≤ form_size col_type (ascending_set value_cmp (drop (row - 1) cells)))
row_before col_type cells v marks new row slot size more cost some within is at paid inside marked returned known small =
    let back : row ≡ row - 1 + 1 = omega arith in
    let before : AreMarked marks cells (row - 1 + 1) = subst (AreMarked marks cells) back known in
    let here : slot ≡ value_slot (get_or cells (row - 1) Null) = at ∙ ap value_slot is in
    let low : size ≤ form_size col_type (ascending_set value_cmp (drop (row - 1 + 1) cells)) = subst (λ k. size ≤ form_size col_type (ascending_set value_cmp (drop k cells))) back small in (
      subst (λ ms. AreMarked ms cells (row - 1)) (sym marked) (marked_more marks cells (row - 1) slot inside here before),
      size_more col_type marks cells (row - 1) slot size more cost (omega arith) here (paid ∙ ap (value_size col_type) is) returned before low,
    )
