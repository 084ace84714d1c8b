-- Rows as keys.
use Rattle.std.specs.Prelude.{◌≡◌, ℕ, ℤ, ◌+◌, ◌<◌, true, List, [], ◌∷◌, ◌++◌, length, map, take, get_or}
use Rattle.std.specs.Ordering.{is_eq}
use Rattle.std.specs.declared.cmp.Ordering.{Ordering}
use Rattle.std.specs.declared.cmp.Ordering.TheVariants.{Less, Equal, Greater}
use Rattle.std.proofs.Common.{refl, sym, ap, subst, ◌∙◌, arith}
use Rattle.std.proofs.lemmas.Cmp.{tied_itself}
use Rattle.std.proofs.lemmas.List.{length-map, get_or-map, ext_get_or, take_more}
use Rattle.meaning.specs.declared.value.Value.{Value}
use Rattle.meaning.specs.declared.value.Value.TheVariants.{Null, Int}
use Rattle.meaning.specs.Order.{Row, row_cmp}
use Rattle.meaning.proofs.Orders.{row_exact, row_total}
use Rattle.vectors.specs.declared.vector.Vector.{Vector}
use Rattle.aggregate_states.specs.Values.{selected}
use Rattle.vectors.specs.Vector.{values_of}
use Rattle.group_keys.specs.Rows.{int_keys, row_at, rows_at}

tied : (r : Ordering) → is_eq r ≡ true → r ≡ Equal
tied Less e = cc
tied Equal e = refl
tied Greater e = cc

-- keys that the order doesn't distinguish are one
pub one_row : (a b : Row) → is_eq (row_cmp a b) ≡ true → a ≡ b
one_row a b e = row_exact a b (tied (row_cmp a b) e)

pub row_itself : (a : Row) → is_eq (row_cmp a a) ≡ true
row_itself a = ap is_eq (tied_itself row_total a)

-- keys that agree in each column are one
pub one_key : (key : Row) (lanes : List Vector) (at : ℕ) → length key ≡ length lanes
    → ((j : ℕ) → j < length lanes → get_or key j Null ≡ get_or (row_at lanes at) j Null) → key ≡ row_at lanes at
one_key key lanes at long same =
    let long_row = length-map lanes (λ (column : Vector). get_or (values_of column) at Null) in
    ext_get_or Null key (row_at lanes at) (long ∙ sym long_row) (λ j l. same j (subst (λ (n : ℕ). j < n) long l))

pub lane_of : (lanes : List Vector) (at k : ℕ) (d : Vector) → k < length lanes → get_or (row_at lanes at) k Null ≡ get_or (values_of (get_or lanes k d)) at Null
lane_of lanes at k d here = get_or-map (λ (column : Vector). get_or (values_of column) at Null) lanes k d Null here

pub key_more : (lanes : List Vector) (at k : ℕ) (d : Vector) (key new : Row) (v : Value) → k < length lanes → v ≡ get_or (values_of (get_or lanes k d)) at Null
    → key ≡ take k (row_at lanes at) → new ≡ key ++ v ∷ [] → new ≡ take (k + 1) (row_at lanes at)
key_more lanes at k d key new v here is so_far e =
    let long_row = length-map lanes (λ (column : Vector). get_or (values_of column) at Null) in
    e ∙ (λ i. so_far i ++ (is ∙ sym (lane_of lanes at k d here)) i ∷ []) ∙ sym (take_more (row_at lanes at) k Null (subst (λ (n : ℕ). k < n) (sym long_row) here))

pub row_of : (lanes : List Vector) (list : List ℕ) (k at : ℕ) → k < length list → at ≡ get_or list k 0 → row_at lanes at ≡ get_or (rows_at lanes list) k []
row_of lanes list k at here is = ap (row_at lanes) is ∙ sym (get_or-map (row_at lanes) list k 0 [] here)

pub rows_long : (lanes : List Vector) (list : List ℕ) → length (rows_at lanes list) ≡ length list
rows_long lanes list = length-map list (row_at lanes)

-- one column's integers are the keys alone
pub one_column : (v : Vector) (list : List ℕ) → rows_at (v ∷ []) list ≡ map (λ (x : Value). x ∷ []) (selected (values_of v) list)
one_column v [] = refl
one_column v (p ∷ list) = λ i. (get_or (values_of v) p Null ∷ []) ∷ one_column v list i

keys_of_ints : (ints : List ℤ) → int_keys ints ≡ map (λ (x : Value). x ∷ []) (map Int ints)
keys_of_ints [] = refl
keys_of_ints (z ∷ ints) = λ i. (Int z ∷ []) ∷ keys_of_ints ints i

pub one_lane : (lanes : List Vector) (d : Vector) → length lanes ≡ 1 → lanes ≡ get_or lanes 0 d ∷ []
one_lane [] d one = absurd (omega (arith, one))
one_lane (v ∷ []) d one = refl
one_lane (v ∷ w ∷ lanes) d one = absurd (omega (arith, one))

pub int_rows : (lanes : List Vector) (d : Vector) (list : List ℕ) (ints : List ℤ) → length lanes ≡ 1
    → map Int ints ≡ selected (values_of (get_or lanes 0 d)) list → int_keys ints ≡ rows_at lanes list
int_rows lanes d list ints one are =
    keys_of_ints ints ∙ ap (map (λ (x : Value). x ∷ [])) are ∙ sym (one_column (get_or lanes 0 d) list) ∙ ap (λ (vs : List Vector). rows_at vs list) (sym (one_lane lanes d one))

pub int_key_at : (ints : List ℤ) (k : ℕ) (d : ℤ) → k < length ints → Int (get_or ints k d) ∷ [] ≡ get_or (int_keys ints) k []
int_key_at ints k d here = sym (get_or-map (λ (z : ℤ). Int z ∷ []) ints k d [] here)

pub int_keys_long : (ints : List ℤ) → length (int_keys ints) ≡ length ints
int_keys_long ints = length-map ints (λ (z : ℤ). Int z ∷ [])
