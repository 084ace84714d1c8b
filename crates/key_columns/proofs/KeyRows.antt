-- Keys by columns, read one by one.
use Rattle.std.specs.Prelude.{◌≡◌, ℕ, ◌+◌, ◌<◌, ◌≤◌, List, [], ◌∷◌, ◌++◌, length, take, get_or}
use Rattle.std.proofs.Common.{sym, ap, subst, ◌∙◌, arith, inl, inr}
use Rattle.std.proofs.lemmas.Bool.{cases_lt}
use Rattle.std.proofs.lemmas.List.{length-map, get_or-map, ext_get_or, get_or_default, take_more, get_or_past, get_or_append_left, get_or_at, length_push}
use Rattle.std.proofs.lemmas.List.FromFn.{length-map-range_with_len, get_or-map-range_with_len}
use Rattle.meaning.specs.declared.value.Value.{Value}
use Rattle.meaning.specs.declared.value.Value.TheVariants.{Null}
use Rattle.meaning.specs.Order.{Row, column}
use Rattle.columns.specs.Column.{ColumnSpec}
use Rattle.key_columns.specs.Keys.{key_at, keys_in, no_column, AreFull, AreWith}

pub keys_long : (many : ℕ) (columns : List ColumnSpec) → length (keys_in many columns) ≡ many
keys_long many columns = length-map-range_with_len (key_at columns) 0 many

pub key_there : (many : ℕ) (columns : List ColumnSpec) (g : ℕ) (d : Row) → g < many → get_or (keys_in many columns) g d ≡ key_at columns g
key_there many columns g d here = get_or-map-range_with_len (key_at columns) 0 many g g d here (omega arith)

pub in_column : (columns : List ColumnSpec) (g c : ℕ) → c < length columns → get_or (key_at columns g) c Null ≡ get_or (get_or columns c no_column).values g Null
in_column columns g c here = get_or-map (λ (one : ColumnSpec). get_or one.values g Null) columns c no_column Null here

-- the value in a column of the key at a group index
module _ (many : ℕ) (columns : List ColumnSpec) (keys : List Row) (view : keys_in many columns ≡ keys) (g at : ℕ) (here : g < length keys) where
  pub below : g < many
  below = subst (λ (n : ℕ). g < n) (sym (ap (λ (ks : List Row). length ks) view) ∙ keys_long many columns) here

  key_is : get_or keys g [] ≡ key_at columns g
  key_is = ap (λ (ks : List Row). get_or ks g []) (sym view) ∙ key_there many columns g [] below

  pub past : length columns ≤ at → Null ≡ column (get_or keys g []) at
  past l = sym (ap (λ (row : Row). get_or row at Null) key_is ∙ get_or_past (key_at columns g) at Null (subst (λ (n : ℕ). n ≤ at) (sym (length-map columns (λ (one : ColumnSpec). get_or one.values g Null))) l))

  pub in_key : (d : ColumnSpec) → at < length columns → get_or (get_or columns at d).values g Null ≡ column (get_or keys g []) at
  in_key d l = sym (ap (λ (row : Row). get_or row at Null) key_is ∙ get_or-map (λ (one : ColumnSpec). get_or one.values g Null) columns at d Null l)

  pub wide : length (get_or keys g []) ≡ length columns
  wide = ap (λ (row : Row). length row) key_is ∙ length-map columns (λ (one : ColumnSpec). get_or one.values g Null)

-- a key that is read value by value
pub row_more : (row so_far new : Row) (v : Value) (at : ℕ) → at < length row → v ≡ column row at → so_far ≡ take at row → new ≡ so_far ++ v ∷ [] → new ≡ take (at + 1) row
row_more row so_far new v at here is before e = e ∙ (λ i. before i ++ is i ∷ []) ∙ sym (take_more row at Null here)

pub column_full : (many : ℕ) (columns : List ColumnSpec) (g at : ℕ) (d : ColumnSpec) → AreFull many columns → g < many → at < length columns → g < length (get_or columns at d).values
column_full many columns g at d full here l = subst (λ (n : ℕ). g < n) (sym (full at d l)) here

-- a key more
module _ (many : ℕ) (key : Row) (old new : List ColumnSpec) (long : length old ≡ length key) (full : AreFull many old) (with_key : AreWith key old new) where
  value_more : (c g : ℕ) → c < length old → g < many → get_or (get_or new c no_column).values g Null ≡ get_or (get_or old c no_column).values g Null
  value_more c g l here =
      ap (λ (one : ColumnSpec). get_or one.values g Null) (with_key.each c l)
      ∙ get_or_append_left (get_or old c no_column).values (get_or key c Null ∷ []) Null g (subst (λ (n : ℕ). g < n) (sym (full c no_column l)) here)

  value_last : (c : ℕ) → c < length old → get_or (get_or new c no_column).values many Null ≡ get_or key c Null
  value_last c l =
      ap (λ (one : ColumnSpec). get_or one.values many Null) (with_key.each c l)
      ∙ get_or_at (get_or old c no_column).values (get_or key c Null) [] Null many (full c no_column l)

  width : (columns : List ColumnSpec) (g : ℕ) → length (key_at columns g) ≡ length columns
  width columns g = length-map columns (λ (one : ColumnSpec). get_or one.values g Null)

  key_before : (g : ℕ) → g < many → key_at new g ≡ key_at old g
  key_before g here = ext_get_or Null (key_at new g) (key_at old g) (width new g ∙ with_key.long ∙ sym (width old g)) (λ c l.
      let in_new : c < length new = subst (λ (n : ℕ). c < n) (width new g) l in
      let in_old : c < length old = subst (λ (n : ℕ). c < n) with_key.long in_new in
      in_column new g c in_new ∙ value_more c g in_old here ∙ sym (in_column old g c in_old))

  key_last : key_at new many ≡ key
  key_last = ext_get_or Null (key_at new many) key (width new many ∙ with_key.long ∙ long) (λ c l.
      let in_new : c < length new = subst (λ (n : ℕ). c < n) (width new many) l in
      let in_old : c < length old = subst (λ (n : ℕ). c < n) with_key.long in_new in
      in_column new many c in_new ∙ value_last c in_old)

  pub keys_more : keys_in (many + 1) new ≡ keys_in many old ++ key ∷ []
  keys_more = ext_get_or [] (keys_in (many + 1) new) (keys_in many old ++ key ∷ [])
      (keys_long (many + 1) new ∙ (let e = length_push (keys_in many old) key in let l = keys_long many old in let r : many + 1 ≡ length (keys_in many old ++ key ∷ []) = omega (arith, e, l) in r)) (λ g l.
      let here : g < many + 1 = subst (λ (n : ℕ). g < n) (keys_long (many + 1) new) l in
      key_there (many + 1) new g [] here
      ∙ elim (cases_lt g many) [
        | inl before ↦ key_before g before ∙ sym (key_there many old g [] before)
            ∙ sym (get_or_append_left (keys_in many old) (key ∷ []) [] g (subst (λ (n : ℕ). g < n) (sym (keys_long many old)) before))
        | inr late ↦ (
            let at : g ≡ many = omega (arith, late, here) in
            ap (key_at new) at ∙ key_last ∙ sym (get_or_at (keys_in many old) key [] [] g (keys_long many old ∙ sym at)))
      ])

  pub full_more : AreFull (many + 1) new
  full_more c d l =
      let in_old : c < length old = subst (λ (n : ℕ). c < n) with_key.long l in
      ap (λ (one : ColumnSpec). length one.values) (get_or_default new c d no_column l ∙ with_key.each c in_old)
      ∙ length_push (get_or old c no_column).values (get_or key c Null)
      ∙ ap (λ (n : ℕ). n + 1) (full c no_column in_old)
