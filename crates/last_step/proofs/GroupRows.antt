-- What expressions read of groups has the types that the plan declares.
use Rattle.std.proofs.Common.{◌≡◌, ℕ, zero, suc, ◌<◌, Bool, true, false, cond, ◌&&◌, List, [], ◌∷◌, map, length, get_or, Some, None, Ok, Err, refl, sym, ap, ◌∙◌, subst, arith}
use Rattle.std.specs.Prelude.{Option, Result, ℤ, pos, zip, slice_get, unwrap_or, int_div, ◌==◌, not}
use Rattle.std.specs.List.{list_all}
use Rattle.std.specs.Cmp.Lexicographic.{pointwise}
use Rattle.meaning.specs.declared.answer.Group.{Group}
use Rattle.meaning.specs.declared.answer.Statistics.{Statistics}
use Rattle.meaning.specs.declared.plan.Aggregate.{Aggregate}
use Rattle.meaning.specs.declared.plan.AggregateKind.{AggregateKind}
use Rattle.meaning.specs.declared.plan.AggregateKind.TheVariants.{CountRows, Count, Sum, Min, Max, Avg, CountDistinct, SumDistinct}
use Rattle.meaning.specs.declared.plan.GroupingKey.{GroupingKey}
use Rattle.meaning.specs.declared.plan.Plan.{Plan}
use Rattle.meaning.specs.declared.value.ColType.{ColType}
use Rattle.meaning.specs.declared.value.ColType.TheVariants as of_type
use Rattle.meaning.specs.declared.value.Value.{Value}
use Rattle.meaning.specs.declared.value.Value.TheVariants.{Null, Int}
use Rattle.meaning.specs.Aggregate.{total, value}
use Rattle.meaning.specs.Fitting.{is_entry_of, is_extreme, is_group_of, is_key_of, is_state_of}
use Rattle.meaning.specs.Operators.{fits_i64, sum_out_of_range}
use Rattle.meaning.specs.Order.{Row, column, is_null}
use Rattle.meaning.specs.Results.{all_ok, with_result}
use Rattle.meaning.specs.Typing.{are_of_types, fits_row_types, group_types, is_of_type, result_type}
use Rattle.meaning.proofs.Tests.{first_of, second_of, both}
use Rattle.last_step.specs.Batches.{HasAt, HasValues, fits, row_in, row_of}
use Rattle.last_step.proofs.Checked.{judge}

-- ---- the values of aggregates

record IsTaken (r : Result Value ℕ) (rs : Result Row ℕ) (row : Row) : Type 0 where
  pub head : Value
  pub tail : Row
  pub is_head : r ≡ Ok head
  pub is_tail : rs ≡ Ok tail
  pub parts : row ≡ head ∷ tail

taken : (r : Result Value ℕ) (rs : Result Row ℕ) (row : Row) → with_result r rs ≡ Ok row → IsTaken r rs row
taken (Ok v) (Ok vs) row e = let is : v ∷ vs ≡ row = cc in record { head = v; tail = vs; is_head = refl; is_tail = refl; parts = sym is }
taken (Ok v) (Err c) row e = absurd cc
taken (Err c) rs row e = absurd cc

-- the state of an aggregate gives its value
record IsAt (states : List Statistics) (row : Row) (kind : AggregateKind) (j : ℕ) : Type 0 where
  pub within : j < length states
  pub gives : (d : Statistics) → value kind (get_or states j d) ≡ Ok (column row j)

at_index : (aggs : List Aggregate) (states : List Statistics) (row : Row) → pointwise is_state_of aggs states ≡ true → all_ok (map judge (zip aggs states)) ≡ Ok row
    → (j : ℕ) (a : Aggregate) → j < length aggs → a ≡ get_or aggs j a → IsAt states row a.kind j
at_index [] states row shape are j a below at = absurd (omega (arith, below))
at_index (x ∷ aggs) [] row shape are j a below at = absurd cc
at_index (x ∷ aggs) (s ∷ states) row shape are zero a below at =
    let t = taken (judge (x, s)) (all_ok (map judge (zip aggs states))) row are in
    record {
      within = omega arith;
      gives = λ d. ap (λ (b : Aggregate). value b.kind s) at ∙ t.is_head ∙ ap (λ (r : Row). Ok (column r 0)) (sym t.parts);
    }
at_index (x ∷ aggs) (s ∷ states) row shape are (suc j) a below at =
    let t = taken (judge (x, s)) (all_ok (map judge (zip aggs states))) row are in
    let rest = at_index aggs states t.tail (second_of (is_state_of x s) (pointwise is_state_of aggs states) shape) t.is_tail j a (omega (arith, below)) at in
    record {
      within = let h = rest.within in omega (arith, h);
      gives = λ d. rest.gives d ∙ ap (λ (r : Row). Ok (column r (suc j))) (sym t.parts);
    }

pub has_at : (plan : Plan) (g : Group) (j : ℕ) (a : Aggregate) → j < length plan.aggs → a ≡ get_or plan.aggs j a → is_group_of plan g ≡ true → HasValues plan g → HasAt plan a.kind j g
has_at plan g j a below at shape has =
    let is = at_index plan.aggs g.states has.row (second_of (is_key_of plan g.key) (pointwise is_state_of plan.aggs g.states) shape) has.are j a below at in
    record { within = is.within; gives = λ d. is.gives d ∙ ap (λ (r : Result Row ℕ). Ok (column (row_of r) j)) (sym has.are) }

-- ---- types

extreme_typed : (t : ColType) (o : Option Value) → is_extreme t o ≡ true → is_of_type t (unwrap_or o Null) ≡ true
extreme_typed t None e = refl
extreme_typed t (Some v) e = second_of (not (is_null v)) (is_of_type t v) e

as_fits : (w v : Value) → w ≡ v → fits v ≡ true → (fits w ≡ true → is_of_type of_type.Int w ≡ true) → is_of_type of_type.Int v ≡ true
as_fits w v same fit to = subst (λ (x : Value). is_of_type of_type.Int x ≡ true) same (to (subst (λ (x : Value). fits x ≡ true) (sym same) fit))

sum_typed : (empty fitting : Bool) (z : ℤ) (v : Value) → cond empty (Ok Null) (cond fitting (Ok (Int z)) (Err sum_out_of_range)) ≡ Ok v → fits v ≡ true → is_of_type of_type.Int v ≡ true
sum_typed true fitting z v e fit = let same : Null ≡ v = cc in as_fits Null v same fit (λ f. refl)
sum_typed false true z v e fit = let same : Int z ≡ v = cc in as_fits (Int z) v same fit (λ f. f)
sum_typed false false z v e fit = absurd cc

one_typed : (kind : AggregateKind) (t : ColType) (s : Statistics) (v : Value) → is_extreme t s.least ≡ true → is_extreme t s.greatest ≡ true → value kind s ≡ Ok v → fits v ≡ true
    → is_of_type (result_type kind t) v ≡ true
one_typed CountRows t s v low high e fit = let same : Int (pos s.count) ≡ v = cc in as_fits (Int (pos s.count)) v same fit (λ f. f)
one_typed Count t s v low high e fit = let same : Int (pos s.count) ≡ v = cc in as_fits (Int (pos s.count)) v same fit (λ f. f)
one_typed Sum t s v low high e fit = sum_typed (s.count == 0) (fits_i64 s.sum) s.sum v e fit
one_typed Avg t s v low high e fit = sum_typed (s.count == 0) true (int_div s.sum (pos s.count)) v e fit
one_typed Min t s v low high e fit = let same : unwrap_or s.least Null ≡ v = cc in subst (λ (x : Value). is_of_type t x ≡ true) same (extreme_typed t s.least low)
one_typed CountDistinct t s v low high e fit = let same : Int (pos (length s.entries)) ≡ v = cc in as_fits (Int (pos (length s.entries))) v same fit (λ f. f)
one_typed SumDistinct t s v low high e fit = sum_typed (length s.entries == 0) (fits_i64 (total s.entries)) (total s.entries) v e fit
one_typed Max t s v low high e fit = let same : unwrap_or s.greatest Null ≡ v = cc in subst (λ (x : Value). is_of_type t x ≡ true) same (extreme_typed t s.greatest high)

-- the greatest and the set of some statistics are of a type
abbrev are_rest_of_type : ColType → Statistics → Bool
are_rest_of_type t s = is_extreme t s.greatest && list_all (is_entry_of t) s.entries

abbrev type_of : Aggregate → ColType
type_of a = result_type a.kind a.col_type

values_typed : (aggs : List Aggregate) (states : List Statistics) (row : Row) → pointwise is_state_of aggs states ≡ true → all_ok (map judge (zip aggs states)) ≡ Ok row → list_all fits row ≡ true
    → are_of_types (map type_of aggs) row ≡ true
values_typed [] states row shape are fit = let none : [] ≡ row = cc in ap (are_of_types []) (sym none)
values_typed (a ∷ aggs) [] row shape are fit = cc
values_typed (a ∷ aggs) (s ∷ states) row shape are fit =
    let t = taken (judge (a, s)) (all_ok (map judge (zip aggs states))) row are in
    let state = first_of (is_state_of a s) (pointwise is_state_of aggs states) shape in
    let typed = second_of _ (is_extreme a.col_type s.least && are_rest_of_type a.col_type s) state in
    let rest = second_of (is_extreme a.col_type s.least) (are_rest_of_type a.col_type s) typed in
    let fit' : list_all fits (t.head ∷ t.tail) ≡ true = ap (list_all fits) (sym t.parts) ∙ fit in
    ap (are_of_types (map type_of (a ∷ aggs))) t.parts
    ∙ both (is_of_type (type_of a) t.head) (are_of_types (map type_of aggs) t.tail)
    (one_typed a.kind a.col_type s t.head (first_of (is_extreme a.col_type s.least) (are_rest_of_type a.col_type s) typed) (first_of (is_extreme a.col_type s.greatest) (list_all (is_entry_of a.col_type) s.entries) rest) t.is_head (first_of (fits t.head) (list_all fits t.tail) fit'))
    (values_typed aggs states t.tail (second_of (is_state_of a s) (pointwise is_state_of aggs states) shape) t.is_tail (second_of (fits t.head) (list_all fits t.tail) fit'))

keys_typed : (keys : List GroupingKey) (key : Row) → pointwise (λ k v. is_of_type k.col_type v) keys key ≡ true → are_of_types (map (λ k. k.col_type) keys) key ≡ true
keys_typed [] [] e = refl
keys_typed [] (v ∷ key) e = cc
keys_typed (k ∷ keys) [] e = cc
keys_typed (k ∷ keys) (v ∷ key) e =
    both (is_of_type k.col_type v) (are_of_types (map (λ k. k.col_type) keys) key)
    (first_of (is_of_type k.col_type v) (pointwise (λ k v. is_of_type k.col_type v) keys key) e)
    (keys_typed keys key (second_of (is_of_type k.col_type v) (pointwise (λ k v. is_of_type k.col_type v) keys key) e))

pub key_typed : (plan : Plan) (g : Group) → is_group_of plan g ≡ true → are_of_types (group_types plan).key g.key ≡ true
key_typed plan g shape = keys_typed plan.keys g.key (first_of (is_key_of plan g.key) (pointwise is_state_of plan.aggs g.states) shape)

pub aggregates_typed : (plan : Plan) (g : Group) → is_group_of plan g ≡ true → HasValues plan g → are_of_types (group_types plan).aggregates (row_in plan g).aggregates ≡ true
aggregates_typed plan g shape has =
    ap (λ (r : Result Row ℕ). are_of_types (group_types plan).aggregates (row_of r)) has.are
    ∙ values_typed plan.aggs g.states has.row (second_of (is_key_of plan g.key) (pointwise is_state_of plan.aggs g.states) shape) has.are has.fit

pub row_typed : (plan : Plan) (g : Group) → is_group_of plan g ≡ true → HasValues plan g → fits_row_types (group_types plan) (row_in plan g) ≡ true
row_typed plan g shape has = both _ _ refl (both _ _ refl (both _ _ (key_typed plan g shape) (aggregates_typed plan g shape has)))

-- the value in a column of typed rows
pub of_column : (types : List ColType) (row : Row) (j : ℕ) (t : ColType) → are_of_types types row ≡ true → slice_get types j ≡ Some t → is_of_type t (column row j) ≡ true
of_column [] row j t e at = absurd cc
of_column (u ∷ types) [] j t e at = refl
of_column (u ∷ types) (v ∷ row) zero t e at = let same : u ≡ t = cc in subst (λ (k : ColType). is_of_type k v ≡ true) same (first_of (is_of_type u v) (are_of_types types row) e)
of_column (u ∷ types) (v ∷ row) (suc j) t e at = of_column types row j t (second_of (is_of_type u v) (are_of_types types row) e) at

pub get_typed : {X : Type 0} (f : X → ColType) (xs : List X) (j : ℕ) (x : X) → j < length xs → x ≡ get_or xs j x → slice_get (map f xs) j ≡ Some (f x)
get_typed f [] j x below at = absurd (omega (arith, below))
get_typed f (y ∷ xs) zero x below at = ap (λ z. Some (f z)) (sym at)
get_typed f (y ∷ xs) (suc j) x below at = get_typed f xs j x (omega (arith, below)) at
