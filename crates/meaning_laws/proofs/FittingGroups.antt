-- Groups that fit are merged into one that fits, and what is read off one has its types.
use Rattle.std.proofs.Common.{◌≡◌, ℕ, zero, suc, ◌+◌, ◌*◌, ◌<◌, ◌≤◌, ◌==◌, ℤ, pos, negsuc, Bool, true, false, cond, ◌&&◌, List, [], ◌∷◌, length, map, Option, Some, None, Result, Ok, Err, refl, sym, ap, subst, ◌∙◌, arith}
use Rattle.std.proofs.lemmas.Int.{ints}
use Rattle.std.specs.Prelude.{◌^◌, ◌/◌, ◌+ℤ◌, ◌*ℤ◌, ◌≤ℤ◌, neg_ℤ, int_div, int_le, nat_le, zip, unwrap_or}
use Rattle.std.specs.List.{list_all}
use Rattle.std.specs.Cmp.Lexicographic.{pointwise}
use Rattle.std.specs.declared.cmp.Ordering.{Ordering}
use Rattle.std.specs.Ordering.{ord_min}
use Rattle.std.proofs.Math.Nat.{div-le_of_le-mul}
use Rattle.std.proofs.lemmas.Bool.{lt-ltb, eqb-true, eq-eqb}
use Rattle.std.proofs.lemmas.Bool.Decides.{nat_tests}
use Rattle.meaning.specs.declared.value.Value.{Value}
use Rattle.meaning.specs.declared.value.Value.TheVariants.{Null, Int}
use Rattle.meaning.specs.declared.value.ColType.{ColType}
use Rattle.meaning.specs.declared.value.ColType.TheVariants as of_type
use Rattle.meaning.specs.declared.plan.AggregateKind.{AggregateKind}
use Rattle.meaning.specs.declared.plan.AggregateKind.TheVariants.{CountRows, Count, Sum, Min, Max, Avg, CountDistinct, SumDistinct}
use Rattle.meaning.specs.declared.plan.Aggregate.{Aggregate}
use Rattle.meaning.specs.declared.plan.GroupingKey.{GroupingKey}
use Rattle.meaning.specs.declared.plan.Plan.{Plan}
use Rattle.meaning.specs.declared.answer.Statistics.{Statistics}
use Rattle.meaning.specs.declared.answer.Group.{Group}
use Rattle.meaning.specs.Order.{Row, value_cmp, lesser, union}
use Rattle.meaning.specs.Operators.{fits_i64, sum_out_of_range}
use Rattle.meaning.specs.Results.{all_ok}
use Rattle.meaning.specs.Aggregate.{down_cmp, kept_by, merge, sum_value, total, value}
use Rattle.meaning.specs.Group.{merge_groups}
use Rattle.meaning.specs.Answer.{read_off}
use Rattle.meaning.specs.Gather.{same_statistics}
use Rattle.meaning.specs.Joined.{group_row}
use Rattle.meaning.specs.Typing.{is_of_type, are_of_types, fits_row_types, result_type, group_types}
use Rattle.meaning.specs.Fitting.{is_extreme, is_entry_of, is_key_of, is_state_of, is_group_of, least_integer, greatest_integer, is_sum_of, is_there, is_possible, is_group_possible}
use Rattle.meaning.proofs.Tests.{first_of, second_of, both}
use Rattle.meaning.proofs.Same.{statistics_exact}
use Rattle.meaning.proofs.Merge.{kept_by-merge}
use Rattle.meaning.proofs.Unions.{all_union, few_in_union}
use Rattle.meaning_laws.proofs.StatisticsFit.{are_of_type, lesser_extreme, nat_le_yes, passes}
use Rattle.meaning_laws.proofs.LoadedRows.{front_ok}

-- ---- numbers

bound : (a b : ℤ) → int_le a b ≡ true → a ≤ℤ b
bound a b h = grind (arith, ints)

sums_add : (m n : ℕ) (x z : ℤ) → is_sum_of m x ≡ true → is_sum_of n z ≡ true → is_sum_of (m + n) (x +ℤ z) ≡ true
sums_add m n x z a b =
    let low_x : neg_ℤ (pos (m * 9223372036854775808)) ≤ℤ x = bound (pos m *ℤ least_integer) x (first_of _ _ a) in
    let high_x : x ≤ℤ pos (m * 9223372036854775807) =
    bound x (pos m *ℤ greatest_integer)
    (second_of (int_le (pos m *ℤ least_integer) x) (int_le x (pos m *ℤ greatest_integer)) a) in
    let low_z : neg_ℤ (pos (n * 9223372036854775808)) ≤ℤ z = bound (pos n *ℤ least_integer) z (first_of _ _ b) in
    let high_z : z ≤ℤ pos (n * 9223372036854775807) =
    bound z (pos n *ℤ greatest_integer)
    (second_of (int_le (pos n *ℤ least_integer) z) (int_le z (pos n *ℤ greatest_integer)) b) in
    let low : (pos (m + n) *ℤ least_integer) ≤ℤ (x +ℤ z) = omega (arith, ints) in
    let high : (x +ℤ z) ≤ℤ (pos (m + n) *ℤ greatest_integer) = omega (arith, ints) in
    both _ _ (passes _ _ low) (passes _ _ high)

small : (m : ℕ) → m ≤ 9223372036854775807 → fits_i64 (pos m) ≡ true
small m h = lt-ltb m (2 ^ 63) (omega arith)

small_negated : (m : ℕ) → m ≤ 9223372036854775808 → fits_i64 (neg_ℤ (pos m)) ≡ true
small_negated zero h = refl
small_negated (suc m) h = lt-ltb m (2 ^ 63) (omega arith)

-- the mean of entries of 64 bits has 64 bits
mean_fits : (n : ℕ) (z : ℤ) → is_sum_of n z ≡ true → fits_i64 (int_div z (pos n)) ≡ true
mean_fits n (pos a) e =
    let high : pos a ≤ℤ pos (n * 9223372036854775807) =
    bound (pos a) (pos n *ℤ greatest_integer)
    (second_of (int_le (pos n *ℤ least_integer) (pos a)) (int_le (pos a) (pos n *ℤ greatest_integer)) e) in
    let below : a ≤ n * 9223372036854775807 = omega (arith, ints) in
    small (a / n) (div-le_of_le-mul n below)
mean_fits n (negsuc a) e =
    let low : neg_ℤ (pos (n * 9223372036854775808)) ≤ℤ negsuc a =
    bound (pos n *ℤ least_integer) (negsuc a) (first_of _ _ e) in
    let below : suc a ≤ n * 9223372036854775808 = omega (arith, ints) in
    small_negated (suc a / n) (div-le_of_le-mul n below)

few : (m n : ℕ) → nat_le m n ≡ true → m ≤ n
few m n h = grind (arith, nat_tests)

few_more : (m n i j : ℕ) → nat_le m i ≡ true → nat_le n j ≡ true → nat_le (m + n) (i + j) ≡ true
few_more m n i j a b = let x = few m i a in let y = few n j b in nat_le_yes (m + n) (i + j) (omega arith)

-- ---- one state

none_there : (n : ℕ) → is_there n None ≡ true → n ≡ 0
none_there n e = elim (n == 0) as (λ b. n == 0 ≡ b → cond b true false ≡ true → n ≡ 0) [
  | true ↦ λ none _. eqb-true n 0 none
  | false ↦ λ _ bad. cc
] refl e

some_there : (n : ℕ) (v : Value) → is_there n (Some v) ≡ true → (n == 0) ≡ false
some_there n v e = elim (n == 0) as
    (λ b. cond b false true ≡ true → b ≡ false) [ true ↦ λ bad. sym bad | false ↦ λ _. refl ] e

still_some : (m n : ℕ) (v : Value) → (m == 0) ≡ false → is_there (m + n) (Some v) ≡ true
still_some m n v e = let some : ((m + n) == 0) ≡ false = grind (arith, nat_tests) in ap (λ b. cond b false true) some

-- an extreme stands where there is an entry, of two states together
there_together : (cmp : Value → Value → Ordering) (m n : ℕ) (v w : Option Value) → is_there m v ≡ true → is_there n w
    ≡ true
    → is_there (m + n) (lesser cmp v w) ≡ true
there_together cmp m n None w a b =
    let none = none_there m a in
    let same : m + n ≡ n = omega arith in
    ap (λ k. is_there k w) same ∙ b
there_together cmp m n (Some x) None a b = still_some m n x (some_there m x a)
there_together cmp m n (Some x) (Some y) a b = still_some m n (ord_min cmp x y) (some_there m x a)

-- the greatest and the set of some statistics are of a type
abbrev are_rest_of_type : ColType → Statistics → Bool
are_rest_of_type t s = is_extreme t s.greatest && list_all (is_entry_of t) s.entries

-- a set of two has no more entries than there are rows
few_united : (i j : ℕ) (s t : Statistics) → nat_le (length s.entries) i ≡ true → nat_le (length t.entries) j
    ≡ true → nat_le (length (union value_cmp s.entries t.entries)) (i + j) ≡ true
few_united i j s t p q =
    let x = few (length s.entries) i p in
    let y = few (length t.entries) j q in
    let united = few_in_union value_cmp s.entries t.entries in
    nat_le_yes (length (union value_cmp s.entries t.entries)) (i + j) (omega arith)

merged_state : (a : Aggregate) (s t : Statistics) → is_state_of a s ≡ true → is_state_of a t
    ≡ true → is_state_of a (merge s t) ≡ true
merged_state a s t p q =
    let of_s = second_of (same_statistics (kept_by a.kind s) s) (are_of_type a.col_type s) p in
    let of_t = second_of (same_statistics (kept_by a.kind t) t) (are_of_type a.col_type t) q in
    let rest_of_s = second_of (is_extreme a.col_type s.least) (are_rest_of_type a.col_type s) of_s in
    let rest_of_t = second_of (is_extreme a.col_type t.least) (are_rest_of_type a.col_type t) of_t in
    let kept_s = (statistics_exact (kept_by a.kind s) s).0 (first_of _ _ p) in
    let kept_t = (statistics_exact (kept_by a.kind t) t).0 (first_of _ _ q) in
    both _ _ ((statistics_exact _ _).1 (kept_by-merge a.kind s t ∙ (λ i. merge (kept_s i) (kept_t i))))
    (both _ _ (lesser_extreme a.col_type value_cmp s.least t.least (first_of _ _ of_s) (first_of _ _ of_t))
    (both _ _ (lesser_extreme a.col_type down_cmp s.greatest t.greatest (first_of _ _ rest_of_s) (first_of _ _ rest_of_t))
    (all_union value_cmp (is_entry_of a.col_type) s.entries t.entries
    (second_of (is_extreme a.col_type s.greatest) (list_all (is_entry_of a.col_type) s.entries) rest_of_s)
    (second_of (is_extreme a.col_type t.greatest) (list_all (is_entry_of a.col_type) t.entries) rest_of_t))))

merged_possible : (kind : AggregateKind) (i j : ℕ) (s t : Statistics) → is_possible kind i s
    ≡ true → is_possible kind j t ≡ true
    → is_possible kind (i + j) (merge s t) ≡ true
merged_possible CountRows i j s t p q =
    let x = eqb-true s.count i p in
    let y = eqb-true t.count j q in
    eq-eqb (s.count + t.count) (i + j) (omega arith)
merged_possible Count i j s t p q = few_more s.count t.count i j p q
merged_possible Sum i j s t p q =
    both _ _ (few_more s.count t.count i j (first_of _ _ p) (first_of _ _ q))
    (sums_add s.count t.count s.sum t.sum (second_of (nat_le s.count i) (is_sum_of s.count s.sum) p)
    (second_of (nat_le t.count j) (is_sum_of t.count t.sum) q))
merged_possible Avg i j s t p q =
    both _ _ (few_more s.count t.count i j (first_of _ _ p) (first_of _ _ q))
    (sums_add s.count t.count s.sum t.sum (second_of (nat_le s.count i) (is_sum_of s.count s.sum) p)
    (second_of (nat_le t.count j) (is_sum_of t.count t.sum) q))
merged_possible Min i j s t p q =
    both _ _ (few_more s.count t.count i j (first_of _ _ p) (first_of _ _ q))
    (there_together value_cmp s.count t.count s.least t.least
    (second_of (nat_le s.count i) (is_there s.count s.least) p)
    (second_of (nat_le t.count j) (is_there t.count t.least) q))
merged_possible Max i j s t p q =
    both _ _ (few_more s.count t.count i j (first_of _ _ p) (first_of _ _ q))
    (there_together down_cmp s.count t.count s.greatest t.greatest
    (second_of (nat_le s.count i) (is_there s.count s.greatest) p)
    (second_of (nat_le t.count j) (is_there t.count t.greatest) q))
merged_possible CountDistinct i j s t p q = few_united i j s t p q
merged_possible SumDistinct i j s t p q = few_united i j s t p q

-- ---- groups

merged_states : (t : Aggregate → Statistics → Bool) (u : Aggregate → Statistics → Bool)
    (r : Aggregate → Statistics → Bool)
    → ((a : Aggregate) (s z : Statistics) → t a s ≡ true → u a z ≡ true → r a (merge s z) ≡ true)
    → (aggs : List Aggregate) (ss zs : List Statistics) → pointwise t aggs ss ≡ true → pointwise u aggs zs ≡ true
    → pointwise r aggs (map (λ p. merge p.0 p.1) (zip ss zs)) ≡ true
merged_states t u r step [] [] [] p q = refl
merged_states t u r step [] [] (z ∷ zs) p q = cc
merged_states t u r step [] (s ∷ ss) zs p q = cc
merged_states t u r step (a ∷ aggs) [] zs p q = cc
merged_states t u r step (a ∷ aggs) (s ∷ ss) [] p q = cc
merged_states t u r step (a ∷ aggs) (s ∷ ss) (z ∷ zs) p q =
    both _ _ (step a s z (first_of _ _ p) (first_of _ _ q))
    (merged_states t u r step aggs ss zs (second_of (t a s) (pointwise t aggs ss) p)
    (second_of (u a z) (pointwise u aggs zs) q))

pub groups_shaped : (plan : Plan) (a b : Group) → is_group_of plan a ≡ true → is_group_of plan b
    ≡ true → is_group_of plan (merge_groups a b) ≡ true
groups_shaped plan a b p q =
    both _ _ (first_of _ _ q)
    (merged_states is_state_of is_state_of is_state_of merged_state plan.aggs a.states b.states
    (second_of (is_key_of plan a.key) (pointwise is_state_of plan.aggs a.states) p)
    (second_of (is_key_of plan b.key) (pointwise is_state_of plan.aggs b.states) q))

pub groups_possible : (plan : Plan) (a b : Group) → is_group_possible plan a ≡ true → is_group_possible plan b
    ≡ true → is_group_possible plan (merge_groups a b) ≡ true
groups_possible plan a b p q =
    merged_states (λ g s. is_possible g.kind a.rows s) (λ g s. is_possible g.kind b.rows s)
    (λ g s. is_possible g.kind (a.rows + b.rows) s)
    (λ g s z. merged_possible g.kind a.rows b.rows s z) plan.aggs a.states b.states p q

-- ---- what is read off

extreme_typed : (kind : ColType) (v : Option Value) → is_extreme kind v ≡ true → is_of_type kind (unwrap_or v Null)
    ≡ true
extreme_typed kind None e = refl
extreme_typed kind (Some v) e = second_of _ _ e

-- a count below 2^63
count_typed : (n rows : ℕ) (v : Value) → n ≤ rows → rows < 2 ^ 63 → Int (pos n) ≡ v → is_of_type of_type.Int v ≡ true
count_typed n rows v within below is = subst (λ w. is_of_type of_type.Int w ≡ true) is (lt-ltb n (2 ^ 63) (omega arith))

abbrev sum_if : Bool → ℤ → Result Value ℕ
sum_if fit z = cond fit (Ok (Int z)) (Err sum_out_of_range)

-- a sum that is there has 64 bits
sum_typed : (empty : Bool) (z : ℤ) (v : Value) → cond empty (Ok Null) (sum_value z) ≡ Ok v → is_of_type of_type.Int v
    ≡ true
sum_typed true z v e = let is : Null ≡ v = cc in subst (λ w. is_of_type of_type.Int w ≡ true) is refl
sum_typed false z v e =
    elim (fits_i64 z) as (λ b. fits_i64 z ≡ b → sum_if b z ≡ Ok v → is_of_type of_type.Int v ≡ true) [
      | true ↦ λ fit same. let is : Int z ≡ v = cc in subst (λ w. is_of_type of_type.Int w ≡ true) is fit
      | false ↦ λ _ bad. cc
    ] refl e

abbrev mean_of : ℤ → ℕ → Result Value ℕ
mean_of z n = Ok (Int (int_div z (pos n)))

mean_typed : (empty : Bool) (n : ℕ) (z : ℤ) (v : Value) → is_sum_of n z ≡ true → cond empty (Ok Null) (mean_of z n)
    ≡ Ok v → is_of_type of_type.Int v ≡ true
mean_typed true n z v sum e = let is : Null ≡ v = cc in subst (λ w. is_of_type of_type.Int w ≡ true) is refl
mean_typed false n z v sum e = let is : Int (int_div z (pos n)) ≡ v = cc in
    subst (λ w. is_of_type of_type.Int w ≡ true) is (mean_fits n z sum)

extreme_is : (kind : ColType) (o : Option Value) (v : Value) → is_extreme kind o ≡ true → unwrap_or o Null
    ≡ v → is_of_type kind v ≡ true
extreme_is kind o v e is = subst (λ w. is_of_type kind w ≡ true) is (extreme_typed kind o e)

value_typed : (kind : AggregateKind) (t : ColType) (rows : ℕ) (s : Statistics) (v : Value) → is_extreme t s.least
    ≡ true → is_extreme t s.greatest ≡ true
    → is_possible kind rows s ≡ true → rows < 2 ^ 63 → value kind s ≡ Ok v → is_of_type (result_type kind t) v ≡ true
value_typed CountRows t rows s v low high p below e = let all = eqb-true s.count rows p in
    count_typed s.count rows v (omega arith) below cc
value_typed Count t rows s v low high p below e = count_typed s.count rows v (few s.count rows p) below cc
value_typed Sum t rows s v low high p below e = sum_typed (s.count == 0) s.sum v e
value_typed Avg t rows s v low high p below e =
    mean_typed (s.count == 0) s.count s.sum v (second_of (nat_le s.count rows) (is_sum_of s.count s.sum) p) e
value_typed Min t rows s v low high p below e = extreme_is t s.least v low cc
value_typed Max t rows s v low high p below e = extreme_is t s.greatest v high cc
value_typed CountDistinct t rows s v low high p below e =
    count_typed (length s.entries) rows v (few (length s.entries) rows p) below cc
value_typed SumDistinct t rows s v low high p below e = sum_typed (length s.entries == 0) (total s.entries) v e

values_typed : (rows : ℕ) → rows < 2 ^ 63 → (aggs : List Aggregate) (states : List Statistics) (values : Row)
    → pointwise is_state_of aggs states ≡ true
    → pointwise (λ a s. is_possible a.kind rows s) aggs states
    ≡ true → all_ok (map (λ p. value p.0.kind p.1) (zip aggs states)) ≡ Ok values
    → are_of_types (map (λ a. result_type a.kind a.col_type) aggs) values ≡ true
values_typed rows below [] states values p q e = let none : [] ≡ values = cc in ap (are_of_types []) (sym none)
values_typed rows below (a ∷ aggs) [] values p q e = cc
values_typed rows below (a ∷ aggs) (s ∷ states) values p q e =
    let parts = front_ok (value a.kind s)
    (all_ok (map (λ (p : Aggregate × Statistics). value p.0.kind p.1) (zip aggs states))) values e in
    let state = first_of (is_state_of a s) (pointwise is_state_of aggs states) p in
    let typed = second_of (same_statistics (kept_by a.kind s) s) (are_of_type a.col_type s) state in
    let rest = second_of (is_extreme a.col_type s.least) (are_rest_of_type a.col_type s) typed in
    ap (are_of_types (map (λ (a : Aggregate). result_type a.kind a.col_type) (a ∷ aggs))) parts.whole
    ∙ both _ _ (value_typed a.kind a.col_type rows s parts.first (first_of _ _ typed) (first_of _ _ rest)
    (first_of _ _ q) below parts.here)
    (values_typed rows below aggs states parts.later (second_of (is_state_of a s) (pointwise is_state_of aggs states) p)
    (second_of (is_possible a.kind rows s) (pointwise (λ a s. is_possible a.kind rows s) aggs states) q) parts.behind)

keys_typed : (keys : List GroupingKey) (key : Row) → pointwise (λ k v. is_of_type k.col_type v) keys key
    ≡ true → are_of_types (map (λ k. k.col_type) keys) key ≡ true
keys_typed [] [] e = refl
keys_typed [] (v ∷ key) e = cc
keys_typed (k ∷ keys) [] e = cc
keys_typed (k ∷ keys) (v ∷ key) e =
    both _ _ (first_of (is_of_type k.col_type v) (pointwise (λ k v. is_of_type k.col_type v) keys key) e)
    (keys_typed keys key (second_of (is_of_type k.col_type v) (pointwise (λ k v. is_of_type k.col_type v) keys key) e))

pub groups_typed : (plan : Plan) (g : Group) (values : Row) → is_group_of plan g ≡ true → is_group_possible plan g
    ≡ true → g.rows < 2 ^ 63
    → all_ok (read_off plan g).aggregates ≡ Ok values → fits_row_types (group_types plan) (group_row g.key values)
    ≡ true
groups_typed plan g values p q below e =
    both _ _ refl (both _ _ refl (both _ _ (keys_typed plan.keys g.key (first_of _ _ p))
    (values_typed g.rows below plan.aggs g.states values
    (second_of (is_key_of plan g.key) (pointwise is_state_of plan.aggs g.states) p) q e)))
