-- An answer that fits a job has a spelling: each of its numbers, texts and values stands within its field.
use Rattle.std.proofs.Common.{◌≡◌, ℕ, zero, suc, ◌+◌, ◌*◌, ◌^◌, ◌<◌, ◌≤◌, ℤ, pos, negsuc, neg_ℤ, Bool, true, false, ◌&&◌, ◌||◌, eqb, List, [], ◌∷◌, length, map, take, Option, Some, None, refl, ap, subst, arith, inl, inr, ◌⊎◌}
use Rattle.std.specs.Prelude.{FitsSigned, int_le, not, sum, slice_index, nat_lt, nat_le}
use Rattle.std.specs.List.{AllByRecursion, list_all}
use Rattle.std.specs.Int.{w128}
use Rattle.std.specs.Str.{is_utf8}
use Rattle.std.specs.Cmp.Lexicographic.{pointwise}
use Rattle.std.proofs.lemmas.Bool.{eqb-true, ltb-true, leb-true, and_parts}
use Rattle.std.proofs.lemmas.List.Sums.{sum_by-cons}
use Rattle.meaning.specs.declared.value.Value.{Value}
use Rattle.meaning.specs.declared.value.Value.TheVariants.{Null, Int, Text}
use Rattle.meaning.specs.declared.value.ColType.{ColType}
use Rattle.meaning.specs.declared.value.ColType.TheVariants as of_type
use Rattle.meaning.specs.declared.plan.AggregateKind.{AggregateKind}
use Rattle.meaning.specs.declared.plan.AggregateKind.TheVariants.{CountRows, Count, Sum, Min, Max, Avg, CountDistinct, SumDistinct}
use Rattle.meaning.specs.declared.plan.Aggregate.{Aggregate}
use Rattle.meaning.specs.declared.plan.GroupingKey.{GroupingKey}
use Rattle.meaning.specs.declared.plan.Plan.{Plan}
use Rattle.meaning.specs.declared.answer.RowFault.{RowFault}
use Rattle.meaning.specs.declared.answer.Statistics.{Statistics}
use Rattle.meaning.specs.declared.answer.Group.{Group}
use Rattle.meaning.specs.Said.{Body}
use Rattle.meaning.specs.declared.answer.Body.TheVariants.{Groups, Fault}
use Rattle.meaning.specs.Order.{Row, is_null}
use Rattle.meaning.specs.Aggregate.{kept_by}
use Rattle.meaning.specs.Gather.{same_statistics, same_body}
use Rattle.meaning.specs.Typing.{is_of_type}
use Rattle.meaning.specs.Fitting.{is_extreme, is_entry_of, is_key_of, is_state_of, is_group_of, is_sum_of, is_possible, is_group_possible, are_rows_possible, is_fault_possible}
use Rattle.meaning.proofs.Same.{body_exact}
use Rattle.meaning.proofs.Words.{fits_word}
use Rattle.meaning.specs.Limits.{max_rows, max_text_bytes}
use Rattle.answer_fields.specs.Shape.{shape_of, shape_of_aggregate}
use Rattle.wire.specs.Bytes.{IsText}
use Rattle.answer_fields.specs.Ranges.{IsValue, IsExtreme, IsState, AreStates, IsGroup}

-- ---- tests

sum-cons : (n : ℕ) (ns : List ℕ) → sum (n ∷ ns) ≡ n + sum ns
sum-cons n ns = sum_by-cons (λ x. x) n ns

abbrev rows_of : List Group → List ℕ
rows_of gs = map (λ g. g.rows) gs

either : (a b : Bool) → (a || b) ≡ true → (a ≡ true) ⊎ (b ≡ true)
either true b e = inl refl
either false b e = inr e

-- ---- values

fits_text : (t : List ℕ) → (is_utf8 t && nat_le (length t) max_text_bytes) ≡ true → IsText 2 t
fits_text t e =
    let h = and_parts (is_utf8 t) (nat_le (length t) max_text_bytes) e in
    let short = leb-true (length t) max_text_bytes h.1 in
    record { is_text = h.0; short = omega (arith, short) }

value_fits : (t : ColType) (v : Value) → is_of_type t v ≡ true → IsValue v
value_fits t Null e = tt
value_fits of_type.Int (Int z) e = fits_word z e
value_fits of_type.Text (Int z) e = absurd cc
value_fits of_type.Int (Text t) e = absurd cc
value_fits of_type.Text (Text t) e = fits_text t e

extreme_fits : (t : ColType) (o : Option Value) → is_extreme t o ≡ true → IsExtreme o
extreme_fits t None e = tt
extreme_fits t (Some Null) e = absurd cc
extreme_fits of_type.Int (Some (Int z)) e = fits_word z e
extreme_fits of_type.Text (Some (Int z)) e = absurd cc
extreme_fits of_type.Int (Some (Text t)) e = absurd cc
extreme_fits of_type.Text (Some (Text t)) e = fits_text t e

-- the entries of a set
entries_fit : (t : ColType) (entries : List Value) → list_all (is_entry_of t) entries ≡ true → AllByRecursion IsValue entries
entries_fit t [] e = tt
entries_fit t (v ∷ entries) e =
    let h = and_parts (is_entry_of t v) (list_all (is_entry_of t) entries) e in
    (value_fits t v (and_parts (not (is_null v)) (is_of_type t v) h.0).1, entries_fit t entries h.1)

-- ---- sums

-- a number between two that 128 bits hold
between : (x : ℕ) (z : ℤ) (y : ℕ) → x < 2 ^ 127 → y < 2 ^ 127 → int_le (neg_ℤ (pos x)) z ≡ true → int_le z (pos y) ≡ true → FitsSigned w128 z
between x (pos m) y hx hy low high = let h = leb-true m y high in record { sfits = omega (arith, h) }
between zero (negsuc m) y hx hy low high = absurd cc
between (suc x) (negsuc m) y hx hy low high = let h = leb-true m x low in record { sfits = omega (arith, h) }

sum_fits : (n : ℕ) (z : ℤ) → n ≤ max_rows → is_sum_of n z ≡ true → FitsSigned w128 z
sum_fits n z le e =
    let h = and_parts (int_le (neg_ℤ (pos (n * 9223372036854775808))) z) (int_le z (pos (n * 9223372036854775807))) e in
    between (n * 9223372036854775808) z (n * 9223372036854775807) (omega arith) (omega arith) h.0 h.1

no_sum : (z : ℤ) → pos 0 ≡ z → FitsSigned w128 z
no_sum z e = subst (λ (x : ℤ). FitsSigned w128 x) e (record { sfits = omega arith })

-- ---- equal statistics

group_with : Statistics → Group
group_with s = record { key = []; rows = 0; states = s ∷ [] }

state_in : Statistics → Body → Statistics
state_in d (Fault f) = d
state_in d (Groups []) = d
state_in d (Groups (g ∷ gs)) = first g.states
  where
    first : List Statistics → Statistics
    first [] = d
    first (s ∷ states) = s

pub statistics_same : (a b : Statistics) → same_statistics a b ≡ true → a ≡ b
unfolding group_with state_in
statistics_same a b e =
    let same : same_body (Groups (group_with a ∷ [])) (Groups (group_with b ∷ [])) ≡ true = rw e refl in
    ap (state_in a) ((body_exact (Groups (group_with a ∷ [])) (Groups (group_with b ∷ []))).0 same)

pub statistics_itself : (a : Statistics) → same_statistics a a ≡ true
unfolding group_with
statistics_itself a =
    let same : ((same_statistics a a && true) && true) ≡ true = (body_exact (Groups (group_with a ∷ [])) (Groups (group_with a ∷ []))).1 refl in
    (and_parts _ _ (and_parts (same_statistics a a && true) true same).0).0

-- ---- states

no_count : (s : Statistics) (rows : ℕ) → 0 ≡ s.count → s.count ≤ rows
no_count s rows e = omega (arith, e)

pub count_fits : (kind : AggregateKind) (rows : ℕ) (s : Statistics) → kept_by kind s ≡ s → is_possible kind rows s ≡ true → s.count ≤ rows
count_fits CountRows rows s kept e = let h = eqb-true s.count rows e in omega (arith, h)
count_fits Count rows s kept e = leb-true s.count rows e
count_fits Sum rows s kept e = leb-true s.count rows (and_parts _ _ e).0
count_fits Avg rows s kept e = leb-true s.count rows (and_parts _ _ e).0
count_fits Min rows s kept e = leb-true s.count rows (and_parts _ _ e).0
count_fits Max rows s kept e = leb-true s.count rows (and_parts _ _ e).0
count_fits CountDistinct rows s kept e = no_count s rows (ap (λ (t : Statistics). t.count) kept)
count_fits SumDistinct rows s kept e = no_count s rows (ap (λ (t : Statistics). t.count) kept)

no_entries : (entries : List Value) (rows : ℕ) → [] ≡ entries → length entries ≤ rows
no_entries entries rows e = subst (λ (xs : List Value). length xs ≤ rows) e (omega arith)

-- how many entries a set has
size_fits : (kind : AggregateKind) (rows : ℕ) (s : Statistics) → kept_by kind s ≡ s → is_possible kind rows s ≡ true → length s.entries ≤ rows
size_fits CountRows rows s kept e = no_entries s.entries rows (ap (λ (t : Statistics). t.entries) kept)
size_fits Count rows s kept e = no_entries s.entries rows (ap (λ (t : Statistics). t.entries) kept)
size_fits Sum rows s kept e = no_entries s.entries rows (ap (λ (t : Statistics). t.entries) kept)
size_fits Avg rows s kept e = no_entries s.entries rows (ap (λ (t : Statistics). t.entries) kept)
size_fits Min rows s kept e = no_entries s.entries rows (ap (λ (t : Statistics). t.entries) kept)
size_fits Max rows s kept e = no_entries s.entries rows (ap (λ (t : Statistics). t.entries) kept)
size_fits CountDistinct rows s kept e = leb-true (length s.entries) rows e
size_fits SumDistinct rows s kept e = leb-true (length s.entries) rows e

sum_of_state : (kind : AggregateKind) (rows : ℕ) (s : Statistics) → rows ≤ max_rows → kept_by kind s ≡ s → is_possible kind rows s ≡ true → FitsSigned w128 s.sum
sum_of_state CountRows rows s le kept e = no_sum s.sum (ap (λ (t : Statistics). t.sum) kept)
sum_of_state Count rows s le kept e = no_sum s.sum (ap (λ (t : Statistics). t.sum) kept)
sum_of_state Sum rows s le kept e = let h = and_parts _ _ e in let c = leb-true s.count rows h.0 in sum_fits s.count s.sum (omega (arith, c)) h.1
sum_of_state Avg rows s le kept e = let h = and_parts _ _ e in let c = leb-true s.count rows h.0 in sum_fits s.count s.sum (omega (arith, c)) h.1
sum_of_state Min rows s le kept e = no_sum s.sum (ap (λ (t : Statistics). t.sum) kept)
sum_of_state Max rows s le kept e = no_sum s.sum (ap (λ (t : Statistics). t.sum) kept)
sum_of_state CountDistinct rows s le kept e = no_sum s.sum (ap (λ (t : Statistics). t.sum) kept)
sum_of_state SumDistinct rows s le kept e = no_sum s.sum (ap (λ (t : Statistics). t.sum) kept)

state_fits : (a : Aggregate) (rows : ℕ) (s : Statistics) → rows ≤ max_rows → is_state_of a s ≡ true → is_possible a.kind rows s ≡ true → IsState a.kind s
state_fits a rows s le shaped possible =
    let h = and_parts (same_statistics (kept_by a.kind s) s) (is_extreme a.col_type s.least && (is_extreme a.col_type s.greatest && list_all (is_entry_of a.col_type) s.entries)) shaped in
    let least = and_parts (is_extreme a.col_type s.least) (is_extreme a.col_type s.greatest && list_all (is_entry_of a.col_type) s.entries) h.1 in
    let greatest = and_parts (is_extreme a.col_type s.greatest) (list_all (is_entry_of a.col_type) s.entries) least.1 in
    let kept = statistics_same (kept_by a.kind s) s h.0 in
    let count = count_fits a.kind rows s kept possible in
    let size = size_fits a.kind rows s kept possible in
    record {
      count = omega (arith, count);
      sum = sum_of_state a.kind rows s le kept possible;
      least = extreme_fits a.col_type s.least least.0;
      greatest = extreme_fits a.col_type s.greatest greatest.0;
      few = omega (arith, size);
      entries = entries_fit a.col_type s.entries greatest.1;
      kept = kept;
    }

states_fit : (aggs : List Aggregate) (rows : ℕ) (states : List Statistics) → rows ≤ max_rows → pointwise is_state_of aggs states ≡ true → pointwise (λ a s. is_possible a.kind rows s) aggs states ≡ true
    → AreStates (map shape_of_aggregate aggs) states
states_fit [] rows [] le shaped possible = tt
states_fit [] rows (s ∷ states) le shaped possible = absurd cc
states_fit (a ∷ aggs) rows [] le shaped possible = absurd cc
states_fit (a ∷ aggs) rows (s ∷ states) le shaped possible =
    let h = and_parts (is_state_of a s) (pointwise is_state_of aggs states) shaped in
    let k = and_parts (is_possible a.kind rows s) (pointwise (λ b t. is_possible b.kind rows t) aggs states) possible in
    (state_fits a rows s le h.0 k.0, states_fit aggs rows states le h.1 k.1)

-- ---- groups

key_fits : (keys : List GroupingKey) (key : Row) → pointwise (λ k v. is_of_type k.col_type v) keys key ≡ true → (length key ≡ length (map (λ k. k.col_type) keys)) × AllByRecursion IsValue key
key_fits [] [] e = (refl, tt)
key_fits [] (v ∷ key) e = absurd cc
key_fits (k ∷ keys) [] e = absurd cc
key_fits (k ∷ keys) (v ∷ key) e =
    let h = and_parts (is_of_type k.col_type v) (pointwise (λ l w. is_of_type l.col_type w) keys key) e in
    let others = key_fits keys key h.1 in
    (ap suc others.0, (value_fits k.col_type v h.0, others.1))

group_fits : (plan : Plan) (g : Group) → g.rows ≤ max_rows → is_group_of plan g ≡ true → is_group_possible plan g ≡ true → IsGroup (shape_of plan) g
group_fits plan g le shaped possible =
    let h = and_parts (is_key_of plan g.key) (pointwise is_state_of plan.aggs g.states) shaped in
    let key = key_fits plan.keys g.key h.0 in
    record { keys = key.0; key = key.1; rows = omega arith; states = states_fit plan.aggs g.rows g.states le h.1 possible }

pub groups_fit : (plan : Plan) (gs : List Group) → sum (map (λ g. g.rows) gs) ≤ max_rows → list_all (is_group_of plan) gs ≡ true → list_all (is_group_possible plan) gs ≡ true → AllByRecursion (IsGroup (shape_of plan)) gs
groups_fit plan [] le shaped possible = tt
groups_fit plan (g ∷ gs) le shaped possible =
    let h = and_parts (is_group_of plan g) (list_all (is_group_of plan) gs) shaped in
    let k = and_parts (is_group_possible plan g) (list_all (is_group_possible plan) gs) possible in
    let sums = sum-cons g.rows (rows_of gs) in
    (group_fits plan g (omega (arith, sums)) h.0 k.0, groups_fit plan gs (omega (arith, sums)) h.1 k.1)

rows_count : (gs : List Group) → list_all (λ g. nat_le 1 g.rows) gs ≡ true → length gs ≤ sum (map (λ g. g.rows) gs)
rows_count [] e = omega arith
rows_count (g ∷ gs) e =
    let h = and_parts (nat_le 1 g.rows) (list_all (λ x. nat_le 1 x.rows) gs) e in
    let one = leb-true 1 g.rows h.0 in
    let others = rows_count gs h.1 in
    omega (arith, one, others, sum-cons g.rows (rows_of gs))

pub few_groups : (certain : List Row) (gs : List Group) → sum (map (λ g. g.rows) gs) ≤ max_rows → are_rows_possible certain gs ≡ true → length gs ≤ max_rows
few_groups [] gs le e = let h = rows_count gs e in omega (arith, h)
few_groups (k ∷ ks) gs le e = let h = eqb-true (length gs) 1 e in omega (arith, h)

-- ---- cuts

pub short_at : (cut : List ℕ) (k : ℕ) → AllByRecursion (λ n. n ≤ max_rows) cut → slice_index cut k ≤ max_rows
short_at [] k short = omega arith
short_at (n ∷ cut) zero short = short.0
short_at (n ∷ cut) (suc k) short = short_at cut k short.1

pub few_rows_before : (cut : List ℕ) (k : ℕ) → AllByRecursion (λ n. n ≤ max_rows) cut → sum (take k cut) ≤ max_rows * length cut
few_rows_before [] zero short = omega arith
few_rows_before [] (suc k) short = omega arith
few_rows_before (n ∷ cut) zero short = omega arith
few_rows_before (n ∷ cut) (suc k) short = let h = few_rows_before cut k short.1 in let n_is = short.0 in omega (arith, h, n_is, sum-cons n (take k cut))

pub words : (cut : List ℕ) → AllByRecursion (λ n. n ≤ max_rows) cut → AllByRecursion (λ n. n < 2 ^ 32) cut
words [] short = tt
words (n ∷ cut) short = (let n_is = short.0 in omega (arith, n_is), words cut short.1)

-- ---- faults

pub fault_fits : (first rows : ℕ) (f : RowFault) → first + rows < 2 ^ 64 → is_fault_possible first rows f ≡ true → (f.row < 2 ^ 64) × (f.code < 256)
fault_fits first rows f lt e =
    let h = and_parts ((eqb f.code 1) || (eqb f.code 2)) (nat_le first f.row && nat_lt f.row (first + rows)) e in
    let below = ltb-true f.row (first + rows) (and_parts (nat_le first f.row) (nat_lt f.row (first + rows)) h.1).1 in
    let code : f.code < 256 = elim (either (eqb f.code 1) (eqb f.code 2) h.0) [ inl a ↦ (let is = eqb-true f.code 1 a in omega (arith, is)) | inr a ↦ (let is = eqb-true f.code 2 a in omega (arith, is)) ] in
    (omega (arith, below), code)
