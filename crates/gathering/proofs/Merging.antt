-- The groups of fitting answers: one table takes them all, and holds what the answers say together.
use Rattle.std.specs.Prelude.{◌≡◌, ◌≢◌, ℕ, zero, suc, ◌+◌, ◌*◌, ◌<◌, ◌≤◌, true, List, [], ◌∷◌, ◌++◌, length, map, zip, sum, take, get_or, slice_index, flat_map, filter_map, Option, None, All}
use Rattle.std.specs.List.{AllByRecursion, list_all, enumerate_from}
use Rattle.std.specs.Cmp.Lexicographic.{pointwise}
use Rattle.std.specs.Ordering.{match_ordering}
use Rattle.std.specs.declared.cmp.Ordering.TheVariants.{Less, Equal, Greater}
use Rattle.std.proofs.Common.{refl, sym, ap, subst, ◌∙◌, arith, length-append, append_assoc, append-nil}
use Rattle.std.proofs.lemmas.Bool.{leb-true, and_parts}
use Rattle.std.proofs.lemmas.Grind.{flat_map-append}
use Rattle.std.proofs.lemmas.List.{take_more}
use Rattle.std.proofs.lemmas.List.Elements.{All-from_recursion, recursion_from_All}
use Rattle.std.proofs.lemmas.List.Sums.{sum_by-append, sum_by-cons}
use Rattle.meaning.specs.Limits.{max_rows}
use Rattle.meaning.specs.declared.plan.Aggregate.{Aggregate}
use Rattle.meaning.specs.declared.plan.AggregateKind.{AggregateKind}
use Rattle.meaning.specs.declared.plan.GroupingKey.{GroupingKey}
use Rattle.meaning.specs.declared.plan.Item.{Item}
use Rattle.meaning.specs.declared.plan.Plan.{Plan}
use Rattle.meaning.specs.declared.answer.Statistics.{Statistics}
use Rattle.meaning.specs.declared.answer.Group.{Group}
use Rattle.meaning.specs.declared.answer.RowFault.{RowFault}
use Rattle.meaning.specs.Said.{Cell}
use Rattle.meaning.specs.declared.answer.Body.TheVariants.{Groups, Fault}
use Rattle.meaning.specs.declared.answer.Cell.TheVariants.{Nothing, One, Conflict}
use Rattle.meaning.specs.Order.{Row, row_cmp, inserted_once, ascending_set}
use Rattle.meaning.specs.Cut.{Cut, IsCut}
use Rattle.meaning.specs.Aggregate.{kept_by}
use Rattle.meaning.specs.Group.{beside, certain_keys, merged, merged_groups}
use Rattle.meaning.specs.Typing.{is_of_type}
use Rattle.meaning.specs.Fitting.{is_group_of, is_key_of, is_state_of, is_possible, is_group_possible}
use Rattle.meaning.specs.Answer.{body_of, groups_of, combined}
use Rattle.meaning.specs.Gather.{body_in}
use Rattle.meaning.proofs.Tests.{first_of, second_of}
use Rattle.aggregate_states.specs.State.{most_entries}
use Rattle.group_by.specs.Groups.{all_rows, with_groups, SaysAs, TablesGrow}
use Rattle.group_by.specs.Rows.{IsGroupOf}
use Rattle.group_by.specs.Shape.{GroupsSpec, shape_of}
use Rattle.last_step.specs.Printing.{ShowsSomething}
use Rattle.partial_codec.proofs.Fitting.{statistics_same, few_groups, short_at, count_fits}
use Rattle.gathering.specs.Faults.{least_fault}
use Rattle.gathering.specs.Fitted.{is_fitting, AreFitting}
use Rattle.meaning.specs.SoundPlan.{IsSoundPlan}
use Rattle.gathering.specs.Merging.{groups_in, all_groups, table_with, AreMergeable}
use Rattle.gathering.specs.Totals.{CanTake}

-- ---- a group that fits is one that a table takes

kinds_of : List Aggregate → List AggregateKind
kinds_of aggs = map (λ a. a.kind) aggs

record AreTaken (aggs : List Aggregate) (rows : ℕ) (states : List Statistics) : Type 0 where
  widths : length states ≡ length (map (λ (a : Aggregate). a.kind) aggs)
  kept : map (λ p. kept_by p.0 p.1) (zip (map (λ (a : Aggregate). a.kind) aggs) states) ≡ states
  within : AllByRecursion (λ s. s.count ≤ rows) states

states_taken : (aggs : List Aggregate) (rows : ℕ) (states : List Statistics) → pointwise is_state_of aggs states ≡ true
    → pointwise (λ a s. is_possible a.kind rows s) aggs states ≡ true → AreTaken aggs rows states
states_taken [] rows [] shaped possible = record { widths = refl; kept = refl; within = tt }
states_taken [] rows (s ∷ states) shaped possible = absurd cc
states_taken (a ∷ aggs) rows [] shaped possible = absurd cc
states_taken (a ∷ aggs) rows (s ∷ states) shaped possible =
    let h = and_parts (is_state_of a s) (pointwise is_state_of aggs states) shaped in
    let k = and_parts (is_possible a.kind rows s) (pointwise (λ b t. is_possible b.kind rows t) aggs states) possible in
    let same = statistics_same (kept_by a.kind s) s (first_of _ _ h.0) in
    let rest = states_taken aggs rows states h.1 k.1 in
    record {
      widths = ap suc rest.widths;
      kept = λ i. same i ∷ rest.kept i;
      within = (count_fits a.kind rows s same k.0, rest.within);
    }

group_taken : (plan : Plan) (g : Group) → is_group_of plan g ≡ true → is_group_possible plan g ≡ true → IsGroupOf (shape_of plan) g
group_taken plan g shaped possible =
    let states = states_taken plan.aggs g.rows g.states (second_of (is_key_of plan g.key) _ shaped) possible in
    record { widths = states.widths; kept = states.kept; within = All-from_recursion (λ s. s.count ≤ g.rows) g.states states.within }

groups_taken : (plan : Plan) (gs : List Group) → list_all (is_group_of plan) gs ≡ true → list_all (is_group_possible plan) gs ≡ true
    → AllByRecursion (IsGroupOf (shape_of plan)) gs
groups_taken plan [] shaped possible = tt
groups_taken plan (g ∷ gs) shaped possible =
    let h = and_parts (is_group_of plan g) (list_all (is_group_of plan) gs) shaped in
    let k = and_parts (is_group_possible plan g) (list_all (is_group_possible plan) gs) possible in
    (group_taken plan g h.0 k.0, groups_taken plan gs h.1 k.1)

-- ---- the groups of one cell, and of all cells

pub record Takes (plan : Plan) (most : ℕ) (gs : List Group) : Type 0 where
  pub fit : AllByRecursion (IsGroupOf (shape_of plan)) gs
  pub few : all_rows gs ≤ most
  pub handed : length gs ≤ most
  pub keys : AllByRecursion (λ g. length g.key ≡ length plan.keys) gs

-- a key has a value for each of the plan's keys
wide : (keys : List GroupingKey) (key : Row) → pointwise (λ k v. is_of_type k.col_type v) keys key ≡ true → length key ≡ length keys
wide [] [] e = refl
wide [] (v ∷ key) e = absurd cc
wide (k ∷ keys) [] e = absurd cc
wide (k ∷ keys) (v ∷ key) e = ap suc (wide keys key (second_of (is_of_type k.col_type v) _ e))

all_wide : (plan : Plan) (gs : List Group) → list_all (is_group_of plan) gs ≡ true → AllByRecursion (λ g. length g.key ≡ length plan.keys) gs
all_wide plan [] shaped = tt
all_wide plan (g ∷ gs) shaped =
    let h = and_parts (is_group_of plan g) (list_all (is_group_of plan) gs) shaped in
    (wide plan.keys g.key (first_of (is_key_of plan g.key) _ h.0), all_wide plan gs h.1)

rows_are : (gs : List Group) → sum (map (λ g. g.rows) gs) ≡ all_rows gs
rows_are [] = refl
rows_are (g ∷ gs) = sum_by-cons (λ x. x) g.rows (map (λ (h : Group). h.rows) gs) ∙ ap (λ n. g.rows + n) (rows_are gs) ∙ sym (sum_by-cons (λ (h : Group). h.rows) g gs)

pub cell_takes : (plan : Plan) (cut : Cut) → IsCut cut → (k : ℕ) (c : Cell) → is_fitting plan cut k c ≡ true → Takes plan max_rows (groups_in c)
cell_takes plan cut is_cut k Nothing e = record { fit = tt; few = omega arith; handed = omega arith; keys = tt }
cell_takes plan cut is_cut k Conflict e = record { fit = tt; few = omega arith; handed = omega arith; keys = tt }
cell_takes plan cut is_cut k (One (Fault f)) e = record { fit = tt; few = omega arith; handed = omega arith; keys = tt }
cell_takes plan cut is_cut k (One (Groups gs)) e =
    let rest = second_of _ _ e in
    let shaped = first_of (list_all (is_group_of plan) gs) _ rest in
    let numbers = second_of _ _ (second_of (list_all (is_group_of plan) gs) _ rest) in
    let total = leb-true (sum (map (λ (g : Group). g.rows) gs)) (slice_index cut k) (first_of _ _ numbers) in
    let short = short_at cut k (recursion_from_All (λ n. n ≤ max_rows) cut is_cut.short) in
    let within : sum (map (λ (g : Group). g.rows) gs) ≤ max_rows = omega (arith, total, short) in
    let more = second_of _ _ numbers in
    record {
      fit = groups_taken plan gs shaped (second_of _ _ more);
      few = omega (arith, within, rows_are gs);
      handed = few_groups (certain_keys plan.plain plan.keys) gs within (first_of _ _ more);
      keys = all_wide plan gs shaped;
    }

join_takes : (plan : Plan) (m n : ℕ) (gs hs : List Group) → Takes plan m gs → Takes plan n hs → Takes plan (m + n) (gs ++ hs)
join_takes plan m n gs hs a b = record {
  fit = by (IsGroupOf (shape_of plan)) gs a.fit b.fit;
  few = omega (arith, a.few, b.few, sum_by-append (λ (g : Group). g.rows) gs hs);
  handed = omega (arith, a.handed, b.handed, length-append gs hs);
  keys = by (λ g. length g.key ≡ length plan.keys) gs a.keys b.keys;
}
  where
    by : (P : Group → Type 0) (gs : List Group) → AllByRecursion P gs → AllByRecursion P hs → AllByRecursion P (gs ++ hs)
    by P [] p q = q
    by P (g ∷ gs) p q = (p.0, by P gs p.1 q)

pub cells_take : (plan : Plan) (cut : Cut) → IsCut cut → (n : ℕ) (cells : List Cell) → list_all (λ p. is_fitting plan cut p.0 p.1) (enumerate_from n cells) ≡ true
    → Takes plan (length cells * max_rows) (all_groups cells)
cells_take plan cut is_cut n [] e = record { fit = tt; few = omega arith; handed = omega arith; keys = tt }
cells_take plan cut is_cut n (c ∷ cells) e =
    let here = cell_takes plan cut is_cut n c (first_of _ _ e) in
    let rest = cells_take plan cut is_cut (n + 1) cells (second_of _ _ e) in
    let total : max_rows + length cells * max_rows ≡ length (c ∷ cells) * max_rows = omega arith in
    subst (λ n. Takes plan n (all_groups (c ∷ cells))) total (join_takes plan max_rows (length cells * max_rows) (groups_in c) (all_groups cells) here rest)

-- the groups of fitting answers have at most 2^32 rows in all
pub cells_mergeable : (plan : Plan) (cut : Cut) (cells : List Cell) → IsCut cut → length cells ≡ length cut → AreFitting plan cut cells
    → AreMergeable plan (all_groups cells)
cells_mergeable plan cut cells is_cut each fitting =
    let all = cells_take plan cut is_cut 0 cells fitting.each in
    let few : length cells ≤ 4096 = omega (arith, each, is_cut.few) in
    let most : length cells * max_rows ≤ 4294967296 = omega (arith, few) in
    record {
      fit = All-from_recursion (IsGroupOf (shape_of plan)) (all_groups cells) all.fit;
      few = omega (arith, all.few, most);
      handed = omega (arith, all.handed, most);
    }

-- ---- cell after cell

pub front_and_back : (cells : List Cell) (i : ℕ) (d : Cell) → i < length cells → (rest : List Group) × (all_groups cells ≡ all_groups (take i cells) ++ (groups_in (get_or cells i d) ++ rest))
front_and_back [] i d below = absurd (omega arith)
front_and_back (c ∷ cells) zero d below = (all_groups cells, refl)
front_and_back (c ∷ cells) (suc i) d below =
    let later = front_and_back cells i d (omega arith) in
    (later.0, ap (λ gs. groups_in c ++ gs) later.1 ∙ sym (append_assoc (groups_in c) (all_groups (take i cells)) (groups_in (get_or cells i d) ++ later.0)))

-- the groups of the cell behind the first ones
pub record IsNext (plan : Plan) (cells : List Cell) (i : ℕ) (gs : List Group) : Type 0 where
  pub fit : All (IsGroupOf (shape_of plan)) gs
  pub few : all_rows (all_groups (take i cells)) + all_rows gs ≤ most_entries
  pub handed : length (all_groups (take i cells)) + length gs < 9223372036854775808

pub middle : (P : Group → Type 0) (xs ys zs : List Group) → AllByRecursion P (xs ++ (ys ++ zs)) → AllByRecursion P ys
middle P [] [] zs all = tt
middle P [] (y ∷ ys) zs all = (all.0, middle P [] ys zs all.1)
middle P (x ∷ xs) ys zs all = middle P xs ys zs all.1

pub next_groups : (plan : Plan) (cells : List Cell) (i : ℕ) (d : Cell) → i < length cells → AreMergeable plan (all_groups cells) → IsNext plan cells i (groups_in (get_or cells i d))
next_groups plan cells i d below all =
    let parts = front_and_back cells i d below in
    let front = all_groups (take i cells) in
    let here = groups_in (get_or cells i d) in
    let rows = ap all_rows parts.1 ∙ sum_by-append (λ (g : Group). g.rows) front (here ++ parts.0) ∙ ap (λ n. all_rows front + n) (sum_by-append (λ (g : Group). g.rows) here parts.0) in
    let many = ap length parts.1 ∙ length-append front (here ++ parts.0) ∙ ap (λ n. length front + n) (length-append here parts.0) in
    record {
      fit = All-from_recursion (IsGroupOf (shape_of plan)) here (middle (IsGroupOf (shape_of plan)) front here parts.0
          (subst (AllByRecursion (IsGroupOf (shape_of plan))) parts.1 (recursion_from_All (IsGroupOf (shape_of plan)) (all_groups cells) all.fit)));
      few = omega (arith, rows, all.few);
      handed = omega (arith, many, all.handed);
    }

-- one cell more
pub groups_more : (cells : List Cell) (i : ℕ) (d : Cell) → i < length cells → all_groups (take (i + 1) cells) ≡ all_groups (take i cells) ++ groups_in (get_or cells i d)
groups_more cells i d below =
    ap all_groups (take_more cells i d below) ∙ flat_map-append groups_in (take i cells) (get_or cells i d ∷ []) ∙ ap (λ gs. all_groups (take i cells) ++ gs) (append-nil (groups_in (get_or cells i d)))

-- ---- what is said together

all_in_cells : (cells : List Cell) → flat_map groups_of (filter_map body_in cells) ≡ all_groups cells
all_in_cells [] = refl
all_in_cells (Nothing ∷ cells) = all_in_cells cells
all_in_cells (Conflict ∷ cells) = all_in_cells cells
all_in_cells (One b ∷ cells) = ap (λ gs. groups_of b ++ gs) (all_in_cells cells)

-- without a fault, the groups merged
pub combined-groups : (plan : Plan) (cells : List Cell) → least_fault cells ≡ None → combined plan (filter_map body_in cells) ≡ Groups (merged_groups plan (all_groups cells))
combined-groups plan cells none =
    ap (λ (o : Option RowFault). body_of o (merged_groups plan (flat_map groups_of (filter_map body_in cells)))) none
    ∙ ap (λ gs. Groups (merged_groups plan gs)) (all_in_cells cells)

-- ---- keys

all_inserted : (P : Row → Type 0) (x : Row) (ys : List Row) → P x → AllByRecursion P ys → AllByRecursion P (inserted_once row_cmp x ys)
all_inserted P x [] here rest = (here, tt)
all_inserted P x (y ∷ ys) here rest = elim (row_cmp x y) as (λ o. AllByRecursion P (match_ordering o (x ∷ y ∷ ys) (y ∷ ys) (y ∷ inserted_once row_cmp x ys))) [
  | Less ↦ (here, rest)
  | Equal ↦ rest
  | Greater ↦ (rest.0, all_inserted P x ys here rest.1)
]

pub all_in_set : (P : Row → Type 0) (xs : List Row) → AllByRecursion P xs → AllByRecursion P (ascending_set row_cmp xs)
all_in_set P [] all = tt
all_in_set P (x ∷ xs) all = all_inserted P x (ascending_set row_cmp xs) all.0 (all_in_set P xs all.1)

merged_key : (plan : Plan) (key : Row) (gs : List Group) → (merged plan key gs).key ≡ key
merged_key plan key [] = refl
merged_key plan key (g ∷ gs) = merged_key plan key gs

pub keys_of : (P : Row → Type 0) (gs : List Group) → AllByRecursion (λ g. P g.key) gs → AllByRecursion P (map (λ (p : Row × Group). p.0) (map (λ (g : Group). (g.key, g)) gs))
keys_of P [] all = tt
keys_of P (g ∷ gs) all = (all.0, keys_of P gs all.1)

-- what holds of all keys holds of the keys of the groups merged
merged_keys : (plan : Plan) (P : Row → Type 0) (gs : List Group) → certain_keys plan.plain plan.keys ≡ [] → AllByRecursion (λ g. P g.key) gs
    → AllByRecursion (λ g. P g.key) (merged_groups plan gs)
merged_keys plan P gs certain all =
    let pairs : List (Row × Group) = map (λ (g : Group). (g.key, g)) gs in
    let keys = subst (λ always. AllByRecursion P (ascending_set row_cmp (always ++ map (λ (p : Row × Group). p.0) pairs))) (sym certain)
    (all_in_set P (map (λ (p : Row × Group). p.0) pairs) (keys_of P gs all)) in
    over (ascending_set row_cmp (certain_keys plan.plain plan.keys ++ map (λ (p : Row × Group). p.0) pairs)) keys
  where
    over : (ks : List Row) → AllByRecursion P ks
        → AllByRecursion (λ (g : Group). P g.key) (map (λ (g : Row × List Group). merged plan g.0 g.1) (map (λ k. (k, beside k (map (λ (g : Group). (g.key, g)) gs))) ks))
    over [] p = tt
    over (k ∷ ks) p = (subst P (sym (merged_key plan k (beside k (map (λ (g : Group). (g.key, g)) gs)))) p.0, over ks p.1)

full : (plan : Plan) → IsSoundPlan plan → plan.plain ≡ true → (key : Row) → length key ≡ length plan.keys → key ≢ []
full plan sound plain key e none = some plan.items sound.shown (sym (sound.plain plain) ∙ sym e ∙ ap length none)
  where
    some : (items : List Item) → items ≢ [] → length items ≡ 0 → ⊥
    some [] h e = h refl
    some (i ∷ items) h e = absurd (omega (arith, e))

all_full : (plan : Plan) → IsSoundPlan plan → plan.plain ≡ true → (gs : List Group) → AllByRecursion (λ g. length g.key ≡ length plan.keys) gs → AllByRecursion (λ g. g.key ≢ []) gs
all_full plan sound plain [] all = tt
all_full plan sound plain (g ∷ gs) all = (full plan sound plain g.key all.0, all_full plan sound plain gs all.1)

-- in a plain query no key is empty
pub combined_shows : (plan : Plan) (cut : Cut) (cells : List Cell) → IsCut cut → AreFitting plan cut cells → IsSoundPlan plan → ShowsSomething plan (merged_groups plan (all_groups cells))
combined_shows plan cut cells is_cut fitting sound = record {
  items = sound.shown;
  keys = λ plain. All-from_recursion (λ g. g.key ≢ []) _
      (merged_keys plan (λ key. key ≢ []) (all_groups cells) (ap (λ p. certain_keys p plan.keys) plain)
      (all_full plan sound plain (all_groups cells) (cells_take plan cut is_cut 0 cells fitting.each).keys));
}

-- ---- the table

-- what the table holds that took the groups one cell after the other
pub table_holds : (plan : Plan) (t : GroupsSpec) (cells : List Cell) → SaysAs plan → t ≡ table_with plan (all_groups cells) → t.groups ≡ merged_groups plan (all_groups cells)
table_holds plan t cells says is = ap (λ (u : GroupsSpec). u.groups) is ∙ says.groups (all_groups cells)

-- a cell more
pub table_more : (plan : Plan) (cells : List Cell) (i : ℕ) (d : Cell) (old new : GroupsSpec) → TablesGrow plan → i < length cells
    → old ≡ table_with plan (all_groups (take i cells)) → new ≡ with_groups old (groups_in (get_or cells i d)) → new ≡ table_with plan (all_groups (take (i + 1) cells))
table_more plan cells i d old new grow below was is =
    is ∙ ap (λ t. with_groups t (groups_in (get_or cells i d))) was
    ∙ grow.groups [] 0 0 (all_groups (take i cells)) (groups_in (get_or cells i d))
    ∙ ap (table_with plan) (sym (groups_more cells i d below))

pub table_takes : (plan : Plan) (t : GroupsSpec) (cells : List Cell) (i : ℕ) (cell : Cell) (gs : List Group) → i < length cells → AreMergeable plan (all_groups cells)
    → t ≡ table_with plan (all_groups (take i cells)) → cell ≡ get_or cells i cell → gs ≡ groups_in cell → CanTake t gs
table_takes plan t cells i cell gs below all is item groups =
    let next = next_groups plan cells i cell below all in
    let same : groups_in (get_or cells i cell) ≡ gs = sym (groups ∙ ap groups_in item) in
    subst (λ (u : GroupsSpec). CanTake u gs) (sym is) (subst (λ (hs : List Group). CanTake (table_with plan (all_groups (take i cells))) hs) same
    (record { fit = next.fit; few = omega (arith, next.few); handed = omega (arith, next.handed) }))
