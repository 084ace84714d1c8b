-- The rows that a query gives each hold a field, where its plan has an item and, in a plain query, no key is empty.
use Rattle.std.specs.Prelude.{◌≡◌, ◌≢◌, ℕ, zero, suc, Bool, false, true, List, [], ◌∷◌, ◌++◌, map, take, Option, Some, None, Result, Ok, Err, IfOk, if◌then◌else◌, replicate, All}
use Rattle.std.specs.List.{AllByRecursion}
use Rattle.std.specs.Ordering.{is_lt}
use Rattle.std.specs.declared.cmp.Ordering.{Ordering}
use Rattle.std.proofs.Common.{refl, subst}
use Rattle.std.proofs.lemmas.List.Elements.{All-from_recursion, All-head, All-tail}
use Rattle.meaning.specs.declared.expr.Expr.{Expr}
use Rattle.meaning.specs.declared.joined_row.JoinedRow.{JoinedRow}
use Rattle.meaning.specs.declared.outcome.Outcome.{Outcome}
use Rattle.meaning.specs.declared.outcome.Outcome.TheVariants as gives
use Rattle.meaning.specs.declared.outcome.Truth.TheVariants.{False, Unknown, True}
use Rattle.meaning.specs.declared.plan.Item.{Item}
use Rattle.meaning.specs.declared.plan.Plan.{Plan}
use Rattle.meaning.specs.declared.value.Value.{Value}
use Rattle.meaning.specs.Answer.{read_off}
use Rattle.meaning.specs.declared.answer.Group.{Group}
use Rattle.meaning.specs.Finish.{Evaluated, Rows, finished, rows_behind, behind_having, shown, rows_of, limited, all_rows, finish, order_cmp, shown_once}
use Rattle.meaning.specs.Expr.{eval, with_value, values}
use Rattle.meaning.specs.Joined.{group_row}
use Rattle.meaning.specs.Order.{Row, inserted, row_cmp, sorted}
use Rattle.meaning.specs.Results.{with_result, all_ok, and_then}
use Rattle.last_step.specs.Batches.{shown_after}
use Rattle.last_step.specs.Printing.{HasFields}
use Rattle.last_step.proofs.RowSets.{all_by_recursion}

abbrev IsFull : Row → Type 0
IsFull row = row ≢ []

abbrev AreFull : List Row → Type 0
AreFull rows = AllByRecursion IsFull rows

full_append : (xs ys : List Row) → AreFull xs → AreFull ys → AreFull (xs ++ ys)
full_append [] ys p q = q
full_append (x ∷ xs) ys p q = (p.0, full_append xs ys p.1 q)

full_take : (n : ℕ) (xs : List Row) → AreFull xs → AreFull (take n xs)
full_take zero xs p = tt
full_take (suc n) [] p = tt
full_take (suc n) (x ∷ xs) p = (p.0, full_take n xs p.1)

full_inserted : (cmp : Row → Row → Ordering) (x : Row) (xs : List Row) → IsFull x → AreFull xs → AreFull (inserted cmp x xs)
full_inserted cmp x [] p q = (p, tt)
full_inserted cmp x (y ∷ ys) p q = elim (is_lt (cmp y x)) as (λ t. AreFull (if t then y ∷ inserted cmp x ys else x ∷ y ∷ ys)) [
  | true ↦ (q.0, full_inserted cmp x ys p q.1)
  | false ↦ (p, q)
]

full_sorted : (cmp : Row → Row → Ordering) (xs : List Row) → AreFull xs → AreFull (sorted cmp xs)
full_sorted cmp [] p = tt
full_sorted cmp (x ∷ xs) p = full_inserted cmp x (sorted cmp xs) p.0 (full_sorted cmp xs p.1)

full_limited : (limit : Option ℕ) (xs : List Row) → AreFull xs → AreFull (limited limit xs)
full_limited None xs p = p
full_limited (Some n) xs p = full_take n xs p

-- an expression's value stands in front of the others
full_front : (o : Outcome) (others : Result Row ℕ) → IfOk (with_value o others) IsFull
full_front (gives.Fault f) others = tt
full_front (gives.Value v) (Err c) = tt
full_front (gives.Value v) (Ok vs) = λ e. cc
full_front (gives.Truth t) (Err c) = tt
full_front (gives.Truth t) (Ok vs) = λ e. cc

full_values : (es : List Expr) (s : JoinedRow) → es ≢ [] → IfOk (values es s) IsFull
full_values [] s some = absurd (some refl)
full_values (e ∷ es) s some = full_front (eval e s) (values es s)

full_alone : (row : Result Row ℕ) → IfOk row IsFull → IfOk (and_then row (λ r. Ok (r ∷ []))) AreFull
full_alone (Err c) p = tt
full_alone (Ok r) p = (p, tt)

full_behind : (o : Outcome) (group : Result (List Row) ℕ) → IfOk group AreFull → IfOk (rows_behind o group) AreFull
full_behind (gives.Fault f) group p = tt
full_behind (gives.Truth True) group p = p
full_behind (gives.Truth Unknown) group p = tt
full_behind (gives.Truth False) group p = tt
full_behind (gives.Value v) group p = tt

full_behind_having : (having : Option Expr) (s : JoinedRow) (group : Result (List Row) ℕ) → IfOk group AreFull → IfOk (behind_having having s group) AreFull
full_behind_having None s group p = p
full_behind_having (Some e) s group p = full_behind (eval e s) group p

no_items : (plan : Plan) → plan.items ≢ [] → map (λ i. i.expr) plan.items ≢ []
no_items plan some = by_case plan.items some
  where
    by_case : (items : List Item) → items ≢ [] → map (λ i. i.expr) items ≢ []
    by_case [] h e = h refl
    by_case (i ∷ is) h e = cc

full_shown : (plan : Plan) (s : JoinedRow) → plan.items ≢ [] → IfOk (shown plan s) AreFull
full_shown plan s some = full_behind_having plan.having s _ (full_alone _ (full_values (map (λ i. i.expr) plan.items) s (no_items plan some)))

full_next : (plan : Plan) (states : Result (List Value) ℕ) (next : List Value → JoinedRow) → plan.items ≢ [] → IfOk (and_then states (λ values. shown plan (next values))) AreFull
full_next plan (Err c) next some = tt
full_next plan (Ok values) next some = full_shown plan (next values) some

full_replicate : (n : ℕ) (row : Row) → IsFull row → AreFull (replicate n row)
full_replicate zero row p = tt
full_replicate (suc n) row p = (p, full_replicate n row p)

full_rows_of : (plan : Plan) (g : Evaluated) → plan.items ≢ [] → (plan.plain ≡ true → IsFull g.key) → IfOk (rows_of plan g) AreFull
full_rows_of plan g some keyed = by_kind plan.plain keyed
  where
    by_kind : (plain : Bool) → (plain ≡ true → IsFull g.key)
        → IfOk (if plain then Ok (replicate g.rows g.key) else and_then (all_ok g.aggregates) (λ values. shown plan (group_row g.key values))) AreFull
    by_kind true keyed = full_replicate g.rows g.key (keyed refl)
    by_kind false keyed = full_next plan (all_ok g.aggregates) (group_row g.key) some

full_joined : (r : Result (List Row) ℕ) (rs : Result (List (List Row)) ℕ) → IfOk r AreFull → IfOk rs (λ parts. AreFull (all_rows parts)) → IfOk (with_result r rs) (λ parts. AreFull (all_rows parts))
full_joined (Err c) rs p q = tt
full_joined (Ok xs) (Err c) p q = tt
full_joined (Ok xs) (Ok parts) p q = full_append xs (all_rows parts) p q

full_groups : (plan : Plan) (groups : List Evaluated) → plan.items ≢ [] → AllByRecursion (λ g. plan.plain ≡ true → IsFull g.key) groups
    → IfOk (all_ok (map (rows_of plan) groups)) (λ parts. AreFull (all_rows parts))
full_groups plan [] some keyed = tt
full_groups plan (g ∷ gs) some keyed = full_joined (rows_of plan g) (all_ok (map (rows_of plan) gs)) (full_rows_of plan g some keyed.0) (full_groups plan gs some keyed.1)

full_once : (distinct : Bool) (rows : List Row) → AreFull rows → AreFull (shown_once distinct rows)
full_once true rows p = all_by_recursion row_cmp IsFull rows p
full_once false rows p = p

full_output : (plan : Plan) (parts : Result (List (List Row)) ℕ) (rows : List Row) → IfOk parts (λ parts. AreFull (all_rows parts))
    → finished (and_then parts (λ parts. Ok (limited plan.limit (sorted (order_cmp plan.order) (shown_once plan.distinct (all_rows parts)))))) ≡ Rows rows → AreFull rows
full_output plan (Err c) rows p e = cc
full_output plan (Ok parts) rows p e =
    let made : AreFull (limited plan.limit (sorted (order_cmp plan.order) (shown_once plan.distinct (all_rows parts)))) = full_limited plan.limit _ (full_sorted (order_cmp plan.order) (shown_once plan.distinct (all_rows parts)) (full_once plan.distinct (all_rows parts) p)) in
    let same : limited plan.limit (sorted (order_cmp plan.order) (shown_once plan.distinct (all_rows parts))) ≡ rows = cc in
    subst AreFull same made

abbrev IsKeyed : Group → Type 0
IsKeyed g = g.key ≢ []

keys_of_groups : (plan : Plan) (groups : List Group) → (plan.plain ≡ true → All (λ g. g.key ≢ []) groups)
    → AllByRecursion (λ g. plan.plain ≡ true → IsFull g.key) (map (read_off plan) groups)
keys_of_groups plan [] keyed = tt
keys_of_groups plan (g ∷ gs) keyed =
    ((λ plain. All-head IsKeyed g gs (keyed plain)), keys_of_groups plan gs (λ plain. All-tail IsKeyed g gs (keyed plain)))

-- what the last step shows can be printed
pub finished_has_fields : (plan : Plan) (groups : List Group) (rows : List Row) → plan.items ≢ [] → (plan.plain ≡ true → All (λ g. g.key ≢ []) groups)
    → finish plan (map (read_off plan) groups) ≡ Rows rows → HasFields plan rows
finished_has_fields plan groups rows some keyed e = record {
  header = some;
  rows = All-from_recursion IsFull rows (full_output plan (all_ok (map (rows_of plan) (map (read_off plan) groups))) rows (full_groups plan (map (read_off plan) groups) some (keys_of_groups plan groups keyed)) e);
}

-- ---- a batch

full_batch : (plan : Plan) (rows : List JoinedRow) → plan.items ≢ [] → IfOk (all_ok (map (shown plan) rows)) (λ parts. AreFull (all_rows parts))
full_batch plan [] some = tt
full_batch plan (s ∷ ss) some = full_joined (shown plan s) (all_ok (map (shown plan) ss)) (full_shown plan s some) (full_batch plan ss some)

from_parts : (parts : Result (List (List Row)) ℕ) (all : List Row) → IfOk parts (λ parts. AreFull (all_rows parts)) → and_then parts (λ parts. Ok ([] ++ all_rows parts)) ≡ Ok all → AreFull all
from_parts (Err c) all p e = cc
from_parts (Ok parts) all p e =
    let same : all_rows parts ≡ all = cc in
    subst AreFull same p

-- what a batch shows can be printed
pub shown_has_fields : (plan : Plan) (rows : List JoinedRow) (all : List Row) → plan.items ≢ [] → shown_after plan [] rows ≡ Ok all → HasFields plan all
shown_has_fields plan rows all some e = record {
  header = some;
  rows = All-from_recursion IsFull all (from_parts (all_ok (map (shown plan) rows)) all (full_batch plan rows some) e);
}
