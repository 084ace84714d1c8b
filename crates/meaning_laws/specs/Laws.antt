-- The laws on which a coordinator rests, each of them the contract of a function of `src/laws.rt`.
use Rattle.std.specs.Prelude.{◌≡◌, ℕ, Bool, true, false, ◌<◌, ◌≤◌, ◌==◌, List, [], ◌∷◌, ◌++◌, map, filter, filter_map, flat_map, length, slice_get, sum, zip, slice_set, slice_index_or, Some, ◌^◌, Ok, Contains, IsPermutation, IsSorted}
use Rattle.std.specs.List.{list_any, list_all, range_with_len}
use Rattle.std.specs.Option.{option_map_or}
use Rattle.std.specs.Ordering.{eq_by_cmp, nat_cmp}
use Rattle.std.specs.declared.cmp.Ordering.{Ordering}
use Rattle.meaning.specs.declared.value.Value.{Value}
use Rattle.meaning.specs.declared.plan.AggregateKind.{AggregateKind}
use Rattle.meaning.specs.declared.plan.Join.{Join}
use Rattle.meaning.specs.declared.plan.OrderKey.{OrderKey}
use Rattle.meaning.specs.declared.plan.Plan.{Plan}
use Rattle.meaning.specs.declared.answer.Statistics.{Statistics}
use Rattle.meaning.specs.declared.answer.Group.{Group}
use Rattle.meaning.specs.Said.{Body}
use Rattle.meaning.specs.Said.{Answer}
use Rattle.meaning.specs.Said.{Cell}
use Rattle.meaning.specs.declared.answer.Cell.TheVariants.{Nothing, One}
use Rattle.meaning.specs.Order.{Row, lesser, least, sorted, ascending_set, union, is_ascending}
use Rattle.meaning.specs.Cut.{Numbered, Cut, numbered, fragment, part}
use Rattle.meaning.specs.Joined.{candidates, choices, combos, group_row, matched_rows, stands_beside}
use Rattle.meaning.specs.Judge.{row_fault, kept_rows, fault_cmp}
use Rattle.meaning.specs.Aggregate.{aggregate, no_statistics, statistics, kept_by, merge, value}
use Rattle.meaning.specs.Group.{group_of, kept_groups, merge_groups, merged_groups}
use Rattle.meaning.specs.Finish.{order_cmp}
use Rattle.meaning.specs.Meaning.{meaning}
use Rattle.meaning.specs.Answer.{own, own_body, combined, read_off}
use Rattle.meaning.specs.Gather.{same_body, join_cells, said_of, joined, is_conflict, is_nothing, is_one, fragments_where, conflict, missing, output, preview, report}
use Rattle.meaning_laws.specs.Heard.{Event, heard}
use Rattle.meaning_laws.specs.Running.{state_after}
use Rattle.meaning.specs.Fitting.{is_group_of, is_group_possible, fits}
use Rattle.meaning.specs.Results.{all_ok}
use Rattle.meaning.specs.Typing.{fits_row_types, group_types, is_typed_on}
use Rattle.meaning.specs.Dimensions.{AreDimensionsOf}
use Rattle.meaning.specs.Print.{output_text, report_text}

-- joining cells is commutative, associative and idempotent
pub record CellsJoin : Type 0 where
  pub commutes : (c d : Cell) → join_cells c d ≡ join_cells d c
  pub associates : (c d e : Cell) → join_cells (join_cells c d) e ≡ join_cells c (join_cells d e)
  pub repeats : (c : Cell) → join_cells c c ≡ c

-- two lists of answers with the same members
abbrev pub SameAnswers : List Answer → List Answer → Type 0
SameAnswers xs ys = (k : ℕ) (b : Body) → list_any (same_body b) (said_of k xs) ≡ list_any (same_body b) (said_of k ys)

-- a state depends on the set of answers alone, and that of two sets together is the join of theirs
pub record StatesJoin : Type 0 where
  pub same : (cut : Cut) (xs ys : List Answer) → SameAnswers xs ys → joined cut xs ≡ joined cut ys
  pub together : (cut : Cut) (xs ys : List Answer) → joined cut (xs ++ ys)
      ≡ map (λ p. join_cells p.0 p.1) (zip (joined cut xs) (joined cut ys))
  pub one_more : (cut : Cut) (answers : List Answer) (a : Answer) → a.k < length cut → joined cut (answers ++ a ∷ [])
      ≡ slice_set (joined cut answers) a.k (join_cells (slice_index_or (joined cut answers) a.k Nothing) (One a.body))

-- merging statistics commutes and associates, with those of no entry as neutral
pub record StatisticsMerge : Type 0 where
  pub commutes : (a b : Statistics) → merge a b ≡ merge b a
  pub associates : (a b c : Statistics) → merge (merge a b) c ≡ merge a (merge b c)
  pub neutral : (a : Statistics) → merge no_statistics a ≡ a

-- what an aggregate keeps of two lists joined is the merge of what it keeps of each, and the aggregate is read off
-- what it keeps
pub record StatisticsServe (kind : AggregateKind) : Type 0 where
  pub append : (xs ys : List Value) → kept_by kind (statistics (xs ++ ys))
      ≡ merge (kept_by kind (statistics xs)) (kept_by kind (statistics ys))
  pub value : (xs : List Value) → value kind (kept_by kind (statistics xs)) ≡ aggregate kind xs

-- a set ascends, a list that ascends is its set, and sets with the same members are equal
pub record SetsAscend {X : Type 0} (cmp : X → X → Ordering) : Type 0 where
  pub ascends : (xs : List X) → is_ascending cmp (ascending_set cmp xs) ≡ true
  pub itself : (xs : List X) → is_ascending cmp xs ≡ true → ascending_set cmp xs ≡ xs
  pub same : (xs ys : List X) → ((q : X) → list_any (eq_by_cmp cmp q) xs ≡ list_any (eq_by_cmp cmp q) ys)
      → ascending_set cmp xs ≡ ascending_set cmp ys

-- the least fault of two parts is the lesser of theirs
abbrev pub FaultsCombine : Type 0
FaultsCombine = (plan : Plan) (dims : List (List Row)) (xs ys : Numbered) → row_fault plan dims (xs ++ ys)
    ≡ lesser fault_cmp (row_fault plan dims xs) (row_fault plan dims ys)

-- what the answers of any parts say together is what one answer over all their rows says
abbrev pub AnswersCombine : Type 0
AnswersCombine = (plan : Plan) (dims : List (List Row)) (parts : List Numbered)
    → combined plan (map (own_body plan dims) parts) ≡ own_body plan dims (flat_map (λ p. p) parts)

-- groups may be merged in any order, and into a table that was merged before: so a coordinator may keep one table
pub record GroupsMerge (plan : Plan) : Type 0 where
  pub turned : (gs hs : List Group) → merged_groups plan (gs ++ hs) ≡ merged_groups plan (hs ++ gs)
  pub again : (gs hs : List Group) → merged_groups plan (merged_groups plan gs ++ hs) ≡ merged_groups plan (gs ++ hs)

-- what is kept of rows in several lists is kept list by list, and its groups are the lists' groups, merged
pub record KeptGroupsMerge (plan : Plan) : Type 0 where
  pub kept : (dims : List (List Row)) (xs ys : Numbered) → kept_rows plan dims (xs ++ ys)
      ≡ kept_rows plan dims xs ++ kept_rows plan dims ys
  pub one : (key : Row) (xs ys : List Row) → group_of plan key (xs ++ ys)
      ≡ merge_groups (group_of plan key xs) (group_of plan key ys)
  pub two : (xs ys : List (Row × Row)) → kept_groups plan (xs ++ ys)
      ≡ merged_groups plan (kept_groups plan xs ++ kept_groups plan ys)
  pub many : (parts : List (List (Row × Row))) → kept_groups plan (flat_map (λ kept. kept) parts)
      ≡ merged_groups plan (flat_map (kept_groups plan) parts)

-- the own answers of some fragments
abbrev pub own_answers : Plan → List (List Row) → Cut → List Row → List ℕ → List Answer
own_answers plan dims cut rows ks = map (λ k. own plan dims cut rows k) ks

-- the fragments of the cut that are among these, ascending
abbrev pub among : Cut → List ℕ → List ℕ
among cut ks = filter (λ k. list_any (λ j. j == k) ks) (range_with_len 0 (length cut))

-- the preview of just some fragments' own answers is the query's meaning over their rows, with their numbers in the
-- whole table
abbrev pub PreviewsAreMeanings : Type 0
PreviewsAreMeanings = (plan : Plan) (dims : List (List Row)) (cut : Cut) (rows : List Row) (ks : List ℕ)
    → preview plan (joined cut (own_answers plan dims cut rows ks)) ≡ meaning plan dims (part cut (among cut ks) rows)

-- the preview of any state whose single answers are own ones is the query's meaning over the rows of the fragments
-- that have one, whatever stands in the other cells
abbrev pub PreviewsOfOwnAnswers : Type 0
PreviewsOfOwnAnswers = (plan : Plan) (dims : List (List Row)) (cut : Cut) (rows : List Row) (cells : List Cell)
    → ((k : ℕ) (b : Body) → slice_get cells k ≡ Some (One b) → b ≡ own_body plan dims (fragment cut k rows))
    → preview plan cells ≡ meaning plan dims (part cut (fragments_where is_one cells) rows)

-- coordinators that hold cells alone hold after any events the states of what they have heard
abbrev pub StatesOfHeard : Type 0
StatesOfHeard = (cut : Cut) (n i : ℕ) (events : List Event) → state_after cut n i events ≡ joined cut (heard n i events)

-- the report of just every fragment's own answer is the query's meaning over the whole table
abbrev pub WholeFromParts : Type 0
WholeFromParts = (plan : Plan) (dims : List (List Row)) (cut : Cut) (rows : List Row)
    → sum cut ≡ length rows
    → report plan (joined cut (own_answers plan dims cut rows (range_with_len 0 (length cut))))
    ≡ output (meaning plan dims (numbered rows))

-- the least fault of the whole is the least of its fragments', and its kept rows are theirs, one after another
abbrev pub FragmentsCombine : Type 0
FragmentsCombine = (plan : Plan) (dims : List (List Row)) (cut : Cut) (rows : List Row)
    → sum cut ≡ length rows
    → (row_fault plan dims (numbered rows)
    ≡ least fault_cmp (filter_map (λ k. row_fault plan dims (fragment cut k rows)) (range_with_len 0 (length cut))))
    × (kept_rows plan dims (numbered rows)
    ≡ flat_map (λ k. kept_rows plan dims (fragment cut k rows)) (range_with_len 0 (length cut)))

-- a conflict is reported before anything is missing, and missing fragments before anything else
pub record ReportsInOrder (plan : Plan) (cells : List Cell) : Type 0 where
  pub conflicts : list_any is_conflict cells ≡ true → report plan cells ≡ conflict (fragments_where is_conflict cells)
  pub absent : list_any is_conflict cells ≡ false → list_any is_nothing cells ≡ true → report plan cells
      ≡ missing (fragments_where is_nothing cells)
  pub complete : list_any is_conflict cells ≡ false → list_any is_nothing cells ≡ false → report plan cells
      ≡ output (preview plan cells)

-- the numbers of the cells that pass a test are just those, ascending
pub record FragmentsAscend (test : Cell → Bool) (cells : List Cell) : Type 0 where
  pub ascends : is_ascending nat_cmp (fragments_where test cells) ≡ true
  pub just : (k : ℕ) → list_any (λ j. j == k) (fragments_where test cells) ≡ option_map_or test (slice_get cells k) false

-- where the dimensions' keys are unique, a fact row has at most one combination
abbrev pub OneCombination : Type 0
OneCombination = (plan : Plan) (dims : List (List Row)) (fact : Row) → AreDimensionsOf plan dims
    → length (combos plan dims fact) ≤ 1

-- where keys and arguments are of their types, a fragment's own answer fits the plan and the cut
abbrev pub OwnAnswersFit : Type 0
OwnAnswersFit = (plan : Plan) (dims : List (List Row)) (cut : Cut) (rows : List Row) (k : ℕ)
    → k < length cut
    → AreDimensionsOf plan dims
    → is_typed_on plan dims (fragment cut k rows) ≡ true
    → fits plan cut (own plan dims cut rows k) ≡ true

-- the sorted list has the elements of the list, in order
pub record Sorts {X : Type 0} (cmp : X → X → Ordering) : Type 0 where
  pub moved : (xs : List X) → IsPermutation xs (sorted cmp xs)
  pub in_order : (xs : List X) → IsSorted cmp (sorted cmp xs)

-- a set has the members of the list that it is made of
abbrev pub SetsContain : {X : Type 0} → (X → X → Ordering) → Type 0
SetsContain {X} cmp = (q : X) (xs : List X) → list_any (eq_by_cmp cmp q) (ascending_set cmp xs)
    ≡ list_any (eq_by_cmp cmp q) xs

-- the union of sets is commutative and associative, with the set of none as neutral, and the set of two lists
-- together is the union of theirs
pub record SetsUnite {X : Type 0} (cmp : X → X → Ordering) : Type 0 where
  pub commutes : (xs ys : List X) → union cmp xs ys ≡ union cmp ys xs
  pub associates : (xs ys zs : List X) → union cmp (union cmp xs ys) zs ≡ union cmp xs (union cmp ys zs)
  pub neutral : (xs : List X) → (union cmp [] xs ≡ xs) × (union cmp xs [] ≡ xs)
  pub together : (xs ys : List X) → ascending_set cmp (xs ++ ys)
      ≡ union cmp (ascending_set cmp xs) (ascending_set cmp ys)

-- groups that fit are merged into one that fits, and what is read off one has the types that the plan gives
pub record GroupsFit (plan : Plan) : Type 0 where
  pub shaped : (a b : Group) → is_group_of plan a ≡ true → is_group_of plan b ≡ true
      → is_group_of plan (merge_groups a b) ≡ true
  pub possible : (a b : Group) → is_group_possible plan a ≡ true → is_group_possible plan b ≡ true
      → is_group_possible plan (merge_groups a b) ≡ true
  pub typed : (g : Group) (values : Row) → is_group_of plan g ≡ true → is_group_possible plan g ≡ true → g.rows < 2 ^ 63
      → all_ok (read_off plan g).aggregates ≡ Ok values
      → fits_row_types (group_types plan) (group_row g.key values) ≡ true

-- any sort of the rows gives them in the answer's order
abbrev pub SortsAreEqual : Type 0
SortsAreEqual = (order : List OrderKey) (xs ys : List Row) → IsPermutation xs ys → IsSorted (order_cmp order) ys
    → ys ≡ sorted (order_cmp order) xs

-- each join can be looked up by itself: the choices that fit are the choices of what fits
abbrev pub JoinsAreLookups : Type 0
JoinsAreLookups = (fact : Row) (ps : List (Join × List Row))
    → filter (λ c. list_all (stands_beside fact) (zip ps c)) (choices (map candidates ps))
    ≡ choices (map (λ p. filter (λ o. stands_beside fact (p, o)) (candidates p)) ps)

-- the joined rows, which are a filter of the cross product, are the choices of one match from each join
abbrev pub JoinedRowsAreMatches : Type 0
JoinedRowsAreMatches = (plan : Plan) (dims : List (List Row)) (fact : Row) → length dims ≡ length plan.joins
    → combos plan dims fact ≡ matched_rows plan dims fact

-- once every fragment's own answer is in and none conflicts, what is printed is the query's meaning over the whole
-- table
abbrev pub Headline : Type 0
Headline = (plan : Plan) (dims : List (List Row)) (cut : Cut) (rows : List Row) (answers : List Answer)
    → sum cut ≡ length rows
    → ((k : ℕ) → k < length cut → Contains answers (own plan dims cut rows k))
    → fragments_where is_conflict (joined cut answers) ≡ []
    → report_text plan (report plan (joined cut answers)) ≡ output_text plan (meaning plan dims (numbered rows))
