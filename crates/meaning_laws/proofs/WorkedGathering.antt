-- Worked examples: answers, states, previews and events.
use Rattle.std.specs.Prelude.{◌≡◌, ℕ, pos, List, [], ◌∷◌, ◌++◌, map, Some, None, codes}
use Rattle.std.specs.Fmt.{digits}
use Rattle.std.proofs.Common.{refl}
use Rattle.meaning.specs.declared.value.Value.TheVariants.{Null, Int}
use Rattle.meaning.proofs.Evaluation.{evaluation}
use Rattle.meaning.specs.declared.plan.AggregateKind.TheVariants.{Count, Min, Max, Avg}
use Rattle.meaning.specs.Said.{Answer}
use Rattle.meaning.specs.Said.{Body}
use Rattle.meaning.specs.declared.answer.Body.TheVariants.{Groups, Fault}
use Rattle.meaning.specs.Said.{Cell}
use Rattle.meaning.specs.declared.answer.Cell.TheVariants.{Nothing, One, Conflict}
use Rattle.meaning.specs.Aggregate.{no_statistics}
use Rattle.meaning.specs.Answer.{own}
use Rattle.meaning.specs.Gather.{report, joined, preview, join_cells}
use Rattle.meaning_laws.specs.Heard.{Event, post, share, take, save, restart, heard}
use Rattle.meaning.specs.Print.{output_text, report_text}
use Rattle.meaning_laws.proofs.WorkedTables.{a, t, key, listing, sales, q, agg, count_rows, totals, count_plan, sum_plan, by_t}

-- ---- answers and states

-- the own answers of the first query's two fragments
abbrev first : Answer
first = own count_plan [] (2 ∷ 3 ∷ []) sales 0

abbrev second : Answer
second = own count_plan [] (2 ∷ 3 ∷ []) sales 1

-- the first query's report after some answers
abbrev after : List Answer → List ℕ
after answers = report_text count_plan (report count_plan (joined (2 ∷ 3 ∷ []) answers))

repeated_answers : joined (2 ∷ 3 ∷ []) (first ∷ second ∷ [])
    ≡ joined (2 ∷ 3 ∷ []) (second ∷ first ∷ second ∷ first ∷ [])
repeated_answers = simp evaluation

repeated_answers_printed : after (second ∷ first ∷ second ∷ first ∷ []) ≡ codes "c1\n5\n"
unfolding digits
repeated_answers_printed = simp evaluation

one_fragment_missing : after (first ∷ []) ≡ codes "missing: 1\n"
unfolding digits
one_fragment_missing = refl

-- an answer for fragment 0 that says one row
abbrev other : Answer
other = record {
  k = 0;
  body = Groups
      (record { key = []; rows = 1; states = record no_statistics { count = 1 } ∷ [] } ∷ []);
}

conflict_stays : after (first ∷ other ∷ first ∷ []) ≡ codes "conflict: 0\n"
unfolding digits
conflict_stays = simp evaluation

conflict_in_the_other_order : after (other ∷ first ∷ second ∷ first ∷ []) ≡ codes "conflict: 0\n"
unfolding digits
conflict_in_the_other_order = simp evaluation

-- the statistics of SUM(q) over the first fragment: one entry of two rows
statistics_of_a_fragment : (own (sum_plan q []) [] (2 ∷ 3 ∷ []) sales 0).body
    ≡ Groups (record { key = []; rows = 2; states = record no_statistics { count = 1; sum = pos 2 } ∷ [] } ∷ [])
statistics_of_a_fragment = simp evaluation

-- a preview of some fragments is the meaning over their rows
preview_of_part : output_text by_t (preview by_t (joined (2 ∷ 3 ∷ []) (own by_t [] (2 ∷ 3 ∷ []) sales 1 ∷ [])))
    ≡ codes "t,c2\n\\N,4\na,1\n"
unfolding digits
preview_of_part = simp evaluation

-- ---- cells

-- the bodies of the first fragment's own answer and of another
abbrev own_answer : Body
own_answer = first.body

abbrev other_answer : Body
other_answer = other.body

-- each cell beside each
abbrev cells : List Cell
cells = Nothing ∷ One own_answer ∷ One other_answer ∷ Conflict ∷ []

table_of_joins : map (λ c. map (join_cells c) cells) cells
    ≡ (Nothing ∷ One own_answer ∷ One other_answer ∷ Conflict ∷ [])
    ∷ (One own_answer ∷ One own_answer ∷ Conflict ∷ Conflict ∷ [])
    ∷ (One other_answer ∷ Conflict ∷ One other_answer ∷ Conflict ∷ [])
    ∷ (Conflict ∷ Conflict ∷ Conflict ∷ Conflict ∷ [])
    ∷ []
table_of_joins = simp evaluation

-- answers that differ in the row count alone are a conflict
abbrev more_rows : Answer
more_rows = record {
  k = 0;
  body =
      Groups (record { key = []; rows = 3; states = record no_statistics { count = 2 } ∷ [] } ∷ []);
}

row_counts_report_apart : after (first ∷ more_rows ∷ []) ≡ codes "conflict: 0\n"
unfolding digits
row_counts_report_apart = simp evaluation

-- a fault and groups, and two faults
abbrev faulted : ℕ → ℕ → Answer
faulted row code = record { k = 0; body = Fault (record { row = row; code = code }) }

fault_beside_groups : after (first ∷ faulted 0 1 ∷ second ∷ []) ≡ codes "conflict: 0\n"
unfolding digits
fault_beside_groups = simp evaluation

faults_of_two_codes : after (faulted 0 1 ∷ faulted 0 2 ∷ second ∷ []) ≡ codes "conflict: 0\n"
unfolding digits
faults_of_two_codes = refl

-- ---- reports and previews

nothing_heard : after [] ≡ codes "missing: 0 1\n"
unfolding digits
nothing_heard = refl

-- a conflict is reported before a missing fragment
conflict_beside_a_missing_fragment : after (first ∷ other ∷ []) ≡ codes "conflict: 0\n"
unfolding digits
conflict_beside_a_missing_fragment = simp evaluation

-- an answer for a fragment outside the cut counts for nothing
outside_the_cut : after (first ∷ second ∷ record { k = 2; body = other_answer } ∷ []) ≡ codes "c1\n5\n"
unfolding digits
outside_the_cut = simp evaluation

-- the first query's preview after some answers
abbrev previewed : List Answer → List ℕ
previewed answers = output_text count_plan (preview count_plan (joined (2 ∷ 3 ∷ []) answers))

preview_of_nothing : previewed [] ≡ codes "c1\n0\n"
unfolding digits
preview_of_nothing = simp evaluation

preview_beside_a_missing_fragment : previewed (first ∷ []) ≡ codes "c1\n2\n"
unfolding digits
preview_beside_a_missing_fragment = simp evaluation

preview_beside_a_conflict : previewed (first ∷ second ∷ other ∷ []) ≡ codes "c1\n3\n"
unfolding digits
preview_beside_a_conflict = simp evaluation

preview_of_a_fault : previewed (faulted 1 2 ∷ second ∷ []) ≡ codes "arithmetic: division by zero at row 1\n"
unfolding digits
preview_of_a_fault = simp evaluation

-- the statistics that each kind keeps of q over the first fragment
kept_of_a_fragment : (own (totals (count_rows ∷ agg Count q ∷ agg Min q ∷ agg Max q ∷ agg Avg q ∷ []) []) []
    (2 ∷ 3 ∷ []) sales 0).body
    ≡ Groups (record {
      key = [];
      rows = 2;
      states = record no_statistics { count = 2 } ∷ record no_statistics { count = 1 }
          ∷ record no_statistics { count = 1; least = Some (Int (pos 2)) }
          ∷ record no_statistics { count = 1; greatest = Some (Int (pos 2)) }
          ∷ record no_statistics { count = 1; sum = pos 2 } ∷ [];
    } ∷ [])
kept_of_a_fragment = simp evaluation

-- a plain query's groups are its different rows, with how often each stands, and none over no rows
plain_answer : (own (listing (key t ∷ []) []) [] (2 ∷ 3 ∷ []) sales 1).body
    ≡ Groups (record { key = Null ∷ []; rows = 1; states = [] } ∷ record { key = a ∷ []; rows = 2; states = [] } ∷ [])
plain_answer = simp evaluation

plain_answer_of_no_rows : (own (listing (key t ∷ []) []) [] (0 ∷ []) [] 0).body ≡ Groups []
plain_answer_of_no_rows = refl

-- ---- events

-- the first query's report of one of two coordinators, after some events
abbrev returned : ℕ → List Event → List ℕ
returned i events = report_text count_plan (report count_plan (joined (2 ∷ 3 ∷ []) (heard 2 i events)))

-- coordinator 0 shares its answer with coordinator 1
abbrev shared : List Event
shared = post (Some first) ∷ post (Some second) ∷ take 0 0 ∷ take 1 1 ∷ share 0 ∷ take 1 2 ∷ []

shared_by_0 : returned 0 shared ≡ codes "missing: 1\n"
unfolding digits
shared_by_0 = refl

shared_with_1 : returned 1 shared ≡ codes "c1\n5\n"
unfolding digits
shared_with_1 = simp evaluation

-- what came behind the last save is lost at a restart, and all where nothing was saved
restarted_as_saved : returned 0 (shared ++ save 0 ∷ take 0 1 ∷ restart 0 ∷ []) ≡ codes "missing: 1\n"
unfolding digits
restarted_as_saved = refl

saved_twice : returned 0 (shared ++ save 0 ∷ take 0 1 ∷ save 0 ∷ restart 0 ∷ []) ≡ codes "c1\n5\n"
unfolding digits
saved_twice = simp evaluation

restarted_from_nothing : returned 1 (shared ++ restart 1 ∷ []) ≡ codes "missing: 0 1\n"
unfolding digits
restarted_from_nothing = refl

-- a packet holds what its sender had heard when it was sent
shared_before : returned 1 (post (Some first) ∷ share 0 ∷ take 0 0 ∷ take 1 1 ∷ []) ≡ codes "missing: 0 1\n"
unfolding digits
shared_before = refl

-- bytes that spell no answer make a packet, and a take of it or of no packet changes nothing
no_answer : returned 0 (post None ∷ post (Some second) ∷ take 0 0 ∷ take 0 9 ∷ []) ≡ codes "missing: 0 1\n"
unfolding digits
no_answer = refl

no_answer_is_a_packet : returned 0 (post None ∷ post (Some second) ∷ take 0 0 ∷ take 0 1 ∷ []) ≡ codes "missing: 0\n"
unfolding digits
no_answer_is_a_packet = refl

-- a share, a take, a save and a restart of a coordinator that isn't there change nothing: the share makes no packet
nobody : returned 0 (share 7 ∷ post (Some second) ∷ take 0 0 ∷ take 7 0 ∷ save 7 ∷ restart 7 ∷ []) ≡ codes "missing: 0\n"
unfolding digits
nobody = refl

-- a packet may be taken again, and by several
taken_again : returned 0 (shared ++ take 0 0 ∷ take 0 1 ∷ take 0 2 ∷ take 0 1 ∷ []) ≡ codes "c1\n5\n"
unfolding digits
taken_again = simp evaluation
