-- Columns of states, one after the other.
use Rattle.std.specs.Prelude.{◌≡◌, ℕ, ◌+◌, ◌<◌, ◌≤◌, List, [], ◌∷◌, length, map, get_or, slice_set}
use Rattle.std.specs.List.{zip, enumerate_from}
use Rattle.std.proofs.Common.{refl, sym, ap, subst, ◌∙◌, arith, inl, inr, length-set, get_or-set_same, get_or-set_other}
use Rattle.std.proofs.lemmas.Bool.{cases_eq}
use Rattle.std.proofs.lemmas.List.{length-map, get_or-map}
use Rattle.std.proofs.lemmas.List.FromFn.{length-enumerate_from, get_or-enumerate_from}
use Rattle.meaning.specs.declared.value.Value.{Value}
use Rattle.meaning.specs.declared.answer.Statistics.{Statistics}
use Rattle.meaning.specs.Order.{Row, column}
use Rattle.meaning.specs.Aggregate.{no_statistics, merge}
use Rattle.vectors.specs.declared.vector.Vector.{Vector}
use Rattle.accumulators.specs.Columns.{ColumnSpec, of_states, no_column}
use Rattle.aggregate_states.specs.Entries.{state_of, of_group, with_entries}
use Rattle.aggregate_states.specs.Values.{selected}
use Rattle.vectors.specs.Vector.{values_of}
use Rattle.group_keys.specs.Rows.{rows_at}
use Rattle.group_by.specs.GroupIndexes.{state_in, IsUpdated, AreUpdated}
use Rattle.group_keys.proofs.KeyRows.{lane_of}

-- the entries of one aggregate
pub column_of : (arguments : List Vector) (list : List ℕ) (c : ℕ) (d : Vector) → c < length arguments → map (λ (row : Row). column row c) (rows_at arguments list) ≡ selected (values_of (get_or arguments c d)) list
column_of arguments [] c d here = refl
column_of arguments (at ∷ list) c d here = λ i. lane_of arguments at c d here i ∷ column_of arguments list c d here i

-- one column that was filled up and took its entries
pub updated : (n : ℕ) (indexed : List (ℕ × Value)) (old filled new : ColumnSpec) → filled.kind ≡ old.kind → length filled.states ≡ n → ((group_index : ℕ) → state_in filled group_index ≡ state_in old group_index)
    → new ≡ of_states filled (with_entries filled.kind filled.states indexed) → IsUpdated n indexed old new
updated n indexed old filled new kind height states is =
    let one : ℕ × Statistics → Statistics = λ (s : ℕ × Statistics). merge s.1 (state_of filled.kind (of_group s.0 indexed)) in
    let long : length (enumerate_from 0 filled.states) ≡ n = length-enumerate_from 0 filled.states ∙ height in
    record {
      kind = ap (λ (c : ColumnSpec). c.kind) is ∙ kind;
      height = ap (λ (c : ColumnSpec). length c.states) is ∙ length-map (enumerate_from 0 filled.states) one ∙ long;
      states = λ group_index here.
          ap (λ (c : ColumnSpec). state_in c group_index) is
          ∙ get_or-map one (enumerate_from 0 filled.states) group_index (0, no_statistics) no_statistics (subst (λ (m : ℕ). group_index < m) (sym long) here)
          ∙ ap one (get_or-enumerate_from 0 filled.states group_index (0, no_statistics) (subst (λ (m : ℕ). group_index < m) (sym height) here))
          ∙ (λ i. merge (states group_index i) (state_of (kind i) (of_group ((let e : 0 + group_index ≡ group_index = omega arith in e) i) indexed)));
    }

-- the columns up to one took their entries, and the others stand
pub record AreDone (n : ℕ) (group_indexes : List ℕ) (arguments : List Row) (k : ℕ) (old now : List ColumnSpec) : Type 0 where
  pub long : length now ≡ length old
  pub done : (c : ℕ) → c < k → c < length old → IsUpdated n (zip group_indexes (map (λ row. column row c) arguments)) (get_or old c no_column) (get_or now c no_column)
  pub left : (c : ℕ) → k ≤ c → get_or now c no_column ≡ get_or old c no_column

pub done_more : (n : ℕ) (group_indexes : List ℕ) (arguments : List Vector) (list : List ℕ) (k : ℕ) (old now : List ColumnSpec) (d : Vector) (one new : ColumnSpec) → k < length now → k < length arguments
    → one ≡ get_or now k no_column → IsUpdated n (zip group_indexes (selected (values_of (get_or arguments k d)) list)) one new
    → AreDone n group_indexes (rows_at arguments list) k old now → AreDone n group_indexes (rows_at arguments list) (k + 1) old (slice_set now k new)
done_more n group_indexes arguments list k old now d one new here in_arguments is updated so_far = record {
  long = length-set now k new ∙ so_far.long;
  done = λ c l in_old. elim (cases_eq c k) [
    | inl at ↦ (
        let entries = column_of arguments list k d in_arguments in
        let was : one ≡ get_or old k no_column = is ∙ so_far.left k (omega arith) in
        let read : get_or (slice_set now k new) k no_column ≡ new = get_or-set_same now k new no_column here in
        let at_k : IsUpdated n (zip group_indexes (map (λ (row : Row). column row k) (rows_at arguments list))) (get_or old k no_column) (get_or (slice_set now k new) k no_column) =
        subst (λ (vs : List Value). IsUpdated n (zip group_indexes vs) (get_or old k no_column) (get_or (slice_set now k new) k no_column)) (sym entries)
        (subst (λ (a : ColumnSpec). IsUpdated n (zip group_indexes (selected (values_of (get_or arguments k d)) list)) a (get_or (slice_set now k new) k no_column)) was
        (subst (λ (b : ColumnSpec). IsUpdated n (zip group_indexes (selected (values_of (get_or arguments k d)) list)) one b) (sym read) updated)) in
        subst (λ (m : ℕ). IsUpdated n (zip group_indexes (map (λ (row : Row). column row m) (rows_at arguments list))) (get_or old m no_column) (get_or (slice_set now k new) m no_column)) (sym at) at_k)
    | inr ne ↦ subst (λ (b : ColumnSpec). IsUpdated n (zip group_indexes (map (λ (row : Row). column row c) (rows_at arguments list))) (get_or old c no_column) b) (sym (get_or-set_other now k c new no_column ne))
        (so_far.done c (omega (arith, l, ne)) in_old)
  ];
  left = λ c past. let ne : c ≡ k → ⊥ = λ e. omega (arith, past, e) in get_or-set_other now k c new no_column ne ∙ so_far.left c (omega (arith, past));
}

pub all_done : (n : ℕ) (group_indexes : List ℕ) (arguments : List Row) (k : ℕ) (old now : List ColumnSpec) → length old ≤ k → AreDone n group_indexes arguments k old now → AreUpdated n group_indexes arguments old now
all_done n group_indexes arguments k old now past done = (done.long, λ c l. done.done c (omega (arith, l, past)) l)
