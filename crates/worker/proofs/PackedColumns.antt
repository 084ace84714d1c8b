-- Which columns of the fact stay packed in a row group.
use Rattle.std.proofs.Common.{◌≡◌, ℕ, zero, suc, ◌+◌, ◌<◌, Bool, true, false, not, ◌||◌, List, [], ◌∷◌, ◌++◌, drop, get_or, length, map, Option, Some, None, refl, ap, sym, ◌∙◌, arith}
use Rattle.std.specs.Prelude.{◌==◌, slice_index_or}
use Rattle.std.specs.List.{AllByRecursion, AllZip, list_any, range_with_len}
use Rattle.std.proofs.lemmas.Bool.{eq-eqb}
use Rattle.std.proofs.lemmas.List.Elements.{All-from_recursion}
use Rattle.block_predicates.specs.declared.marks.EntryMarks.{EntryMarks}
use Rattle.meaning.specs.declared.expr.Expr.{Expr}
use Rattle.meaning.specs.declared.plan.Aggregate.{Aggregate}
use Rattle.meaning.specs.declared.plan.GroupingKey.{GroupingKey}
use Rattle.meaning.specs.declared.plan.Join.{Join}
use Rattle.meaning.specs.declared.plan.Plan.{Plan}
use Rattle.meaning.specs.References.{Reference, FactColumn, JoinColumn, GroupKey, GroupAggregate, columns_used}
use Rattle.pushdown.specs.Naming.{is_fact_column}
use Rattle.worker.specs.Packed.{IsReadWithout, IsUnpacked, ReadsUnpacked, ReadsWhere, any_unmarked, is_read, names, reads_where}

left_false : (a b : Bool) → (a || b) ≡ false → a ≡ false
left_false true b e = cc
left_false false b e = refl

right_false : (a b : Bool) → (a || b) ≡ false → b ≡ false
right_false true b e = cc
right_false false b e = e

-- ---- one column more

range_next : (f : ℕ → Bool) (first n : ℕ) (b : Bool) → b ≡ f (first + n) → map f (range_with_len first n) ++ b ∷ [] ≡ map f (range_with_len first (suc n))
range_next f first zero b is = ap (λ (x : Bool). x ∷ []) (is ∙ ap f (let e : first + 0 ≡ first = omega arith in e))
range_next f first (suc n) b is = ap (λ (xs : List Bool). f first ∷ xs) (range_next f (first + 1) n b (is ∙ ap f (let e : first + suc n ≡ (first + 1) + n = omega arith in e)))

pub one_more : (f : ℕ → Bool) (n : ℕ) (b : Bool) → b ≡ f n → map f (range_with_len 0 n) ++ b ∷ [] ≡ map f (range_with_len 0 (n + 1))
one_more f n b is =
    range_next f 0 n b (is ∙ ap f (let e : n ≡ 0 + n = omega arith in e)) ∙ ap (λ (m : ℕ). map f (range_with_len 0 m)) (let e : suc n ≡ n + 1 = omega arith in e)

-- ---- conditions one after the other

next_of : (at : ℕ) (cs : List Expr) (ms : List (Option EntryMarks)) (k : ℕ) (c : Expr) (m : Option EntryMarks) → k < length cs → k < length ms → c ≡ get_or cs k c → m ≡ get_or ms k m
    → any_unmarked at (drop k cs) (drop k ms) ≡ (reads_where at c m || any_unmarked at (drop (suc k) cs) (drop (suc k) ms))
next_of at [] ms k c m lt also c_is m_is = absurd (omega (arith, lt))
next_of at (x ∷ cs) [] k c m lt also c_is m_is = absurd (omega (arith, also))
next_of at (x ∷ cs) (y ∷ ms) zero c m lt also c_is m_is = λ i. reads_where at (sym c_is i) (sym m_is i) || any_unmarked at cs ms
next_of at (x ∷ cs) (y ∷ ms) (suc k) c m lt also c_is m_is = next_of at cs ms k c m (omega (arith, lt)) (omega (arith, also)) c_is m_is

pub unmarked_next : (at : ℕ) (cs : List Expr) (ms : List (Option EntryMarks)) (k : ℕ) (c : Expr) (m : Option EntryMarks) → k < length cs → k < length ms → c ≡ get_or cs k c → m ≡ get_or ms k m
    → (b : Bool) → reads_where at c m ≡ b → any_unmarked at (drop k cs) (drop k ms) ≡ (b || any_unmarked at (drop (k + 1) cs) (drop (k + 1) ms))
unmarked_next at cs ms k c m lt also c_is m_is b is =
    next_of at cs ms k c m lt also c_is m_is
    ∙ (λ i. is i || any_unmarked at (drop ((let e : suc k ≡ k + 1 = omega arith in e) i) cs) (drop ((let e : suc k ≡ k + 1 = omega arith in e) i) ms))

-- ---- what is read

marked_there : (f : ℕ → Bool) (first n at : ℕ) → slice_index_or (map f (range_with_len first n)) at false ≡ true → f (first + at) ≡ true
marked_there f first zero at e = absurd cc
marked_there f first (suc n) zero e = ap f (let e : first + 0 ≡ first = omega arith in e) ∙ e
marked_there f first (suc n) (suc at) e = ap f (let e : first + suc at ≡ (first + 1) + at = omega arith in e) ∙ marked_there f (first + 1) n at e

negated : (b : Bool) → not b ≡ true → b ≡ false
negated true e = cc
negated false e = refl

module _ (packed : List Bool) where
  unread : (us : List Reference) → ((at : ℕ) → slice_index_or packed at false ≡ true → list_any (is_fact_column at) us ≡ false) → AllByRecursion (IsUnpacked packed) us
  unread [] none = tt
  unread (FactColumn at ∷ us) none = (
    elim (slice_index_or packed at false) as (λ b. slice_index_or packed at false ≡ b → b ≡ false) [
      | true ↦ λ e. sym (eq-eqb at at refl) ∙ left_false (at == at) (list_any (is_fact_column at) us) (none at e)
      | false ↦ λ e. refl
    ] refl,
    unread us (λ p e. right_false (at == p) (list_any (is_fact_column p) us) (none p e)),
  )
  unread (JoinColumn join at ∷ us) none = (tt, unread us none)
  unread (GroupKey i ∷ us) none = (tt, unread us none)
  unread (GroupAggregate i ∷ us) none = (tt, unread us none)

  unread_by : (e : Expr) → ((at : ℕ) → slice_index_or packed at false ≡ true → names at e ≡ false) → ReadsUnpacked packed e
  unread_by e none = All-from_recursion (IsUnpacked packed) (columns_used e) (unread (columns_used e) none)

  unread_by_each : {X : Type 0} (expr : X → Expr) (xs : List X) → ((at : ℕ) → slice_index_or packed at false ≡ true → list_any (λ x. names at (expr x)) xs ≡ false) → AllByRecursion (λ x. ReadsUnpacked packed (expr x)) xs
  unread_by_each expr [] none = tt
  unread_by_each expr (x ∷ xs) none = (
    unread_by (expr x) (λ at e. left_false (names at (expr x)) (list_any (λ y. names at (expr y)) xs) (none at e)),
    unread_by_each expr xs (λ at e. right_false (names at (expr x)) (list_any (λ y. names at (expr y)) xs) (none at e)),
  )

  no_foreign : (js : List Join) → ((at : ℕ) → slice_index_or packed at false ≡ true → list_any (λ (j : Join). j.foreign == at) js ≡ false) → AllByRecursion (λ (j : Join). slice_index_or packed j.foreign false ≡ false) js
  no_foreign [] none = tt
  no_foreign (j ∷ js) none = (
    elim (slice_index_or packed j.foreign false) as (λ b. slice_index_or packed j.foreign false ≡ b → b ≡ false) [
      | true ↦ λ e. sym (eq-eqb j.foreign j.foreign refl) ∙ left_false (j.foreign == j.foreign) (list_any (λ (i : Join). i.foreign == j.foreign) js) (none j.foreign e)
      | false ↦ λ e. refl
    ] refl,
    no_foreign js (λ at e. right_false (j.foreign == at) (list_any (λ (i : Join). i.foreign == at) js) (none at e)),
  )

  unread_where : (cs : List Expr) (ms : List (Option EntryMarks)) → length ms ≡ length cs → ((at : ℕ) → slice_index_or packed at false ≡ true → any_unmarked at cs ms ≡ false) → AllZip (ReadsWhere packed) cs ms
  unread_where [] [] long none = tt
  unread_where [] (m ∷ ms) long none = absurd (omega (arith, long))
  unread_where (c ∷ cs) [] long none = absurd (omega (arith, long))
  unread_where (c ∷ cs) (None ∷ ms) long none = (
    unread_by c (λ at e. left_false (names at c) (any_unmarked at cs ms) (none at e)),
    unread_where cs ms (omega (arith, long)) (λ at e. right_false (names at c) (any_unmarked at cs ms) (none at e)),
  )
  unread_where (c ∷ cs) (Some m ∷ ms) long none = (tt, unread_where cs ms (omega (arith, long)) none)

-- the columns that aren't read can stay packed
pub read_without : (packed : List Bool) (plan : Plan) (marks : List (Option EntryMarks)) (count : ℕ) → length marks ≡ length plan.conjuncts
    → packed ≡ map (λ at. not (is_read at plan marks)) (range_with_len 0 count) → IsReadWithout packed plan marks
read_without packed plan marks count long is = record {
  joins = All-from_recursion (λ (j : Join). slice_index_or packed j.foreign false ≡ false) plan.joins (no_foreign packed plan.joins (λ at e. left_false (foreign at) (key at) (left_false (foreign at || key at) (argument at || condition at) (none at e))));
  keys = All-from_recursion (λ (k : GroupingKey). ReadsUnpacked packed k.expr) plan.keys
      (unread_by_each packed (λ (k : GroupingKey). k.expr) plan.keys (λ at e. right_false (foreign at) (key at) (left_false (foreign at || key at) (argument at || condition at) (none at e))));
  arguments = All-from_recursion (λ (a : Aggregate). ReadsUnpacked packed a.argument) plan.aggs
      (unread_by_each packed (λ (a : Aggregate). a.argument) plan.aggs (λ at e. left_false (argument at) (condition at) (right_false (foreign at || key at) (argument at || condition at) (none at e))));
  conditions = unread_where packed plan.conjuncts marks long (λ at e. right_false (argument at) (condition at) (right_false (foreign at || key at) (argument at || condition at) (none at e)));
}
  where
    foreign : ℕ → Bool
    foreign at = list_any (λ (j : Join). j.foreign == at) plan.joins

    key : ℕ → Bool
    key at = list_any (λ (k : GroupingKey). names at k.expr) plan.keys

    argument : ℕ → Bool
    argument at = list_any (λ (a : Aggregate). names at a.argument) plan.aggs

    condition : ℕ → Bool
    condition at = any_unmarked at plan.conjuncts marks

    none : (at : ℕ) → slice_index_or packed at false ≡ true → is_read at plan marks ≡ false
    none at e =
        negated (is_read at plan marks)
        (ap (λ (p : ℕ). not (is_read p plan marks)) (let e : at ≡ 0 + at = omega arith in e)
        ∙ marked_there (λ p. not (is_read p plan marks)) 0 count at (sym (ap (λ (xs : List Bool). slice_index_or xs at false) is) ∙ e))
