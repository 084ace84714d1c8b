-- Values that come to the sets of groups.
use Rattle.std.specs.Prelude.{◌≡◌, ℕ, ℤ, pos, zero, suc, ◌+◌, ◌<◌, ◌≤◌, ◌==◌, Bool, true, false, cond, not, ◌||◌, List, [], ◌∷◌, ◌++◌, length, map, filter, take, get_or, Result, Ok, Err, OnOk}
use Rattle.std.specs.List.{range_with_len, AllByRecursion}
use Rattle.std.specs.Cmp.{Equal-is}
use Rattle.std.specs.Ordering.{is_eq}
use Rattle.std.proofs.Common.{refl, sym, ap, subst, ◌∙◌, arith, get_or-set_same}
use Rattle.std.proofs.lemmas.Cmp.{tied_itself}
use Rattle.std.proofs.lemmas.List.{append-nil, append_assoc, flat_map_more, map-append, take_more}
use Rattle.std.proofs.lemmas.List.Concat.{flat_map-cons}
use Rattle.std.proofs.lemmas.List.Elements.{filter-append}
use Rattle.std.proofs.lemmas.List.FromFn.{length-map-range_with_len}
use Rattle.meaning.specs.declared.value.Value.{Value}
use Rattle.meaning.specs.declared.value.Value.TheVariants.{Int, Null}
use Rattle.meaning.specs.declared.answer.Statistics.{Statistics}
use Rattle.meaning.specs.declared.plan.AggregateKind.TheVariants.{CountDistinct}
use Rattle.meaning.specs.Order.{ascending_set, is_ascending, is_null, same_value, union, value_cmp}
use Rattle.meaning.specs.Aggregate.{kept_by, merge, no_statistics, present}
use Rattle.meaning.proofs.Orders.{value_total, value_exact}
use Rattle.meaning.proofs.Sets.{ascending_set_itself, same_ascending_set}
use Rattle.meaning.proofs.Tests as tests
use Rattle.meaning.proofs.Tests.{both, first_of, list_any-append, or_first, or_second, second_of}
use Rattle.meaning.proofs.Unions.{set-append}
use Rattle.aggregate_states.specs.Entries.{state_of, together}
use Rattle.aggregate_states.specs.Kinds.{set_state}
use Rattle.aggregate_states.specs.Values.{is_spelled, selected}
use Rattle.distinct_sets.specs.declared.entry.Entry.{Entry}
use Rattle.distinct_sets.specs.Sets.{are_sets, entries_of, has, in_group, merged_at, set_at, sets_of, AreEntered, IsGrown, IsSets}
use Rattle.distinct_sets.proofs.Places.{same, other, other_above}

pub all_append : {X : Type 0} (P : X → Type 0) (xs ys : List X) → AllByRecursion P xs → AllByRecursion P ys → AllByRecursion P (xs ++ ys)
all_append P [] ys a b = b
all_append P (x ∷ xs) ys a b = (a.0, all_append P xs ys a.1 b)

pub all_imply : {X : Type 0} (P Q : X → Type 0) → ((x : X) → P x → Q x) → (xs : List X) → AllByRecursion P xs → AllByRecursion Q xs
all_imply P Q f [] a = tt
all_imply P Q f (x ∷ xs) a = (f x a.0, all_imply P Q f xs a.1)

-- ---- what is among values

pub equal : (q v : Value) → same_value q v ≡ true → q ≡ v
equal q v e = value_exact q v ((Equal-is (value_cmp q v)).0 e)

pub itself : (v : Value) (vs : List Value) → has v (v ∷ vs) ≡ true
itself v vs = or_first (same_value v v) (has v vs) (ap is_eq (tied_itself value_total v))

subset : (q : Value) (xs ys : List Value) → AllByRecursion (λ v. has v ys ≡ true) xs → has q xs ≡ true → has q ys ≡ true
subset q [] ys all h = cc
subset q (x ∷ xs) ys all h =
    elim (same_value q x) as (λ b. same_value q x ≡ b → (b || has q xs) ≡ true → has q ys ≡ true) [
      | true ↦ λ tie _. ap (λ v. has v ys) (equal q x tie) ∙ all.0
      | false ↦ λ _ g. subset q xs ys all.1 g
    ] refl h

either : (a m v : Bool) → (m ≡ true → v ≡ true) → (v ≡ true → (a || m) ≡ true) → (a || m) ≡ (a || v)
either true m v f g = refl
either false true v f g = sym (f refl)
either false false true f g = g refl
either false false false f g = refl

-- ---- the values of a group's entries

pub in_group-append : (g : ℕ) (xs ys : List Entry) → in_group g (xs ++ ys) ≡ in_group g xs ++ in_group g ys
in_group-append g xs ys =
    ap (map (λ (e : Entry). e.value)) (filter-append (λ (e : Entry). e.group_index == g) xs ys)
    ∙ map-append (λ (e : Entry). e.value) (filter (λ (e : Entry). e.group_index == g) xs) (filter (λ (e : Entry). e.group_index == g) ys)

pub none_other : (g k : ℕ) (more : List Entry) → (g == k) ≡ false → AllByRecursion (λ e. e.group_index ≡ g) more → in_group k more ≡ []
none_other g k [] apart own = refl
none_other g k (e ∷ more) apart own =
    ap (λ b. map (λ (e : Entry). e.value) (cond b (e ∷ filter (λ (e : Entry). e.group_index == k) more) (filter (λ (e : Entry). e.group_index == k) more)))
    (ap (λ n. n == k) own.0 ∙ apart) ∙ none_other g k more apart own.1

pub all_own : (g : ℕ) (more : List Entry) → AllByRecursion (λ e. e.group_index ≡ g) more → in_group g more ≡ map (λ e. e.value) more
all_own g [] own = refl
all_own g (e ∷ more) own =
    ap (λ b. map (λ (e : Entry). e.value) (cond b (e ∷ filter (λ (e : Entry). e.group_index == g) more) (filter (λ (e : Entry). e.group_index == g) more)))
    (same e.group_index g own.0) ∙ ap (λ (vs : List Value). e.value ∷ vs) (all_own g more own.1)

values_all : (P : Value → Type 0) (more : List Entry) → AllByRecursion (λ e. P e.value) more → AllByRecursion P (map (λ (e : Entry). e.value) more)
values_all P [] all = tt
values_all P (e ∷ more) all = (all.0, values_all P more all.1)

-- more entries of a group leave those that were there
pub there_more : (g : ℕ) (now more : List Entry) (v : Value) → has v (in_group g now) ≡ true → has v (in_group g (now ++ more)) ≡ true
there_more g now more v h =
    ap (has v) (in_group-append g now more) ∙ list_any-append (same_value v) (in_group g now) (in_group g more)
    ∙ or_first (has v (in_group g now)) (has v (in_group g more)) h

-- an entry that is there
pub stands : (entries : List Entry) (at g : ℕ) (v : Value) (d : Entry) → at < length entries → (get_or entries at d).group_index ≡ g → (get_or entries at d).value ≡ v → has v (in_group g entries) ≡ true
stands [] at g v d inside is_group is_value = absurd (omega (arith, inside))
stands (e ∷ entries) zero g v d inside is_group is_value =
    there_more g (e ∷ []) entries v (ap (has v) (all_own g (e ∷ []) (is_group, tt)) ∙ ap (λ w. has v (w ∷ [])) is_value ∙ itself v [])
stands (e ∷ entries) (suc at) g v d inside is_group is_value =
    ap (has v) (in_group-append g (e ∷ []) entries) ∙ list_any-append (same_value v) (in_group g (e ∷ [])) (in_group g entries)
    ∙ or_second (has v (in_group g (e ∷ []))) (has v (in_group g entries)) (stands entries at g v d (omega (arith, inside)) is_group is_value)

-- ---- states

tail_same : (f h : ℕ → Statistics) (first n : ℕ) → ((k : ℕ) → first ≤ k → h k ≡ f k) → map h (range_with_len first n) ≡ map f (range_with_len first n)
tail_same f h first zero stay = refl
tail_same f h first (suc n) stay = λ i. stay first (omega arith) i ∷ tail_same f h (first + 1) n (λ k l. stay k (omega (arith, l))) i

changed_at : (f h : ℕ → Statistics) (s : Statistics) (g first n p : ℕ) → g ≡ first + p → h g ≡ merge (f g) s → ((k : ℕ) → (g == k) ≡ false → h k ≡ f k)
    → map h (range_with_len first n) ≡ merged_at (map f (range_with_len first n)) p s
changed_at f h s g first zero p at is stay = refl
changed_at f h s g first (suc n) zero at is stay =
    let here : g ≡ first = omega (arith, at) in
    let head : h first ≡ merge (f first) s = subst (λ (k : ℕ). h k ≡ merge (f k) s) here is in
    λ i. head i ∷ tail_same f h (first + 1) n (λ k l. stay k (other g k (omega (arith, at, l)))) i
changed_at f h s g first (suc n) (suc p) at is stay =
    λ i. stay first (other_above g first (omega (arith, at))) i ∷ changed_at f h s g (first + 1) n p (omega (arith, at)) is stay i

module _ (g : ℕ) (vs : List Value) (old new : List Entry) (are : AreEntered g vs old new) where
  own_index : AllByRecursion (λ e. e.group_index ≡ g) are.more
  own_index = all_imply (λ e. (e.group_index ≡ g) × (has e.value vs ≡ true)) (λ e. e.group_index ≡ g) (λ e own. own.0) are.more are.own

  others_stay : (k : ℕ) → (g == k) ≡ false → in_group k new ≡ in_group k old
  others_stay k apart =
      ap (in_group k) are.are ∙ in_group-append k old are.more
      ∙ ap (λ ws. in_group k old ++ ws) (none_other g k are.more apart own_index) ∙ append-nil (in_group k old)

  own_values : AllByRecursion (λ v. has v vs ≡ true) (in_group g are.more)
  own_values =
      subst (λ ws. AllByRecursion (λ v. has v vs ≡ true) ws) (sym (all_own g are.more own_index))
      (values_all (λ v. has v vs ≡ true) are.more
      (all_imply (λ e. (e.group_index ≡ g) × (has e.value vs ≡ true)) (λ e. has e.value vs ≡ true) (λ e own. own.1) are.more are.own))

  has_both : (q : Value) → has q (in_group g new) ≡ (has q (in_group g old) || has q (in_group g are.more))
  has_both q = ap (λ es. has q (in_group g es)) are.are ∙ ap (has q) (in_group-append g old are.more) ∙ list_any-append (same_value q) (in_group g old) (in_group g are.more)

  same_set : ascending_set value_cmp (in_group g new) ≡ ascending_set value_cmp (in_group g old ++ vs)
  same_set = same_ascending_set value_total value_exact (in_group g new) (in_group g old ++ vs) (λ q.
      has_both q
      ∙ either (has q (in_group g old)) (has q (in_group g are.more)) (has q vs) (subset q (in_group g are.more) vs own_values)
      (λ h. sym (has_both q) ∙ subset q vs (in_group g new) are.there h)
      ∙ sym (list_any-append (same_value q) (in_group g old) vs))

  set_merged : set_at new g ≡ merge (set_at old g) (set_state (ascending_set value_cmp vs))
  set_merged = ap set_state (same_set ∙ set-append value_total value_exact (in_group g old) vs)

  -- the state of the group is merged with that of the values
  pub states_entered : (groups : ℕ) (s : Statistics) → s ≡ set_state (ascending_set value_cmp vs) → sets_of groups new ≡ merged_at (sets_of groups old) g s
  states_entered groups s is =
      changed_at (set_at old) (set_at new) s g 0 groups g (omega arith) (set_merged ∙ ap (merge (set_at old g)) (sym is))
      (λ k apart. ap (λ ws. set_state (ascending_set value_cmp ws)) (others_stay k apart))

-- ---- one entry after the other

pub none_entered : (g : ℕ) (old : List Entry) → AreEntered g [] old old
none_entered g old = record { more = []; are = sym (append-nil old); own = tt; there = tt }

pub found_entered : (g : ℕ) (v : Value) (old : List Entry) → has v (in_group g old) ≡ true → AreEntered g (v ∷ []) old old
found_entered g v old h = record { more = []; are = sym (append-nil old); own = tt; there = (h, tt) }

pub pushed_entered : (g : ℕ) (v : Value) (old new : List Entry) → new ≡ old ++ (record { group_index = g; value = v }) ∷ [] → AreEntered g (v ∷ []) old new
pushed_entered g v old new is =
    let e : Entry = record { group_index = g; value = v } in
    record {
      more = e ∷ [];
      are = is;
      own = ((refl, itself v []), tt);
      there = (
        ap (λ es. has v (in_group g es)) is ∙ ap (has v) (in_group-append g old (e ∷ []))
            ∙ list_any-append (same_value v) (in_group g old) (in_group g (e ∷ []))
            ∙ or_second (has v (in_group g old)) (has v (in_group g (e ∷ []))) (ap (has v) (all_own g (e ∷ []) (refl, tt)) ∙ itself v []),
        tt,
      );
    }

pub entered_more : (g : ℕ) (us vs : List Value) (old now new : List Entry) → AreEntered g us old now → AreEntered g vs now new → AreEntered g (us ++ vs) old new
entered_more g us vs old now new a b = record {
  more = a.more ++ b.more;
  are = b.are ∙ ap (λ es. es ++ b.more) a.are ∙ append_assoc old a.more b.more;
  own = all_append (λ e. (e.group_index ≡ g) × (has e.value (us ++ vs) ≡ true)) a.more b.more
      (all_imply (λ e. (e.group_index ≡ g) × (has e.value us ≡ true)) (λ e. (e.group_index ≡ g) × (has e.value (us ++ vs) ≡ true))
      (λ e own. (own.0, list_any-append (same_value e.value) us vs ∙ or_first (has e.value us) (has e.value vs) own.1)) a.more a.own)
      (all_imply (λ e. (e.group_index ≡ g) × (has e.value vs ≡ true)) (λ e. (e.group_index ≡ g) × (has e.value (us ++ vs) ≡ true))
      (λ e own. (own.0, list_any-append (same_value e.value) us vs ∙ or_second (has e.value us) (has e.value vs) own.1)) b.more b.own);
  there = all_append (λ v. has v (in_group g new) ≡ true) us vs
      (all_imply (λ v. has v (in_group g now) ≡ true) (λ v. has v (in_group g new) ≡ true)
      (λ v h. ap (λ es. has v (in_group g es)) b.are ∙ there_more g now b.more v h) us a.there)
      b.there;
}

-- one value more, of integers and of selected values
pub ints_more : (g : ℕ) (ints : List ℤ) (k : ℕ) (old now new : List Entry) → k < length ints → AreEntered g (map Int (take k ints)) old now
    → AreEntered g (Int (get_or ints k (pos 0)) ∷ []) now new → AreEntered g (map Int (take (k + 1) ints)) old new
ints_more g ints k old now new here a b =
    subst (λ vs. AreEntered g vs old new) (sym (ap (map Int) (take_more ints k (pos 0) here) ∙ map-append Int (take k ints) (get_or ints k (pos 0) ∷ [])))
    (entered_more g (map Int (take k ints)) (Int (get_or ints k (pos 0)) ∷ []) old now new a b)

pub values_more : (g : ℕ) (values : List Value) (k : ℕ) (old now new : List Entry) (v d : Value) → k < length values → v ≡ get_or values k d
    → AreEntered g (take k values) old now → AreEntered g (v ∷ []) now new → AreEntered g (take (k + 1) values) old new
values_more g values k old now new v d here is a b =
    subst (λ vs. AreEntered g vs old new) (ap (λ w. take k values ++ w ∷ []) is ∙ sym (take_more values k d here))
    (entered_more g (take k values) (v ∷ []) old now new a b)

pub selected_more : (g : ℕ) (values : List Value) (list : List ℕ) (k : ℕ) (old now new : List Entry) (v : Value) → k < length list → v ≡ get_or values (get_or list k 0) Null
    → AreEntered g (present (selected values (take k list))) old now → AreEntered g (present (v ∷ [])) now new
    → AreEntered g (present (selected values (take (k + 1) list))) old new
selected_more g values list k old now new v here is a b =
    let at : ℕ → Value = λ at. get_or values at Null in
    subst (λ vs. AreEntered g vs old new)
    (ap (λ w. present (selected values (take k list)) ++ present (w ∷ [])) is
    ∙ sym (ap (λ ps. present (selected values ps)) (take_more list k 0 here)
    ∙ ap present (map-append at (take k list) (get_or list k 0 ∷ []))
    ∙ filter-append (λ x. not (is_null x)) (selected values (take k list)) (at (get_or list k 0) ∷ [])))
    (entered_more g (present (selected values (take k list))) (present (v ∷ [])) old now new a b)

-- a state's entries more
pub states_more : (g : ℕ) (states : List Statistics) (k : ℕ) (old now new : List Entry) (s d : Statistics) → k < length states → s ≡ get_or states k d
    → AreEntered g (entries_of (take k states)) old now → AreEntered g s.entries now new → AreEntered g (entries_of (take (k + 1) states)) old new
states_more g states k old now new s d here is a b =
    subst (λ vs. AreEntered g vs old new)
    (flat_map_more (λ (t : Statistics). t.entries) [] (take k states) s
    ∙ ap (λ (t : Statistics). entries_of (take k states ++ t ∷ [])) is ∙ sym (ap entries_of (take_more states k d here)))
    (entered_more g (entries_of (take k states)) s.entries old now new a b)

-- a set more
pub sets_more : (states : List Statistics) (k : ℕ) (s d : Statistics) → k < length states → s ≡ get_or states k d
    → are_sets (take k states) ≡ true → is_ascending value_cmp s.entries ≡ true → are_sets (take (k + 1) states) ≡ true
sets_more states k s d here is before up =
    ap are_sets (take_more states k d here ∙ sym (ap (λ (t : Statistics). take k states ++ t ∷ []) is))
    ∙ tests.all_append (λ (t : Statistics). is_ascending value_cmp t.entries) (take k states) (s ∷ []) before (both _ _ up refl)

-- the set of all entries of sets is what is kept of them together
pub sets_together : (states : List Statistics) → are_sets states ≡ true → set_state (ascending_set value_cmp (entries_of states)) ≡ together CountDistinct states
sets_together [] up = refl
sets_together (s ∷ states) up =
    ap set_state (ap (ascending_set value_cmp) (flat_map-cons (λ (t : Statistics). t.entries) s states)
    ∙ set-append value_total value_exact s.entries (entries_of states)
    ∙ ap (λ vs. union value_cmp vs (ascending_set value_cmp (entries_of states))) (ascending_set_itself value_total s.entries (first_of _ _ up)))
    ∙ ap (merge (kept_by CountDistinct s)) (sets_together states (second_of _ _ up))

-- ---- what came behind

pub none_grown : (g : ℕ) (old : List Entry) → IsGrown g old old
none_grown g old = record { more = []; are = sym (append-nil old); own = tt }

pub same_grown : (g : ℕ) (old new : List Entry) → new ≡ old → IsGrown g old new
same_grown g old new is = record { more = []; are = is ∙ sym (append-nil old); own = tt }

pub pushed_grown : (g : ℕ) (v : Value) (old new : List Entry) → is_spelled v ≡ true → new ≡ old ++ (record { group_index = g; value = v }) ∷ [] → IsGrown g old new
pushed_grown g v old new spelled is = record { more = (record { group_index = g; value = v }) ∷ []; are = is; own = ((refl, spelled), tt) }

pub grown_more : (g : ℕ) (old now new : List Entry) → IsGrown g old now → IsGrown g now new → IsGrown g old new
grown_more g old now new a b = record {
  more = a.more ++ b.more;
  are = b.are ∙ ap (λ es. es ++ b.more) a.are ∙ append_assoc old a.more b.more;
  own = all_append (λ e. (e.group_index ≡ g) × (is_spelled e.value ≡ true)) a.more b.more a.own b.own;
}

-- forgetting what came behind
pub grown_back : (g : ℕ) (old new : List Entry) → IsGrown g old new → take (length old) new ≡ old
grown_back g old new grown = ap (take (length old)) grown.are ∙ front old grown.more
  where
    front : (xs ys : List Entry) → take (length xs) (xs ++ ys) ≡ xs
    front [] ys = refl
    front (x ∷ xs) ys = ap (λ (zs : List Entry). x ∷ zs) (front xs ys)

pub sets_grown : (groups g : ℕ) (old new : List Entry) → g < groups → IsGrown g old new → IsSets groups old → IsSets groups new
sets_grown groups g old new inside grown sets = record {
  within = subst (AllByRecursion (λ e. e.group_index < groups)) (sym grown.are) (all_append (λ e. e.group_index < groups) old grown.more sets.within
      (all_imply (λ e. (e.group_index ≡ g) × (is_spelled e.value ≡ true)) (λ e. e.group_index < groups) (λ e own. subst (λ (n : ℕ). n < groups) (sym own.0) inside) grown.more grown.own));
  spelled = subst (AllByRecursion (λ e. is_spelled e.value ≡ true)) (sym grown.are) (all_append (λ e. is_spelled e.value ≡ true) old grown.more sets.spelled
      (all_imply (λ e. (e.group_index ≡ g) × (is_spelled e.value ≡ true)) (λ e. is_spelled e.value ≡ true) (λ e own. own.1) grown.more grown.own));
}

-- ---- a group more

none_within : (groups : ℕ) (entries : List Entry) → AllByRecursion (λ e. e.group_index < groups) entries → in_group groups entries ≡ []
none_within groups [] within = refl
none_within groups (e ∷ entries) within =
    ap (λ b. map (λ (e : Entry). e.value) (cond b (e ∷ filter (λ (e : Entry). e.group_index == groups) entries) (filter (λ (e : Entry). e.group_index == groups) entries)))
    (other e.group_index groups within.0) ∙ none_within groups entries within.1

range_more : (f : ℕ → Statistics) (first n k : ℕ) → k ≡ first + n → map f (range_with_len first (suc n)) ≡ map f (range_with_len first n) ++ f k ∷ []
range_more f first zero k at = let here : first ≡ k = omega (arith, at) in ap (λ (j : ℕ). f j ∷ []) here
range_more f first (suc n) k at = ap (λ (ss : List Statistics). f first ∷ ss) (range_more f (first + 1) n k (omega (arith, at)))

pub one_group_more : (groups more : ℕ) (entries : List Entry) → more ≡ groups + 1 → IsSets groups entries → sets_of more entries ≡ sets_of groups entries ++ no_statistics ∷ []
one_group_more groups more entries is sets =
    let next : more ≡ suc groups = omega (arith, is) in
    ap (λ n. sets_of n entries) next ∙ range_more (set_at entries) 0 groups groups (omega arith)
    ∙ ap (λ ws. sets_of groups entries ++ set_state (ascending_set value_cmp ws) ∷ []) (none_within groups entries sets.within)

pub more_groups : (groups more : ℕ) (entries : List Entry) → groups ≤ more → IsSets groups entries → IsSets more entries
more_groups groups more entries l sets = record {
  within = all_imply (λ e. e.group_index < groups) (λ e. e.group_index < more) (λ e inside. omega (arith, l, inside)) entries sets.within;
  spelled = sets.spelled;
}

-- ---- what a column of sets says

module _ (groups p q : ℕ) (old : List Entry) (ss : List Statistics) (view : sets_of groups old ≡ ss) (narrow : q ≡ p) where
  pub inside : p < length ss → q < groups
  inside l =
      let long : length ss ≡ groups = sym (ap length view) ∙ length-map-range_with_len (set_at old) 0 groups in
      omega (arith, l, long, narrow)

  -- where entries came, the states are merged with theirs
  pub merged_sets : (new : List Entry) (vs : List Value) (s : Statistics) → s ≡ set_state (ascending_set value_cmp vs) → AreEntered q vs old new → sets_of groups new ≡ merged_at ss p s
  merged_sets new vs s is are = states_entered q vs old new are groups s is ∙ (λ i. merged_at (view i) (narrow i) s)

  module _ {A E : Type 0} (new : List Entry) where
    pub values_came : (r : Result A E) (xs : List Value) → OnOk r (AreEntered q (present xs) old new) → OnOk r (sets_of groups new ≡ merged_at ss p (state_of CountDistinct xs))
    values_came (Ok x) xs are = merged_sets new (present xs) (state_of CountDistinct xs) refl are
    values_came (Err e) xs are = are

    pub state_came : (r : Result A E) (s : Statistics) → OnOk r (is_ascending value_cmp s.entries ≡ true) → OnOk r (AreEntered q s.entries old new)
        → OnOk r (sets_of groups new ≡ merged_at ss p (kept_by CountDistinct s))
    state_came (Ok x) s up are = merged_sets new s.entries (kept_by CountDistinct s) (ap set_state (sym (ascending_set_itself value_total s.entries up))) are
    state_came (Err e) s up are = are

    pub states_came : (r : Result A E) (states : List Statistics) → OnOk r (are_sets states ≡ true) → OnOk r (AreEntered q (entries_of states) old new)
        → OnOk r (sets_of groups new ≡ merged_at ss p (together CountDistinct states))
    states_came (Ok x) states up are = merged_sets new (entries_of states) (together CountDistinct states) (sym (sets_together states up)) are
    states_came (Err e) states up are = are

-- the sets of one group
pub one_came : {A E : Type 0} (ss new : List Statistics) (held : Statistics) → length ss ≡ 1 → get_or ss 0 no_statistics ≡ held → (s t : Statistics) → s ≡ t → (r : Result A E)
    → OnOk r (new ≡ merged_at ss 0 s) → OnOk r (get_or new 0 no_statistics ≡ merge held t)
one_came ss new held long view s t same (Ok x) is =
    ap (λ (ts : List Statistics). get_or ts 0 no_statistics) is
    ∙ get_or-set_same ss 0 (merge (get_or ss 0 no_statistics) s) no_statistics (omega (arith, long))
    ∙ (λ i. merge (view i) (same i))
one_came ss new held long view s t same (Err e) is = is
