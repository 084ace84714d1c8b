-- What was read by a plan's shape, held against the plan by what was kept of it.
use Rattle.std.proofs.Common.{rules, ◌≡◌, ℕ, zero, suc, pos, Bool, true, false, ◌&&◌, List, [], ◌∷◌, length, map, Ok, refl, sym, ap, subst, ◌∙◌, arith}
use Rattle.std.specs.List.{list_all}
use Rattle.std.specs.Cmp.Lexicographic.{pointwise}
use Rattle.meaning.specs.declared.plan.AggregateKind.{AggregateKind}
use Rattle.meaning.specs.declared.plan.AggregateKind.TheVariants.{CountRows, Count, Sum, Min, Max, Avg, CountDistinct, SumDistinct}
use Rattle.meaning.specs.declared.plan.Aggregate.{Aggregate}
use Rattle.meaning.specs.declared.plan.Plan.{Plan}
use Rattle.meaning.specs.declared.answer.Statistics.{Statistics}
use Rattle.meaning.specs.declared.answer.Group.{Group}
use Rattle.meaning.specs.Said.{Body}
use Rattle.meaning.specs.declared.answer.Body.TheVariants.{Groups, Fault}
use Rattle.std.proofs.Common.{eqb}
use Rattle.std.proofs.lemmas.Bool.{ne_eqb, and_parts}
use Rattle.meaning.specs.Order.{Row, value_cmp, is_ascending}
use Rattle.meaning.specs.Aggregate.{no_statistics, kept_by}
use Rattle.meaning.specs.Gather.{same_statistics}
use Rattle.meaning.specs.Fitting.{is_sum_of, is_state_of, is_group_of, is_shaped, is_possible, is_group_possible, are_sets_ascending, is_in_order, are_numbers_possible}
use Rattle.meaning.proofs.Tests.{both}
use Rattle.wire.specs.Reading.{◌>>=◌, number_at, i128_at, repeat_at}
use Rattle.wire.proofs.Numbers.{bind_ok, ok_is}
use Rattle.answer_fields.specs.Fault.{from_wire}
use Rattle.answer_fields.specs.Keeping.{has_possible_sum, has_possible_sums, are_sums_possible, kept_state, kept_group, kept_body, is_typed_state, is_typed_group, is_typed}
use Rattle.answer_fields.specs.LayoutReading.{value_at, unless_null, set_at, state_at, states_at, group_at, groups_at, fault_at, tagged_body_at, body_at}
use Rattle.answer_fields.specs.Shape.{shape_of, shape_of_aggregate}
use Rattle.partial_codec.proofs.Fitting.{statistics_itself}
use Rattle.answer_fields.proofs.FromWire.{read_ok}

true_false : true ≡ false → ⊥
true_false e = absurd cc

not_true : (b : Bool) → (b ≡ true → ⊥) → b ≡ false
not_true true h = absurd (h refl)
not_true false h = refl

-- ---- states

zero_sum : (n : ℕ) → is_sum_of n (pos 0) ≡ true
zero_sum n = search rules

-- a state that was read has what its kind keeps, and a sum that is possible where the kind's numbers are
record IsRead (kind : AggregateKind) (s : Statistics) : Type 0 where
  kept : same_statistics (kept_by kind s) s ≡ true
  sum : (rows : ℕ) → is_possible kind rows s ≡ true → has_possible_sum s ≡ true

state_read : (kind : AggregateKind) (bytes : List ℕ) (p : Statistics × List ℕ) → state_at kind bytes ≡ Ok p → IsRead kind p.0
unfolding state_at
state_read CountRows bytes p e =
    let a = read_ok (number_at 4 bytes) (λ n. Ok (record no_statistics { count = n.0 }, n.1)) p e in
    let made : Statistics × List ℕ = (record no_statistics { count = a.0.0 }, a.0.1) in
    subst (λ (q : Statistics × List ℕ). IsRead CountRows q.0) (ok_is made p a.2) (record { kept = statistics_itself made.0; sum = λ rows h. zero_sum a.0.0 })
state_read Count bytes p e =
    let a = read_ok (number_at 4 bytes) (λ n. Ok (record no_statistics { count = n.0 }, n.1)) p e in
    let made : Statistics × List ℕ = (record no_statistics { count = a.0.0 }, a.0.1) in
    subst (λ (q : Statistics × List ℕ). IsRead Count q.0) (ok_is made p a.2) (record { kept = statistics_itself made.0; sum = λ rows h. zero_sum a.0.0 })
state_read Sum bytes p e =
    let a = read_ok (number_at 4 bytes) (λ n. from_wire (i128_at n.1) >>= λ sum. Ok (record no_statistics { count = n.0; sum = sum.0 }, sum.1)) p e in
    let b = read_ok (i128_at a.0.1) (λ sum. Ok (record no_statistics { count = a.0.0; sum = sum.0 }, sum.1)) p a.2 in
    let made : Statistics × List ℕ = (record no_statistics { count = a.0.0; sum = b.0.0 }, b.0.1) in
    subst (λ (q : Statistics × List ℕ). IsRead Sum q.0) (ok_is made p b.2) (record { kept = statistics_itself made.0; sum = λ rows h. (and_parts _ _ h).1 })
state_read Avg bytes p e =
    let a = read_ok (number_at 4 bytes) (λ n. from_wire (i128_at n.1) >>= λ sum. Ok (record no_statistics { count = n.0; sum = sum.0 }, sum.1)) p e in
    let b = read_ok (i128_at a.0.1) (λ sum. Ok (record no_statistics { count = a.0.0; sum = sum.0 }, sum.1)) p a.2 in
    let made : Statistics × List ℕ = (record no_statistics { count = a.0.0; sum = b.0.0 }, b.0.1) in
    subst (λ (q : Statistics × List ℕ). IsRead Avg q.0) (ok_is made p b.2) (record { kept = statistics_itself made.0; sum = λ rows h. (and_parts _ _ h).1 })
state_read Min bytes p e =
    let a = read_ok (number_at 4 bytes) (λ n. value_at n.1 >>= λ value. Ok (record no_statistics { count = n.0; least = unless_null value.0 }, value.1)) p e in
    let b = bind_ok (value_at a.0.1) (λ value. Ok (record no_statistics { count = a.0.0; least = unless_null value.0 }, value.1)) p a.2 in
    let made : Statistics × List ℕ = (record no_statistics { count = a.0.0; least = unless_null b.0.0 }, b.0.1) in
    subst (λ (q : Statistics × List ℕ). IsRead Min q.0) (ok_is made p b.2) (record { kept = statistics_itself made.0; sum = λ rows h. zero_sum a.0.0 })
state_read Max bytes p e =
    let a = read_ok (number_at 4 bytes) (λ n. value_at n.1 >>= λ value. Ok (record no_statistics { count = n.0; greatest = unless_null value.0 }, value.1)) p e in
    let b = bind_ok (value_at a.0.1) (λ value. Ok (record no_statistics { count = a.0.0; greatest = unless_null value.0 }, value.1)) p a.2 in
    let made : Statistics × List ℕ = (record no_statistics { count = a.0.0; greatest = unless_null b.0.0 }, b.0.1) in
    subst (λ (q : Statistics × List ℕ). IsRead Max q.0) (ok_is made p b.2) (record { kept = statistics_itself made.0; sum = λ rows h. zero_sum a.0.0 })
state_read CountDistinct bytes p e =
    let a = bind_ok (set_at bytes) (λ entries. Ok (record no_statistics { entries = entries.0 }, entries.1)) p e in
    let made : Statistics × List ℕ = (record no_statistics { entries = a.0.0 }, a.0.1) in
    subst (λ (q : Statistics × List ℕ). IsRead CountDistinct q.0) (ok_is made p a.2) (record { kept = statistics_itself made.0; sum = λ rows h. zero_sum 0 })
state_read SumDistinct bytes p e =
    let a = bind_ok (set_at bytes) (λ entries. Ok (record no_statistics { entries = entries.0 }, entries.1)) p e in
    let made : Statistics × List ℕ = (record no_statistics { entries = a.0.0 }, a.0.1) in
    subst (λ (q : Statistics × List ℕ). IsRead SumDistinct q.0) (ok_is made p a.2) (record { kept = statistics_itself made.0; sum = λ rows h. zero_sum 0 })

-- states that were read by a plan's aggregates
record AreRead (aggs : List Aggregate) (states : List Statistics) : Type 0 where
  typed : pointwise is_state_of aggs states ≡ pointwise is_typed_state aggs states
  sums : (rows : ℕ) → pointwise (λ a s. is_possible a.kind rows s) aggs states ≡ true → list_all has_possible_sum states ≡ true

state_typed : (a : Aggregate) (s : Statistics) → IsRead a.kind s → is_state_of a s ≡ is_typed_state a s
state_typed a s is = rw is.kept refl

states_read : (aggs : List Aggregate) (bytes : List ℕ) (p : List Statistics × List ℕ) → states_at (map shape_of_aggregate aggs) bytes ≡ Ok p → AreRead aggs p.0
unfolding states_at
states_read [] bytes p e = subst (λ (q : List Statistics × List ℕ). AreRead [] q.0) (ok_is ([], bytes) p e) (record { typed = refl; sums = λ rows h. refl })
states_read (g ∷ aggs) bytes p e =
    let a = bind_ok (state_at g.kind bytes) (λ first. states_at (map shape_of_aggregate aggs) first.1 >>= λ others. Ok (first.0 ∷ others.0, others.1)) p e in
    let b = bind_ok (states_at (map shape_of_aggregate aggs) a.0.1) (λ others. Ok (a.0.0 ∷ others.0, others.1)) p a.2 in
    let first = state_read g.kind bytes a.0 a.1 in
    let others = states_read aggs a.0.1 b.0 b.1 in
    let made : List Statistics × List ℕ = (a.0.0 ∷ b.0.0, b.0.1) in
    subst (λ (q : List Statistics × List ℕ). AreRead (g ∷ aggs) q.0) (ok_is made p b.2) (record {
      typed = rw (state_typed g a.0.0 first, others.typed) refl;
      sums = λ rows h. let k = and_parts (is_possible g.kind rows a.0.0) (pointwise (λ x s. is_possible x.kind rows s) aggs b.0.0) h in both _ _ (first.sum rows k.0) (others.sums rows k.1);
    })

-- ---- groups

record IsReadGroup (plan : Plan) (g : Group) : Type 0 where
  typed : is_group_of plan g ≡ is_typed_group plan g
  sums : is_group_possible plan g ≡ true → has_possible_sums g ≡ true

group_read : (plan : Plan) (bytes : List ℕ) (p : Group × List ℕ) → group_at (shape_of plan) bytes ≡ Ok p → IsReadGroup plan p.0
unfolding group_at
group_read plan bytes p e =
    let shape = shape_of plan in
    let a = bind_ok (repeat_at value_at (length shape.keys) bytes) (λ key. from_wire (number_at 4 key.1) >>= λ rows. states_at shape.aggregates rows.1 >>= λ states. Ok (record { key = key.0; rows = rows.0; states = states.0 }, states.1)) p e in
    let b = read_ok (number_at 4 a.0.1) (λ rows. states_at shape.aggregates rows.1 >>= λ states. Ok (record { key = a.0.0; rows = rows.0; states = states.0 }, states.1)) p a.2 in
    let c = bind_ok (states_at shape.aggregates b.0.1) (λ states. Ok (record { key = a.0.0; rows = b.0.0; states = states.0 }, states.1)) p b.2 in
    let made : Group × List ℕ = (record { key = a.0.0; rows = b.0.0; states = c.0.0 }, c.0.1) in
    let states = states_read plan.aggs b.0.1 c.0 c.1 in
    subst (λ (q : Group × List ℕ). IsReadGroup plan q.0) (ok_is made p c.2) (record { typed = rw states.typed refl; sums = states.sums b.0.0 })

-- groups that were read one after the other
record AreReadGroups (plan : Plan) (gs : List Group) : Type 0 where
  typed : list_all (is_group_of plan) gs ≡ list_all (is_typed_group plan) gs
  sums : list_all (is_group_possible plan) gs ≡ true → list_all has_possible_sums gs ≡ true

groups_read : (plan : Plan) (n : ℕ) (bytes : List ℕ) (p : List Group × List ℕ) → repeat_at (group_at (shape_of plan)) n bytes ≡ Ok p → AreReadGroups plan p.0
unfolding repeat_at
groups_read plan zero bytes p e = subst (λ (q : List Group × List ℕ). AreReadGroups plan q.0) (ok_is ([], bytes) p e) (record { typed = refl; sums = λ h. refl })
groups_read plan (suc n) bytes p e =
    let part = group_at (shape_of plan) in
    let a = bind_ok (part bytes) (λ first. repeat_at part n first.1 >>= λ others. Ok (first.0 ∷ others.0, others.1)) p e in
    let b = bind_ok (repeat_at part n a.0.1) (λ others. Ok (a.0.0 ∷ others.0, others.1)) p a.2 in
    let first = group_read plan bytes a.0 a.1 in
    let others = groups_read plan n a.0.1 b.0 b.1 in
    let made : List Group × List ℕ = (a.0.0 ∷ b.0.0, b.0.1) in
    subst (λ (q : List Group × List ℕ). AreReadGroups plan q.0) (ok_is made p b.2) (record {
      typed = rw (first.typed, others.typed) refl;
      sums = λ h. let k = and_parts (is_group_possible plan a.0.0) (list_all (is_group_possible plan) b.0.0) h in both _ _ (first.sums k.0) (others.sums k.1);
    })

-- ---- bodies

-- a body that was read by the plan's shape: its types are those that are asked of what was kept, and possible numbers have possible sums
pub record IsReadBody (plan : Plan) (body : Body) : Type 0 where
  pub typed : is_shaped plan body ≡ is_typed plan body
  pub sums : (first rows : ℕ) → are_numbers_possible plan first rows body ≡ true → are_sums_possible body ≡ true

tagged_read : (plan : Plan) (tag : ℕ) (bytes : List ℕ) (p : Body × List ℕ) → tagged_body_at (shape_of plan) tag bytes ≡ Ok p → IsReadBody plan p.0
unfolding tagged_body_at fault_at groups_at
tagged_read plan zero bytes p e =
    let a = read_ok (number_at 8 bytes) (λ row. from_wire (number_at 1 row.1) >>= λ code. Ok (Fault (record { row = row.0; code = code.0 }), code.1)) p e in
    let b = read_ok (number_at 1 a.0.1) (λ code. Ok (Fault (record { row = a.0.0; code = code.0 }), code.1)) p a.2 in
    let made : Body × List ℕ = (Fault (record { row = a.0.0; code = b.0.0 }), b.0.1) in
    subst (λ (q : Body × List ℕ). IsReadBody plan q.0) (ok_is made p b.2) (record { typed = refl; sums = λ first rows h. refl })
tagged_read plan (suc zero) bytes p e =
    let a = read_ok (number_at 4 bytes) (λ count. repeat_at (group_at (shape_of plan)) count.0 count.1 >>= λ groups. Ok (Groups groups.0, groups.1)) p e in
    let b = bind_ok (repeat_at (group_at (shape_of plan)) a.0.0 a.0.1) (λ groups. Ok (Groups groups.0, groups.1)) p a.2 in
    let made : Body × List ℕ = (Groups b.0.0, b.0.1) in
    let groups = groups_read plan a.0.0 a.0.1 b.0 b.1 in
    subst (λ (q : Body × List ℕ). IsReadBody plan q.0) (ok_is made p b.2) (record { typed = groups.typed; sums = λ first rows h. groups.sums (and_parts _ _ (and_parts _ _ h).1).1 })
tagged_read plan (suc (suc n)) bytes p e =
    let not0 : eqb (suc (suc n)) 0 ≡ false = ne_eqb _ _ (λ h. omega (arith, h)) in
    let not1 : eqb (suc (suc n)) 1 ≡ false = ne_eqb _ _ (λ h. omega (arith, h)) in
    let wrong = rw (not0, not1) at e in
    absurd cc

pub body_read : (plan : Plan) (bytes : List ℕ) (p : Body × List ℕ) → body_at (shape_of plan) bytes ≡ Ok p → IsReadBody plan p.0
unfolding body_at
body_read plan bytes p e =
    let a = read_ok (number_at 1 bytes) (λ tag. tagged_body_at (shape_of plan) tag.0 tag.1) p e in
    tagged_read plan a.0.0 a.0.1 p a.2

-- ---- what is kept

map_same : {X : Type 0} (f : X → X) (test : X → Bool) → ((x : X) → test x ≡ true → f x ≡ x) → (xs : List X) → list_all test xs ≡ true → map f xs ≡ xs
map_same f test same [] e = refl
map_same f test same (x ∷ xs) e =
    let h = and_parts (test x) (list_all test xs) e in
    ap (λ (y : _). y ∷ map f xs) (same x h.0) ∙ ap (λ (ys : _). x ∷ ys) (map_same f test same xs h.1)

state_same : (s : Statistics) → has_possible_sum s ≡ true → kept_state s ≡ s
state_same s e = rw e refl

group_same : (g : Group) → has_possible_sums g ≡ true → kept_group g ≡ g
group_same g e = let states = map_same kept_state has_possible_sum state_same g.states e in λ i. record { key = g.key; rows = g.rows; states = states i }

pub body_same : (body : Body) → are_sums_possible body ≡ true → kept_body body ≡ body
body_same (Fault f) e = refl
body_same (Groups gs) e = ap (λ (hs : List Group). Groups hs) (map_same kept_group has_possible_sums group_same gs e)

states_typed : (aggs : List Aggregate) (states : List Statistics) → pointwise is_typed_state aggs (map kept_state states) ≡ pointwise is_typed_state aggs states
states_typed [] [] = refl
states_typed [] (s ∷ states) = refl
states_typed (a ∷ aggs) [] = refl
states_typed (a ∷ aggs) (s ∷ states) = ap (λ (b : Bool). is_typed_state a s && b) (states_typed aggs states)

groups_typed : (plan : Plan) (gs : List Group) → list_all (is_typed_group plan) (map kept_group gs) ≡ list_all (is_typed_group plan) gs
groups_typed plan [] = refl
groups_typed plan (g ∷ gs) = rw (states_typed plan.aggs g.states, groups_typed plan gs) refl

pub body_typed : (plan : Plan) (body : Body) → is_typed plan (kept_body body) ≡ is_typed plan body
body_typed plan (Fault f) = refl
body_typed plan (Groups gs) = groups_typed plan gs

keys_same : (gs : List Group) → map (λ g. g.key) (map kept_group gs) ≡ map (λ g. g.key) gs
keys_same [] = refl
keys_same (g ∷ gs) = ap (λ (ks : List Row). g.key ∷ ks) (keys_same gs)

sets_same : (states : List Statistics) → list_all (λ s. is_ascending value_cmp s.entries) (map kept_state states) ≡ list_all (λ s. is_ascending value_cmp s.entries) states
sets_same [] = refl
sets_same (s ∷ states) = ap (λ (b : Bool). is_ascending value_cmp s.entries && b) (sets_same states)

all_sets_same : (gs : List Group) → list_all are_sets_ascending (map kept_group gs) ≡ list_all are_sets_ascending gs
all_sets_same [] = refl
all_sets_same (g ∷ gs) = rw (sets_same g.states, all_sets_same gs) refl

pub body_in_order : (body : Body) → is_in_order (kept_body body) ≡ is_in_order body
body_in_order (Fault f) = refl
body_in_order (Groups gs) = rw (keys_same gs, all_sets_same gs) refl

-- what is asked of the numbers that were kept
pub body_numbers : (plan : Plan) (first rows : ℕ) (body : Body) → IsReadBody plan body
    → are_numbers_possible plan first rows body ≡ (are_sums_possible body && are_numbers_possible plan first rows (kept_body body))
body_numbers plan first rows body is =
    elim (are_sums_possible body) as (λ b. are_sums_possible body ≡ b → are_numbers_possible plan first rows body ≡ (b && are_numbers_possible plan first rows (kept_body body))) [
      | true ↦ λ e. ap (are_numbers_possible plan first rows) (sym (body_same body e))
      | false ↦ λ e. not_true (are_numbers_possible plan first rows body) (λ h. true_false (sym (is.sums first rows h) ∙ e))
    ] refl
