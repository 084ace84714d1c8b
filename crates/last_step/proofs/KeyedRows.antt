-- Positions that are sorted by keys: their rows are in the order of the answer.
use Rattle.std.proofs.Common.{◌≡◌, ℕ, pos, ◌+◌, ◌<◌, true, false, Bool, cond, List, [], ◌∷◌, map, length, get_or, refl, sym, ap, ◌∙◌, arith}
use Rattle.std.specs.Prelude.{All, IsPermutation, IsSorted}
use Rattle.std.specs.Cmp.{IsTotalOrder, nat_cmp_total, int_cmp_total, on_total, then_total, back_total}
use Rattle.std.specs.List.Sorted.{IsSortedBy}
use Rattle.std.specs.Ordering.{flip_args, int_cmp, is_lt, nat_cmp, ordering_then}
use Rattle.std.specs.declared.cmp.Ordering.{Ordering}
use Rattle.std.specs.declared.cmp.Ordering.TheVariants.{Less, Equal, Greater}
use Rattle.std.proofs.lemmas.List.{get_or-map, length-map}
use Rattle.std.proofs.lemmas.List.Sorted.{All-permutation, IsPermutation-map}
use Rattle.meaning.specs.declared.plan.OrderKey.{OrderKey}
use Rattle.meaning.specs.declared.value.Value.{Value}
use Rattle.meaning.specs.Finish.{order_cmp}
use Rattle.meaning.specs.Order.{Row, number, rank, sorted, value_cmp}
use Rattle.meaning.proofs.Orders.{order_exact, order_total}
use Rattle.meaning.proofs.Sorting.{sorted_is}
use Rattle.vectors.specs.declared.vector.Vector.{Vector}
use Rattle.last_step.specs.declared.keyed.Keyed.{Keyed}
use Rattle.last_step.specs.Batches.{lane_row}
use Rattle.last_step.specs.Best.{IsKeyed, by_head, first_value, head_cmp, is_descending, keyed_cmp}

module _ (order : List OrderKey) (items : List Vector) where
  abbrev pub row_of_key : Keyed → Row
  row_of_key k = lane_row items k.position

  head_total : IsTotalOrder head_cmp
  head_total = then_total (on_total (λ (k : Keyed). k.rank) nat_cmp_total) (on_total (λ (k : Keyed). k.number) int_cmp_total)

  by_head_total : IsTotalOrder (by_head order)
  by_head_total = elim (is_descending order) as (λ b. IsTotalOrder (cond b (flip_args head_cmp) head_cmp)) [
    | true ↦ back_total head_total
    | false ↦ head_total
  ]

  pub keyed_total : IsTotalOrder (keyed_cmp order items)
  keyed_total = then_total by_head_total (on_total row_of_key (order_total order))

-- ---- a key says no more than the row

absorbed : (r n b s : Ordering) → ordering_then (ordering_then r n) (ordering_then (ordering_then r (ordering_then n b)) s) ≡ ordering_then (ordering_then r (ordering_then n b)) s
absorbed Less n b s = refl
absorbed Equal Less b s = refl
absorbed Equal Equal b s = refl
absorbed Equal Greater b s = refl
absorbed Greater n b s = refl

-- the keys of two values
abbrev value_heads : Value → Value → Ordering
value_heads u v = ordering_then (nat_cmp (rank u) (rank v)) (int_cmp (number u) (number v))

heads_absorbed : (descending : Bool) (u v : Value) (s : Ordering)
    → ordering_then (cond descending (value_heads v u) (value_heads u v)) (ordering_then (cond descending (flip_args value_cmp) value_cmp u v) s) ≡ ordering_then (cond descending (flip_args value_cmp) value_cmp u v) s
heads_absorbed true u v s = absorbed (nat_cmp (rank v) (rank u)) (int_cmp (number v) (number u)) _ s
heads_absorbed false u v s = absorbed (nat_cmp (rank u) (rank v)) (int_cmp (number u) (number v)) _ s

turned_heads : (descending : Bool) (k l : Keyed) → cond descending (flip_args head_cmp) head_cmp k l ≡ cond descending (head_cmp l k) (head_cmp k l)
turned_heads true k l = refl
turned_heads false k l = refl

same_heads : (descending : Bool) (k l : Keyed) (u v : Value) → k.rank ≡ rank u → k.number ≡ number u → l.rank ≡ rank v → l.number ≡ number v
    → cond descending (flip_args head_cmp) head_cmp k l ≡ cond descending (value_heads v u) (value_heads u v)
same_heads descending k l u v a b c d =
    turned_heads descending k l
    ∙ (λ i. cond descending (ordering_then (nat_cmp (c i) (a i)) (int_cmp (d i) (b i))) (ordering_then (nat_cmp (a i) (c i)) (int_cmp (b i) (d i))))

keyed_is : (order : List OrderKey) (items : List Vector) (k l : Keyed) → IsKeyed order items k → IsKeyed order items l
    → keyed_cmp order items k l ≡ order_cmp order (lane_row items k.position) (lane_row items l.position)
keyed_is [] items k l one other =
    ap (λ h. ordering_then h (order_cmp [] (lane_row items k.position) (lane_row items l.position)))
    (λ i. ordering_then (nat_cmp (one.rank i) (other.rank i)) (int_cmp (one.number i) (other.number i)))
keyed_is (key ∷ keys) items k l one other =
    let near = lane_row items k.position in
    let far = lane_row items l.position in
    let u = first_value (key ∷ keys) near in
    let v = first_value (key ∷ keys) far in
    ap (λ h. ordering_then h (order_cmp (key ∷ keys) near far)) (same_heads key.descending k l u v one.rank one.number other.rank other.number)
    ∙ heads_absorbed key.descending u v (order_cmp keys near far)

map_again : {A B C : Type 0} (f : B → C) (g : A → B) (xs : List A) → map f (map g xs) ≡ map (λ x. f (g x)) xs
map_again f g [] = refl
map_again f g (x ∷ xs) = ap (λ ys. f (g x) ∷ ys) (map_again f g xs)

-- ---- what a sort by keys gives

pub arranged_rows : (order : List OrderKey) (items : List Vector) (list ps : List ℕ) (old new : List Keyed) → map (λ k. k.position) old ≡ list → All (IsKeyed order items) old → IsPermutation old new
    → IsSortedBy (λ a b. is_lt (keyed_cmp order items a b)) new → ps ≡ map (λ k. k.position) new → map (lane_row items) ps ≡ sorted (order_cmp order) (map (lane_row items) list)
arranged_rows order items list ps old new listed keyed moved up read =
    ap (map (lane_row items)) read ∙ map_again (lane_row items) (λ k. k.position) new
    ∙ sorted_is (order_total order) (order_exact order) (map row old) (map row new) (IsPermutation-map row old new moved) in_order
    ∙ ap (sorted (order_cmp order)) (sym (map_again (lane_row items) (λ k. k.position) old) ∙ ap (map (lane_row items)) listed)
  where
    row : Keyed → Row
    row = row_of_key order items

    all : All (IsKeyed order items) new
    all = All-permutation (IsKeyed order items) old new moved keyed

    any : Keyed
    any = record { number = pos 0; position = 0; rank = 0 }

    in_order : IsSorted (order_cmp order) (map row new)
    in_order k d low high =
        let long = length-map new row in
        let here : k < length new = omega (arith, long, high) in
        let next : k + 1 < length new = omega (arith, long, high) in
        (λ i. is_lt (order_cmp order (get_or-map row new (k + 1) any d next i) (get_or-map row new k any d here i)))
        ∙ ap is_lt (sym (keyed_is order items (get_or new (k + 1) any) (get_or new k any) (all (k + 1) any next) (all k any here)))
        ∙ up k any low next
