-- Values, rows and faults are in total orders, which distinguish any two of them.
use Rattle.std.specs.Prelude.{◌≡◌, true, false, cond, List, [], ◌∷◌}
use Rattle.std.specs.FinMap.{IsAntisymmetric, nat_cmp-IsAntisymmetric, int_cmp-IsAntisymmetric, slice_cmp-IsAntisymmetric}
use Rattle.std.specs.Cmp.{IsTotalOrder}
use Rattle.std.specs.Ordering.{is_lt, ordering_then, flip_args}
use Rattle.std.specs.declared.cmp.Ordering.{Ordering}
use Rattle.std.specs.declared.cmp.Ordering.TheVariants.{Less, Equal, Greater}
use Rattle.std.proofs.Common.{refl, ap}
use Rattle.std.proofs.lemmas.Cmp.{nat_cmp_total, on_total, then_total, back_total, lists_total, tied_back}
use Rattle.meaning.specs.declared.value.Value.TheVariants.{Null, Int, Text}
use Rattle.meaning.specs.declared.plan.OrderKey.{OrderKey}
pub use Rattle.meaning.specs.Order.{value_total}
use Rattle.meaning.specs.Order.{column, value_cmp, row_cmp}
use Rattle.meaning.specs.Finish.{by_key, order_cmp}
use Rattle.meaning.specs.Judge.{fault_cmp}
use Rattle.meaning.specs.Aggregate.{down_cmp}

pub is_less : (r : Ordering) → is_lt r ≡ true → r ≡ Less
is_less Less e = refl
is_less Equal e = cc
is_less Greater e = cc

first_Equal : (r s : Ordering) → ordering_then r s ≡ Equal → r ≡ Equal
first_Equal Less s e = e
first_Equal Equal s e = refl
first_Equal Greater s e = e

second_Equal : (r s : Ordering) → ordering_then r s ≡ Equal → s ≡ Equal
second_Equal Less s e = cc
second_Equal Equal s e = e
second_Equal Greater s e = cc

pub value_exact : IsAntisymmetric value_cmp
value_exact Null Null e = refl
value_exact Null (Int n) e = cc
value_exact Null (Text t) e = cc
value_exact (Int m) Null e = cc
value_exact (Int m) (Int n) e = ap Int (int_cmp-IsAntisymmetric m n (first_Equal _ _ e))
value_exact (Int m) (Text t) e = cc
value_exact (Text t) Null e = cc
value_exact (Text t) (Int n) e = cc
value_exact (Text t) (Text u) e = ap Text (slice_cmp-IsAntisymmetric nat_cmp-IsAntisymmetric t u e)

-- the order from the greatest down
pub down_total : IsTotalOrder down_cmp
down_total = back_total value_total

pub down_exact : IsAntisymmetric down_cmp
down_exact x y e = value_exact x y (tied_back value_total y x e)

pub row_total : IsTotalOrder row_cmp
row_total = lists_total value_total

pub row_exact : IsAntisymmetric row_cmp
row_exact = slice_cmp-IsAntisymmetric value_exact

pub fault_total : IsTotalOrder fault_cmp
fault_total = then_total (on_total (λ f. f.row) nat_cmp_total) (on_total (λ f. f.code) nat_cmp_total)

pub fault_exact : IsAntisymmetric fault_cmp
fault_exact f g e =
    let rows = nat_cmp-IsAntisymmetric f.row g.row (first_Equal _ _ e) in
    let codes = nat_cmp-IsAntisymmetric f.code g.code (second_Equal _ _ e) in
    λ i. record { row = rows i; code = codes i }

by_key_total : (k : OrderKey) → IsTotalOrder (by_key k)
by_key_total k = on_total (λ row. column row k.item)
    (elim k.descending as (λ b. IsTotalOrder
    (cond b (flip_args value_cmp) value_cmp)) [ true ↦ down_total | false ↦ value_total ])

-- the order of the answer is total, and distinguishes any two rows
pub order_total : (keys : List OrderKey) → IsTotalOrder (order_cmp keys)
order_total [] = row_total
order_total (k ∷ ks) = then_total (by_key_total k) (order_total ks)

pub order_exact : (keys : List OrderKey) → IsAntisymmetric (order_cmp keys)
order_exact [] x y e = row_exact x y e
order_exact (k ∷ ks) x y e = order_exact ks x y (second_Equal (by_key k x y) (order_cmp ks x y) e)
