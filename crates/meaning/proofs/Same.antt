-- The test of equal answers answers true exactly of equal ones.
use Rattle.std.specs.Prelude.{◌≡◌, ◌==◌, Bool, true, false, ◌&&◌, Some, None}
use Rattle.std.specs.FinMap.{IsAntisymmetric, int_cmp-IsAntisymmetric}
use Rattle.std.specs.Bool.{Decides}
use Rattle.std.specs.Cmp.{IsTotalOrder, Equal-is}
use Rattle.std.specs.Cmp.Lexicographic.{pointwise_decides}
use Rattle.std.specs.Option.{option_eq}
use Rattle.std.specs.Ordering.{eq_by_cmp, is_eq, int_eq}
use Rattle.std.specs.declared.cmp.Ordering.{Ordering}
use Rattle.std.proofs.Common.{refl, sym, ap, subst}
use Rattle.std.proofs.lemmas.Bool.{eqb-true, eq-eqb}
use Rattle.std.proofs.lemmas.Cmp.{tied_itself, int_cmp_total}
use Rattle.meaning.specs.declared.value.Value.{Value}
use Rattle.meaning.specs.declared.answer.RowFault.{RowFault}
use Rattle.meaning.specs.declared.answer.Statistics.{Statistics}
use Rattle.meaning.specs.declared.answer.Group.{Group}
use Rattle.meaning.specs.Said.{Body}
use Rattle.meaning.specs.declared.answer.Body.TheVariants.{Groups, Fault}
use Rattle.meaning.specs.Order.{same_value}
use Rattle.meaning.specs.Gather.{same_statistics, same_group, same_body}
use Rattle.meaning.proofs.Tests.{first_of, second_of, both}
use Rattle.meaning.proofs.Orders.{value_total, value_exact}

-- a test that answers true exactly of equal values
abbrev pub IsExact : {X : Type 0} → (X → X → Bool) → Type 0
IsExact {X} same = (x y : X) → Decides (same x y) (x ≡ y)

cmp_exact : {X : Type 0} {cmp : X → X → Ordering} → IsTotalOrder cmp → IsAntisymmetric cmp → IsExact (eq_by_cmp cmp)
cmp_exact {cmp = cmp} o exact x y =
    (λ e. exact x y ((Equal-is (cmp x y)).0 e), λ e. subst (λ z. is_eq (cmp x z) ≡ true) e (ap is_eq (tied_itself o x)))

option_exact : {X : Type 0} {same : X → X → Bool} → IsExact same → IsExact (option_eq same)
option_exact exact None None = (λ e. refl, λ e. refl)
option_exact exact None (Some y) = (λ e. cc, λ e. cc)
option_exact exact (Some x) None = (λ e. cc, λ e. cc)
option_exact exact (Some x) (Some y) = (λ e. ap Some ((exact x y).0 e), λ e. (exact x y).1 (cc))

value_same : IsExact same_value
value_same = cmp_exact value_total value_exact

pub same_is : (v w : Value) → same_value v w ≡ true → v ≡ w
same_is v w = (value_same v w).0

pub same_itself : (v : Value) → same_value v v ≡ true
same_itself v = (value_same v v).1 refl

maybe_value_exact : IsExact (option_eq same_value)
maybe_value_exact = option_exact value_same

int_exact : IsExact int_eq
int_exact = cmp_exact int_cmp_total int_cmp-IsAntisymmetric

nat_exact : IsExact ◌==◌
nat_exact m n = (eqb-true m n, eq-eqb m n)

equal_statistics : (a b : Statistics) → same_statistics a b ≡ true → a ≡ b
equal_statistics a b e =
    let e2 = second_of _ _ e in
    let e3 = second_of _ _ e2 in
    let counts = (nat_exact a.count b.count).0 (first_of _ _ e) in
    let sums = (int_exact a.sum b.sum).0 (first_of _ _ e2) in
    let leasts = (maybe_value_exact a.least b.least).0 (first_of _ _ e3) in
    let e4 = second_of _ _ e3 in
    let greatests = (maybe_value_exact a.greatest b.greatest).0 (first_of _ _ e4) in
    let sets = (pointwise_decides value_same a.entries b.entries).0 (second_of _ _ e4) in
    λ i. record { count = counts i; sum = sums i; least = leasts i; greatest = greatests i; entries = sets i }

pub statistics_exact : IsExact same_statistics
statistics_exact a b = (
  equal_statistics a b,
  λ e.
      both _ _ ((nat_exact a.count b.count).1 (ap (λ s. s.count) e))
      (both _ _ ((int_exact a.sum b.sum).1 (ap (λ s. s.sum) e))
      (both _ _ ((maybe_value_exact a.least b.least).1 (ap (λ s. s.least) e))
      (both _ _ ((maybe_value_exact a.greatest b.greatest).1 (ap (λ s. s.greatest) e))
      ((pointwise_decides value_same a.entries b.entries).1 (ap (λ s. s.entries) e))))),
)

equal_groups : (a b : Group) → same_group a b ≡ true → a ≡ b
equal_groups a b e =
    let e2 = second_of _ _ e in
    let keys = (pointwise_decides value_same a.key b.key).0 (first_of _ _ e) in
    let rows = (nat_exact a.rows b.rows).0 (first_of _ _ e2) in
    let states = (pointwise_decides statistics_exact a.states b.states).0 (second_of _ _ e2) in
    λ i. record { key = keys i; rows = rows i; states = states i }

group_exact : IsExact same_group
group_exact a b = (
  equal_groups a b,
  λ e.
      both _ _ ((pointwise_decides value_same a.key b.key).1 (ap (λ g. g.key) e))
      (both _ _ ((nat_exact a.rows b.rows).1 (ap (λ g. g.rows) e))
      ((pointwise_decides statistics_exact a.states b.states).1 (ap (λ g. g.states) e))),
)

equal_faults : (f g : RowFault) → ((f.row == g.row) && (f.code == g.code)) ≡ true → f ≡ g
equal_faults f g e =
    let rows = (nat_exact f.row g.row).0 (first_of _ _ e) in
    let codes = (nat_exact f.code g.code).0 (second_of _ _ e) in
    λ i. record { row = rows i; code = codes i }

pub body_exact : IsExact same_body
body_exact (Groups gs) (Groups hs) =
    (λ e. ap Groups ((pointwise_decides group_exact gs hs).0 e), λ e. (pointwise_decides group_exact gs hs).1 (cc))
body_exact (Groups gs) (Fault f) = (λ e. cc, λ e. cc)
body_exact (Fault f) (Groups gs) = (λ e. cc, λ e. cc)
body_exact (Fault f) (Fault g) = (
  λ e. ap Fault (equal_faults f g e),
  λ e.
      let same : f ≡ g = cc in
      both _ _ ((nat_exact f.row g.row).1 (ap (λ h. h.row) same))
      ((nat_exact f.code g.code).1 (ap (λ h. h.code) same)),
)

pub same_body_itself : (a : Body) → same_body a a ≡ true
same_body_itself a = (body_exact a a).1 refl

pub same_body-comm : (a b : Body) → same_body a b ≡ same_body b a
same_body-comm a b = both_ways (same_body a b) (same_body b a) (λ e. (body_exact b a).1 (sym ((body_exact a b).0 e)))
    (λ e. (body_exact a b).1 (sym ((body_exact b a).0 e)))
  where
    both_ways : (s t : Bool) → (s ≡ true → t ≡ true) → (t ≡ true → s ≡ true) → s ≡ t
    both_ways true t f g = sym (f refl)
    both_ways false true f g = g refl
    both_ways false false f g = refl
