-- The arms of CASE, one after the other.
use Rattle.std.specs.Prelude.{◌≡◌, ◌≢◌, ℕ, ◌<◌, Bool, true, false, not, if◌then◌else◌}
use Rattle.std.proofs.Common.{refl, sym, ◌∙◌, ap, subst, inl, inr}
use Rattle.meaning.specs.declared.value.ColType.{ColType}
use Rattle.meaning.specs.declared.outcome.Truth.TheVariants.{True, False, Unknown}
use Rattle.meaning.specs.declared.outcome.Fault.{Fault}
use Rattle.meaning.specs.declared.outcome.Outcome.{Outcome}
use Rattle.meaning.specs.declared.outcome.Outcome.TheVariants as gives
use Rattle.meaning.specs.Operators.{case_of}
use Rattle.meaning.specs.Typing.{Valued}
use Rattle.meaning.proofs.Tests.{not_true}
use Rattle.vectors.specs.Selection.{Positions, is_among, without}
use Rattle.vector_operators.specs.declared.given.Given.{Given}
use Rattle.vector_operators.specs.declared.given.Given.TheVariants as given
use Rattle.vector_operators.specs.Evaluated.{Held, IsBefore, IsWithin, Evaluates}
use Rattle.vector_operators.specs.Given.{AreNarrowed, given_at, is_of_kind, is_true_lane, ArePut}
use Rattle.primitives.specs.Nodes.{Decides, Gives, IsPassedOver, IsTaken, Passes}
use Rattle.vector_operators.proofs.Among.{filter_stays, filter_stood}
use Rattle.vector_operators.proofs.Composes.{before_old, lane_is, origin_then, bool_cases}

true_is : (o : Outcome) → is_true_lane o ≡ true → o ≡ gives.Truth True
true_is (gives.Truth True) h = refl
true_is (gives.Truth False) h = absurd cc
true_is (gives.Truth Unknown) h = absurd cc
true_is (gives.Value v) h = absurd cc
true_is (gives.Fault e) h = absurd cc

passed_is : (o : Outcome) → ((e : Fault) → o ≢ gives.Fault e) → is_true_lane o ≡ false → IsPassedOver o
passed_is (gives.Truth True) never h = absurd cc
passed_is (gives.Truth False) never h = tt
passed_is (gives.Truth Unknown) never h = tt
passed_is (gives.Value v) never h = tt
passed_is (gives.Fault e) never h = absurd (never e refl)

-- the lanes on which a condition is TRUE
pub passes_where : (c : ℕ → Outcome) (left lanes : Positions) (h n : Held) (w : Given) → Evaluates c (IsWithin left) h n (given_at w)
    → AreNarrowed (λ i. is_true_lane (given_at w i)) left lanes → Passes c left lanes h n
passes_where c left lanes h n w ev are = record {
  stood = λ i there. (are.stood i there).0;
  true_there = λ i there before. (let u = are.stood i there in sym (ev.exact i u.0 before) ∙ true_is (given_at w i) u.1);
  passed_over = λ i there before gone. elim (bool_cases (is_true_lane (given_at w i))) [
    | inl holds ↦ (let stays : is_among lanes.list i ≡ true = (are.stays i there holds).1 in absurd cc)
    | inr fails ↦ subst IsPassedOver (ev.exact i there before) (passed_is (given_at w i) (lane_is w i) fails)
  ];
  origin = ev.origin;
}

case_passed : (c v rest : Outcome) → IsPassedOver c → case_of c v rest ≡ rest
case_passed (gives.Fault e) v rest p = absurd p
case_passed (gives.Truth True) v rest p = absurd p
case_passed (gives.Truth False) v rest p = refl
case_passed (gives.Truth Unknown) v rest p = refl
case_passed (gives.Value w) v rest p = refl

pub decides_start : (kind : ColType) (m : ℕ → Outcome) (s : Positions) (h : Held) → Decides kind m m (IsWithin s) s h h given.Null
decides_start kind m s h = record {
  kind_is = refl;
  within = λ i w. w;
  below = λ i w. w.0;
  undecided = λ i w b. refl;
  decided = λ i w b gone. absurd (let among = w.1 in cc);
  origin = inl refl;
}

pub put_outside : (s : Positions) (these those g : Given) → ArePut s these those g → (i : ℕ) → i < s.below → is_among s.list i ≡ false → given_at g i ≡ given_at those i
put_outside s these those g are i below e = are i below ∙ ap (λ (b : Bool). if b then given_at these i else given_at those i) e

pub put_inside : (s : Positions) (these those g : Given) → ArePut s these those g → (i : ℕ) → i < s.below → is_among s.list i ≡ true → given_at g i ≡ given_at these i
put_inside s these those g are i below e = are i below ∙ ap (λ (b : Bool). if b then given_at these i else given_at those i) e

module _ (kind : ColType) (meant c v rest : ℕ → Outcome) (s left lanes : Positions) (h0 h h2 : Held) (g then_given g2 : Given)
    (so_far : Decides kind meant (λ i. case_of (c i) (v i) (rest i)) (IsWithin s) left h0 h g)
    (taken : IsTaken kind c v left lanes h h2 then_given) (same : lanes.below ≡ left.below)
    (inside : (i : ℕ) → IsWithin lanes i → given_at g2 i ≡ given_at then_given i)
    (outside : (i : ℕ) → IsWithin s i → is_among left.list i ≡ false → is_among lanes.list i ≡ false → given_at g2 i ≡ given_at g i) (kind2 : is_of_kind (Valued kind) g2 ≡ true) where
  abbrev left2 : Positions
  left2 = record { below = left.below; list = without left.list lanes.list }

  to_between : (i : ℕ) → IsBefore i h2 → IsBefore i taken.between
  to_between = before_old v (IsWithin lanes) taken.between h2 taken.gives.evaluates.origin

  to_h : (i : ℕ) → IsBefore i h2 → IsBefore i h
  to_h i b = before_old c (IsWithin left) h taken.between taken.passes.origin i (to_between i b)

  left_of : (i : ℕ) → IsWithin left2 i → IsWithin left i × (not (is_among lanes.list i) ≡ true)
  left_of i w = let u = filter_stood (λ p. not (is_among lanes.list p)) left.list i w.1 in ((w.0, u.0), u.1)

  below_lanes : (i : ℕ) → i < left.below → i < lanes.below
  below_lanes i w = subst (λ (k : ℕ). i < k) (sym same) w

  of_condition : (i : ℕ) (e : Fault) → IsWithin left i → IsBefore i h → c i ≡ gives.Fault e → IsWithin s i × (meant i ≡ gives.Fault e)
  of_condition i e w b f = (so_far.within i w, so_far.undecided i w b ∙ ap (λ (o : Outcome). case_of o (v i) (rest i)) f)

  of_value : (i : ℕ) (e : Fault) → IsWithin lanes i → IsBefore i taken.between → v i ≡ gives.Fault e → IsWithin s i × (meant i ≡ gives.Fault e)
  of_value i e w b f =
      let there = taken.passes.stood i w in
      let before = before_old c (IsWithin left) h taken.between taken.passes.origin i b in
      (so_far.within i there, so_far.undecided i there before ∙ ap (λ (o : Outcome). case_of o (v i) (rest i)) (taken.passes.true_there i w b) ∙ f)

  decided_now : (i : ℕ) → IsWithin s i → IsBefore i h2 → is_among left2.list i ≡ false → given_at g2 i ≡ meant i
  decided_now i w b gone = elim (bool_cases (is_among left.list i)) [
    | inr out ↦ elim (bool_cases (is_among lanes.list i)) [
      | inl among ↦ (let there : is_among left.list i ≡ true = (taken.passes.stood i (below_lanes i (so_far.below i w), among)).1 in absurd cc)
      | inr apart ↦ outside i w out apart ∙ so_far.decided i w (to_h i b) out
    ]
    | inl in_left ↦ elim (bool_cases (is_among lanes.list i)) [
      | inl among ↦
          (let there : IsWithin lanes i = (below_lanes i (so_far.below i w), among) in
          inside i there ∙ taken.gives.evaluates.exact i there b
          ∙ sym (so_far.undecided i (so_far.below i w, in_left) (to_h i b) ∙ ap (λ (o : Outcome). case_of o (v i) (rest i)) (taken.passes.true_there i there (to_between i b))))
      | inr apart ↦
          (let stays : is_among left2.list i ≡ true = filter_stays (λ p. not (is_among lanes.list p)) left.list i in_left (ap not apart) in absurd cc)
    ]
  ]

  pub decides_more : Decides kind meant rest (IsWithin s) left2 h0 h2 g2
  decides_more = record {
    kind_is = kind2;
    within = λ i w. so_far.within i (left_of i w).0;
    below = λ i w. so_far.below i w;
    undecided = λ i w b. (let u = left_of i w in
        so_far.undecided i u.0 (to_h i b) ∙ case_passed (c i) (v i) (rest i) (taken.passes.passed_over i u.0 (to_between i b) (not_true (is_among lanes.list i) u.1)));
    decided = decided_now;
    origin =
        origin_then meant v (IsWithin s) (IsWithin lanes) h0 taken.between h2
        (origin_then meant c (IsWithin s) (IsWithin left) h0 h taken.between so_far.origin of_condition taken.passes.origin)
        of_value taken.gives.evaluates.origin;
  }

-- ELSE, on the lanes that are left
pub decides_rest : (kind : ColType) (meant rest : ℕ → Outcome) (s left : Positions) (h0 h h2 : Held) (g o out : Given)
    → Decides kind meant rest (IsWithin s) left h0 h g → Gives (Valued kind) rest (IsWithin left) h h2 o → ArePut left o g out → is_of_kind (Valued kind) out ≡ true
    → Gives (Valued kind) meant (IsWithin s) h0 h2 out
decides_rest kind meant rest s left h0 h h2 g o out so_far on_rest put is = record {
  evaluates = record {
    exact = λ i w b. elim (bool_cases (is_among left.list i)) [
      | inl in_left ↦
          (let there : IsWithin left i = (so_far.below i w, in_left) in
          put_inside left o g out put i there.0 in_left ∙ on_rest.evaluates.exact i there b ∙ sym (so_far.undecided i there (to_h i b)))
      | inr out_of ↦ put_outside left o g out put i (so_far.below i w) out_of ∙ so_far.decided i w (to_h i b) out_of
    ];
    origin = origin_then meant rest (IsWithin s) (IsWithin left) h0 h h2 so_far.origin
        (λ i e w b f. (so_far.within i w, so_far.undecided i w b ∙ f)) on_rest.evaluates.origin;
  };
  kind = is;
} where
  to_h : (i : ℕ) → IsBefore i h2 → IsBefore i h
  to_h = before_old rest (IsWithin left) h h2 on_rest.evaluates.origin
