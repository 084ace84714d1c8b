-- One evaluation after the other.
use Rattle.std.specs.Prelude.{◌≡◌, ◌≢◌, ℕ, ◌<◌, ◌⊎◌, nat_lt, Bool, true, false, Some, None}
use Rattle.std.proofs.Common.{refl, sym, ◌∙◌, ap, subst, inl, inr, arith}
use Rattle.std.proofs.lemmas.Bool.{cases_lt}
use Rattle.std.proofs.lemmas.Bool.Decides.{nat_tests}
use Rattle.meaning.specs.declared.outcome.Fault.{Fault}
use Rattle.meaning.specs.declared.outcome.Outcome.{Outcome}
use Rattle.meaning.specs.declared.outcome.Outcome.TheVariants as gives
use Rattle.vector_operators.specs.declared.fault.Faulted.{Faulted}
use Rattle.vector_operators.specs.declared.given.Given.{Given}
use Rattle.vector_operators.specs.declared.given.Given.TheVariants as given
use Rattle.vector_operators.specs.Evaluated.{Held, IsBefore, Finds, Evaluates, noted}
use Rattle.vector_operators.specs.Given.{given_at}

-- ---- no lane holds a fault

pub lane_is : (g : Given) (i : ℕ) (e : Fault) → given_at g i ≢ gives.Fault e
lane_is given.Null i e h = cc
lane_is (given.Ints lanes) i e h = cc
lane_is (given.Texts lanes) i e h = cc
lane_is (given.Truths lanes) i e h = cc

-- ---- what lies before

pub before-trans : (i p : ℕ) (h : Held) → i < p → IsBefore p h → IsBefore i h
before-trans i p None l b = tt
before-trans i p (Some f) l b = omega (arith, l, b)

-- what lies before the new fault lies before the old one
pub before_old : (m : ℕ → Outcome) (S : ℕ → Type 0) (h n : Held) → ((n ≡ h) ⊎ Finds m S h n) → (i : ℕ) → IsBefore i n → IsBefore i h
before_old m S h n origin i b =
    elim origin [
      | inl same ↦ subst (λ (x : Held). IsBefore i x) same b
      | inr f ↦ before-trans i f.position h (subst (λ (x : Held). IsBefore i x) f.is_new b) f.is_before
    ]

pub bool_cases : (b : Bool) → (b ≡ true) ⊎ (b ≡ false)
bool_cases true = inl refl
bool_cases false = inr refl

-- a fault that is found of one meaning, on some positions, is found of another
pub found_as : (m m' : ℕ → Outcome) (S S' : ℕ → Type 0) (h h' n : Held)
    → ((i : ℕ) (e : Fault) → S i → IsBefore i h → m i ≡ gives.Fault e → S' i × IsBefore i h' × (m' i ≡ gives.Fault e))
    → Finds m S h n → Finds m' S' h' n
found_as m m' S S' h h' n to f =
    let w = to f.position f.fault f.is_selected f.is_before f.is_meant in
    record { position = f.position; fault = f.fault; is_new = f.is_new; is_selected = w.0; is_before = w.1; is_meant = w.2 }

-- first one origin, then another
pub origin_then : (m m' : ℕ → Outcome) (S S' : ℕ → Type 0) (h n n' : Held) → ((n ≡ h) ⊎ Finds m S h n)
    → ((i : ℕ) (e : Fault) → S' i → IsBefore i n → m' i ≡ gives.Fault e → S i × (m i ≡ gives.Fault e))
    → ((n' ≡ n) ⊎ Finds m' S' n n') → (n' ≡ h) ⊎ Finds m S h n'
origin_then m m' S S' h n n' first to second =
    elim second [
      | inl same ↦ elim first [ inl as_before ↦ inl (same ∙ as_before) | inr f ↦ inr (record { position = f.position; fault = f.fault; is_new = same ∙ f.is_new; is_selected = f.is_selected; is_before = f.is_before; is_meant = f.is_meant }) ]
      | inr g ↦ inr (found_as m' m S' S n h n' (λ i e s b meant. let w = to i e s b meant in (w.0, before_old m S h n first i b, w.1)) g)
    ]

pub origin_as : (m m' : ℕ → Outcome) (S S' : ℕ → Type 0) (h n : Held)
    → ((i : ℕ) (e : Fault) → S i → IsBefore i h → m i ≡ gives.Fault e → S' i × (m' i ≡ gives.Fault e))
    → ((n ≡ h) ⊎ Finds m S h n) → (n ≡ h) ⊎ Finds m' S' h n
origin_as m m' S S' h n to o =
    elim o [
      | inl same ↦ inl same
      | inr f ↦ inr (found_as m m' S S' h h n (λ i e s b meant. let w = to i e s b meant in (w.0, b, w.1)) f)
    ]

-- g of two operands, where `needs` says from the left whether the right counts
pub record Node (g : Outcome → Outcome → Outcome) (needs : Outcome → Bool) : Type 0 where
  pub left_fault : (e : Fault) (b : Outcome) → g (gives.Fault e) b ≡ gives.Fault e
  pub right_fault : (a : Outcome) (e : Fault) → ((f : Fault) → a ≢ gives.Fault f) → needs a ≡ true → g a (gives.Fault e) ≡ gives.Fault e
  pub unneeded : (a b c : Outcome) → needs a ≡ false → g a b ≡ g a c

module _ (g : Outcome → Outcome → Outcome) (needs : Outcome → Bool) (node : Node g needs)
    (a b : ℕ → Outcome) (S : ℕ → Type 0) (h h1 h2 h3 : Held) (left right out : ℕ → Outcome)
    (lanes : (i : ℕ) (e : Fault) → left i ≢ gives.Fault e)
    (on_left : Evaluates a S h h1 left)
    (on_right : Evaluates b (λ i. S i × (needs (left i) ≡ true)) h1 h2 right)
    (loop : Evaluates (λ i. g (left i) (right i)) S h2 h3 out) where
  left_is : (i : ℕ) → S i → IsBefore i h2 → left i ≡ a i
  left_is i m b2 = on_left.exact i m (before_old _ _ _ _ on_right.origin i b2)

  both_are : (i : ℕ) → S i → IsBefore i h2 → g (left i) (right i) ≡ g (a i) (b i)
  both_are i m b2 =
      elim (bool_cases (needs (left i))) [
        | inl needed ↦ ap (λ (x : Outcome). g x (right i)) (left_is i m b2) ∙ ap (g (a i)) (on_right.exact i (m, needed) b2)
        | inr not_needed ↦ node.unneeded (left i) (right i) (b i) not_needed ∙ ap (λ (x : Outcome). g x (b i)) (left_is i m b2)
      ]

  of_left : (i : ℕ) (e : Fault) → S i → IsBefore i h → a i ≡ gives.Fault e → S i × (g (a i) (b i) ≡ gives.Fault e)
  of_left i e s before meant = (s, ap (λ (x : Outcome). g x (b i)) meant ∙ node.left_fault e (b i))

  of_right : (i : ℕ) (e : Fault) → S i × (needs (left i) ≡ true) → IsBefore i h1 → b i ≡ gives.Fault e → S i × (g (a i) (b i) ≡ gives.Fault e)
  of_right i e s before meant =
      (s.0, ap (λ (x : Outcome). g x (b i)) (sym (on_left.exact i s.0 before)) ∙ ap (g (left i)) meant ∙ node.right_fault (left i) e (lanes i) s.1)

  of_loop : (i : ℕ) (e : Fault) → S i → IsBefore i h2 → g (left i) (right i) ≡ gives.Fault e → S i × (g (a i) (b i) ≡ gives.Fault e)
  of_loop i e s before meant = (s, sym (both_are i s before) ∙ meant)

  pub composes : Evaluates (λ i. g (a i) (b i)) S h h3 out
  composes = record {
    exact = λ i m b3. loop.exact i m b3 ∙ both_are i m (before_old _ _ _ _ loop.origin i b3);
    origin =
        origin_then (λ i. g (a i) (b i)) (λ i. g (left i) (right i)) S S h h2 h3
        (origin_then (λ i. g (a i) (b i)) b S (λ i. S i × (needs (left i) ≡ true)) h h1 h2
        (origin_as a (λ i. g (a i) (b i)) S S h h1 of_left on_left.origin) of_right on_right.origin)
        of_loop loop.origin;
  }

-- a loop that faults nowhere
pub pointwise : (m : ℕ → Outcome) (S : ℕ → Type 0) (h : Held) (out : ℕ → Outcome) → ((i : ℕ) → S i → out i ≡ m i) → Evaluates m S h h out
pointwise m S h out is = record { exact = λ i s b. is i s; origin = inl refl }

-- one meaning for another
pub restated : (m m' : ℕ → Outcome) (S : ℕ → Type 0) (h n : Held) (v : ℕ → Outcome) → ((i : ℕ) → S i → m i ≡ m' i) → Evaluates m S h n v → Evaluates m' S h n v
restated m m' S h n v same ev = record {
  exact = λ i s b. ev.exact i s b ∙ same i s;
  origin = origin_as m m' S S h n (λ i e s b meant. (s, sym (same i s) ∙ meant)) ev.origin;
}

-- some positions for others
pub reselected : (m : ℕ → Outcome) (S S' : ℕ → Type 0) (h n : Held) (v : ℕ → Outcome) → ((i : ℕ) → S i → S' i) → ((i : ℕ) → S' i → S i) → Evaluates m S h n v → Evaluates m S' h n v
reselected m S S' h n v to from ev = record {
  exact = λ i s b. ev.exact i (from i s) b;
  origin = origin_as m m S S' h n (λ i e s b meant. (to i s, meant)) ev.origin;
}

-- what one operand gives, and a loop behind it
pub after : (f : Outcome → Outcome) → ((e : Fault) → f (gives.Fault e) ≡ gives.Fault e) → (a : ℕ → Outcome) (S : ℕ → Type 0) (h h1 h2 : Held) (left out : ℕ → Outcome)
    → Evaluates a S h h1 left → Evaluates (λ i. f (left i)) S h1 h2 out → Evaluates (λ i. f (a i)) S h h2 out
after f strict a S h h1 h2 left out on_left loop = record {
  exact = λ i m b2. loop.exact i m b2 ∙ ap f (on_left.exact i m (before_old _ _ _ _ loop.origin i b2));
  origin = origin_then (λ i. f (a i)) (λ i. f (left i)) S S h h1 h2
      (origin_as a (λ i. f (a i)) S S h h1 (λ i e s b meant. (s, ap f meant ∙ strict e)) on_left.origin)
      (λ i e s b meant. (s, ap f (sym (on_left.exact i s b)) ∙ meant)) loop.origin;
}

pub noted_cases : (h : Held) (f : Faulted) → (IsBefore f.position h × (noted h (Some f) ≡ Some f)) ⊎ ((noted h (Some f) ≡ h) × ((i : ℕ) → IsBefore i h → i < f.position))
noted_cases None f = inl (tt, refl)
noted_cases (Some g) f = elim (cases_lt f.position g.position) [
  | inl lt ↦ (let b : nat_lt f.position g.position ≡ true = grind (arith, nat_tests) in inl (lt, rw b))
  | inr ge ↦ (let b : nat_lt f.position g.position ≡ false = grind (arith, nat_tests) in inr (rw b, λ i w. omega (arith, w, ge)))
]
