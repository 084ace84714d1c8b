-- The fault that is held afterwards is that of the least selected position that has one.
use Rattle.std.specs.Prelude.{◌≡◌, ◌≢◌, ℕ, ◌<◌, ◌⊎◌, ◌==◌, true, List, [], ◌∷◌, Some, None}
use Rattle.std.specs.List.{AllByRecursion}
use Rattle.std.specs.List.Sorted.{IsStrictlyIncreasing, IsStrictlySortedBy}
use Rattle.std.specs.Ordering.{nat_cmp}
use Rattle.std.specs.declared.cmp.Ordering.TheVariants.{Less}
use Rattle.std.proofs.Common.{refl, sym, ◌∙◌, ap, subst, inl, inr, arith}
use Rattle.std.proofs.lemmas.Bool.{cases_order, eqb-true}
use Rattle.std.proofs.lemmas.Map.Keys.{sorted_from_strictly_increasing}
use Rattle.meaning.specs.declared.outcome.Fault.{Fault}
use Rattle.meaning.specs.declared.outcome.Outcome.{Outcome}
use Rattle.meaning.specs.declared.outcome.Outcome.TheVariants as gives
use Rattle.meaning.proofs.Tests.{or_second}
use Rattle.vectors.specs.Selection.{is_among}
use Rattle.vector_operators.specs.declared.fault.Faulted.{Faulted}
use Rattle.vector_operators.specs.Evaluated.{Held, IsBefore, Finds, Evaluates, IsEvaluated, fault_at, first_fault, noted}
use Rattle.vector_operators.proofs.Among.{all_among, or_cases, self_among, less_is}
use Rattle.vector_operators.proofs.Composes.{noted_cases}

-- no fault at any of the positions
abbrev NoFault : (ℕ → Outcome) → List ℕ → Type 0
NoFault meant list = (i : ℕ) (f : Fault) → is_among list i ≡ true → meant i ≢ gives.Fault f

record IsFirst (meant : ℕ → Outcome) (list : List ℕ) (f : Faulted) : Type 0 where
  pub among : is_among list f.position ≡ true
  pub is_fault : meant f.position ≡ gives.Fault f.fault
  pub first : (j : ℕ) (e : Fault) → is_among list j ≡ true → j < f.position → meant j ≢ gives.Fault e

module _ (meant : ℕ → Outcome) where
  behind : (x : ℕ) (xs : List ℕ) → ((f : Fault) → meant x ≢ gives.Fault f) → AllByRecursion (λ y. nat_cmp x y ≡ Less) xs
      → ((first_fault meant xs ≡ None) × NoFault meant xs) ⊎ ((f : Faulted) × ((first_fault meant xs ≡ Some f) × IsFirst meant xs f))
      → ((first_fault meant xs ≡ None) × NoFault meant (x ∷ xs)) ⊎ ((f : Faulted) × ((first_fault meant xs ≡ Some f) × IsFirst meant (x ∷ xs) f))
  behind x xs never less rest = elim rest [
    | inl none ↦ inl (
      none.0,
      λ i f among. elim (or_cases (x == i) (is_among xs i) among) [
        | inl here ↦ (let at : x ≡ i = eqb-true x i here in λ m. never f (ap meant at ∙ m))
        | inr later ↦ none.1 i f later
      ],
    )
    | inr found ↦ inr (
      found.0,
      (
        found.1.0,
        record {
          among = or_second (x == found.0.position) _ found.1.1.among;
          is_fault = found.1.1.is_fault;
          first = λ j e among before. elim (or_cases (x == j) (is_among xs j) among) [
            | inl here ↦ (let at : x ≡ j = eqb-true x j here in λ m. never e (ap meant at ∙ m))
            | inr later ↦ found.1.1.first j e later before
          ];
        },
      ),
    )
  ]

  first_cases : (list : List ℕ) → IsStrictlySortedBy nat_cmp list
      → ((first_fault meant list ≡ None) × NoFault meant list) ⊎ ((f : Faulted) × ((first_fault meant list ≡ Some f) × IsFirst meant list f))
  unfolding IsStrictlySortedBy
  first_cases [] sorted = inl (refl, λ i f among. absurd cc)
  first_cases (x ∷ xs) sorted = elim (meant x) as (λ o. meant x ≡ o
      → ((fault_at x o (first_fault meant xs) ≡ None) × NoFault meant (x ∷ xs)) ⊎ ((f : Faulted) × ((fault_at x o (first_fault meant xs) ≡ Some f) × IsFirst meant (x ∷ xs) f))) [
        | gives.Value v ↦ λ e. behind x xs (λ f m. absurd cc) sorted.0 (first_cases xs sorted.1)
        | gives.Truth t ↦ λ e. behind x xs (λ f m. absurd cc) sorted.0 (first_cases xs sorted.1)
        | gives.Fault f ↦ λ e. inr (
          record { position = x; fault = f },
          (
            refl,
            record {
              among = self_among x xs;
              is_fault = e;
              first = λ j g among before. elim (or_cases (x == j) (is_among xs j) among) [
                | inl here ↦ (let at : x ≡ j = eqb-true x j here in absurd (omega (arith, at, before)))
                | inr later ↦ (let after : x < j = less_is x j (all_among (λ y. nat_cmp x y ≡ Less) xs j sorted.0 later) in absurd (omega (arith, after, before)))
              ];
            },
          ),
        )
      ] refl

  module _ (list : List ℕ) (held new : Held) (sound : (i : ℕ) → is_among list i ≡ true → IsBefore i new → (f : Fault) → meant i ≢ gives.Fault f)
      (origin : (new ≡ held) ⊎ Finds meant (λ i. is_among list i ≡ true) held new) where
    by_first : (f : Faulted) → IsFirst meant list f → new ≡ noted held (Some f)
    by_first f is = elim (noted_cases held f) [
      | inl taken ↦ sym (taken.1 ∙ sym (elim origin [
        | inl same ↦ absurd (sound f.position is.among (subst (λ (h : Held). IsBefore f.position h) (sym same) taken.0) f.fault is.is_fault)
        | inr g ↦ elim (cases_order g.position f.position) [
          | inl at ↦
              (let w : gives.Fault g.fault ≡ gives.Fault f.fault = sym g.is_meant ∙ ap meant at ∙ is.is_fault in
              let faults : g.fault ≡ f.fault = cc in
              g.is_new ∙ ap (λ (x : ℕ). Some (record { position = x; fault = g.fault })) at ∙ ap (λ (x : Fault). Some (record { position = f.position; fault = x })) faults)
          | inr other ↦ elim other [
            | inl under ↦ absurd (is.first g.position g.fault g.is_selected under g.is_meant)
            | inr over ↦ absurd (sound f.position is.among (subst (λ (h : Held). IsBefore f.position h) (sym g.is_new) over) f.fault is.is_fault)
          ]
        ]
      ]))
      | inr kept ↦ sym (kept.0 ∙ sym (elim origin [
        | inl same ↦ same
        | inr g ↦ absurd (is.first g.position g.fault g.is_selected (kept.1 g.position g.is_before) g.is_meant)
      ]))
    ]

    -- a fault that is the old one or one that was found, where no position before it has one, is the least noted
    pub least_noted : IsStrictlyIncreasing list → new ≡ noted held (first_fault meant list)
    least_noted ascending = elim (first_cases list (sorted_from_strictly_increasing list ascending)) [
      | inl none ↦ (elim origin [
        | inl same ↦ same
        | inr g ↦ absurd (none.1 g.position g.fault g.is_selected g.is_meant)
      ]) ∙ sym (ap (λ (h : Held). noted held h) none.0)
      | inr found ↦ by_first found.0 found.1.1 ∙ sym (ap (λ (h : Held). noted held h) found.1.0)
    ]

  pub evaluated : (list : List ℕ) (held new : Held) (lanes : ℕ → Outcome) → ((i : ℕ) (e : Fault) → lanes i ≢ gives.Fault e)
      → Evaluates meant (λ i. is_among list i ≡ true) held new lanes → IsStrictlyIncreasing list → IsEvaluated meant list held new lanes
  evaluated list held new lanes never ev ascending = record {
    least = least_noted list held new (λ i among before f faults. never i f (ev.exact i among before ∙ faults)) ev.origin ascending;
    exact = ev.exact;
  }
