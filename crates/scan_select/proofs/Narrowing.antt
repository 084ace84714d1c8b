-- One condition after the other.
use Rattle.std.proofs.Common.{◌≡◌, ℕ, ◌+◌, ◌⊎◌, inl, inr, Bool, true, false, ◌&&◌, List, [], ◌∷◌, ◌++◌, take, refl, ap, sym, ◌∙◌}
use Rattle.std.proofs.lemmas.Bool.{and_parts}
use Rattle.meaning.specs.declared.outcome.Fault.{Fault}
use Rattle.meaning.specs.declared.outcome.Truth.TheVariants.{True, False, Unknown}
use Rattle.meaning.specs.declared.outcome.Outcome.{Outcome}
use Rattle.meaning.specs.declared.outcome.Outcome.TheVariants as gives
use Rattle.meaning.specs.declared.expr.Expr.{Expr}
use Rattle.meaning.specs.declared.joined_row.JoinedRow.{JoinedRow}
use Rattle.meaning.specs.Expr.{eval}
use Rattle.meaning.proofs.Tests.{both, and_true}
use Rattle.vectors.specs.Selection.{is_among}
use Rattle.vector_operators.specs.Evaluated.{Held, IsBefore, Finds}
use Rattle.vector_operators.specs.Given.{is_true_lane}
use Rattle.primitives.specs.Meant.{meant_at, row_at}
use Rattle.primitives.specs.Narrowed.{Narrows}
use Rattle.scan_select.specs.Selected.{behind, conditions, conditions_at, Selects}
use Rattle.std.specs.List.Sorted.{IsStrictlyIncreasing}
use Rattle.vector_operators.proofs.Composes.{before_old}
use Rattle.vector_operators.proofs.Least.{least_noted}

-- ---- positions

in_order : (a b c : Bool) → ((a && b) && c) ≡ (a && (b && c))
in_order true b c = refl
in_order false b c = refl

narrows_as : (m m' : ℕ → Outcome) (old new : List ℕ) (held now : Held) → ((i : ℕ) → m i ≡ m' i) → Narrows m old new held now → Narrows m' old new held now
narrows_as m m' old new held now same n = record {
  sound = λ i among before f faults. n.sound i among before f (same i ∙ faults);
  kept = λ i before. n.kept i before ∙ ap (λ (o : Outcome). is_among old i && is_true_lane o) (same i);
  within = n.within;
  origin = elim n.origin [
    | inl e ↦ inl e
    | inr f ↦ inr (record { position = f.position; fault = f.fault; is_new = f.is_new; is_selected = f.is_selected; is_before = f.is_before; is_meant = sym (same f.position) ∙ f.is_meant })
  ];
}

-- ---- one condition behind others

-- conditions behind conditions
pub conditions_then : (cs ds : List Expr) (row : JoinedRow) → conditions (cs ++ ds) row ≡ behind (conditions cs row) (conditions ds row)
conditions_then [] ds row = refl
conditions_then (c ∷ cs) ds row = ap (behind (eval c row)) (conditions_then cs ds row) ∙ in_turn (eval c row) (conditions cs row) (conditions ds row)
  where
    in_turn : (a b x : Outcome) → behind a (behind b x) ≡ behind (behind a b) x
    in_turn (gives.Fault f) b x = refl
    in_turn (gives.Truth True) b x = refl
    in_turn (gives.Truth Unknown) b x = refl
    in_turn (gives.Truth False) b x = refl
    in_turn (gives.Value v) b x = refl

kept_both : (a b : Outcome) → is_true_lane (behind a (behind b (gives.Truth True))) ≡ (is_true_lane a && is_true_lane b)
kept_both (gives.Fault f) b = refl
kept_both (gives.Value v) b = refl
kept_both (gives.Truth Unknown) b = refl
kept_both (gives.Truth False) b = refl
kept_both (gives.Truth True) (gives.Fault f) = refl
kept_both (gives.Truth True) (gives.Value v) = refl
kept_both (gives.Truth True) (gives.Truth True) = refl
kept_both (gives.Truth True) (gives.Truth Unknown) = refl
kept_both (gives.Truth True) (gives.Truth False) = refl

-- a fault of both is the first's, or the second's where the first is TRUE
fault_of_both : (a b : Outcome) (f : Fault) → behind a (behind b (gives.Truth True)) ≡ gives.Fault f → (a ≡ gives.Fault f) ⊎ ((is_true_lane a ≡ true) × (b ≡ gives.Fault f))
fault_of_both (gives.Fault g) b f e = inl e
fault_of_both (gives.Value v) b f e = absurd cc
fault_of_both (gives.Truth Unknown) b f e = absurd cc
fault_of_both (gives.Truth False) b f e = absurd cc
fault_of_both (gives.Truth True) (gives.Fault g) f e = inr (refl, e)
fault_of_both (gives.Truth True) (gives.Value v) f e = absurd cc
fault_of_both (gives.Truth True) (gives.Truth True) f e = absurd cc
fault_of_both (gives.Truth True) (gives.Truth Unknown) f e = absurd cc
fault_of_both (gives.Truth True) (gives.Truth False) f e = absurd cc

fault_behind : (a b : Outcome) (f : Fault) → is_true_lane a ≡ true → b ≡ gives.Fault f → behind a (behind b (gives.Truth True)) ≡ gives.Fault f
fault_behind (gives.Truth True) b f kept e = rw e refl
fault_behind (gives.Fault g) b f kept e = absurd cc
fault_behind (gives.Value v) b f kept e = absurd cc
fault_behind (gives.Truth Unknown) b f kept e = absurd cc
fault_behind (gives.Truth False) b f kept e = absurd cc

pub one_behind : (m m' : ℕ → Outcome) (old mid new : List ℕ) (held first now : Held) → Narrows m old mid held first → Narrows m' mid new first now
    → Narrows (λ i. behind (m i) (behind (m' i) (gives.Truth True))) old new held now
one_behind m m' old mid new held first now one two = record {
  sound = λ i among before f faults. elim (fault_of_both (m i) (m' i) f faults) [
    | inl e ↦ one.sound i among (earlier i before) f e
    | inr e ↦ two.sound i (one.kept i (earlier i before) ∙ both _ _ among e.0) before f e.1
  ];
  kept = λ i before. two.kept i before ∙ ap (λ (b : Bool). b && is_true_lane (m' i)) (one.kept i (earlier i before))
      ∙ in_order (is_among old i) (is_true_lane (m i)) (is_true_lane (m' i)) ∙ ap (λ (b : Bool). is_among old i && b) (sym (kept_both (m i) (m' i)));
  within = λ i among. one.within i (two.within i among);
  origin = elim two.origin [
    | inl same ↦ elim one.origin [
      | inl as_before ↦ inl (same ∙ as_before)
      | inr f ↦ inr (record {
        position = f.position;
        fault = f.fault;
        is_new = same ∙ f.is_new;
        is_selected = f.is_selected;
        is_before = f.is_before;
        is_meant = ap (λ (o : Outcome). behind o (behind (m' f.position) (gives.Truth True))) f.is_meant;
      })
    ]
    | inr f ↦ inr (second f)
  ];
}
  where
    earlier : (i : ℕ) → IsBefore i now → IsBefore i first
    earlier = before_old m' (λ i. is_among mid i ≡ true) first now two.origin

    second : Finds m' (λ i. is_among mid i ≡ true) first now → Finds (λ i. behind (m i) (behind (m' i) (gives.Truth True))) (λ i. is_among old i ≡ true) held now
    second f =
        let parts = and_parts (is_among old f.position) (is_true_lane (m f.position)) (sym (one.kept f.position f.is_before) ∙ f.is_selected) in
        record {
          position = f.position;
          fault = f.fault;
          is_new = f.is_new;
          is_selected = parts.0;
          is_before = before_old m (λ i. is_among old i ≡ true) held first one.origin f.position f.is_before;
          is_meant = fault_behind (m f.position) (m' f.position) f.fault parts.1 f.is_meant;
        }

-- no condition at all
pub none_yet : (rows : List JoinedRow) (old : List ℕ) (held : Held) → Narrows (conditions_at [] rows) old old held held
none_yet rows old held = record {
  sound = λ i among before f faults. cc;
  kept = λ i before. sym (and_true (is_among old i));
  within = λ i among. among;
  origin = inl refl;
}

-- one more of the conditions
pub one_more_condition : (cs : List Expr) (k : ℕ) (c : Expr) (rows : List JoinedRow) (old mid new : List ℕ) (held first now : Held) → take (k + 1) cs ≡ take k cs ++ c ∷ []
    → Narrows (conditions_at (take k cs) rows) old mid held first → Narrows (meant_at c rows) mid new first now → Narrows (conditions_at (take (k + 1) cs) rows) old new held now
one_more_condition cs k c rows old mid new held first now more one two =
    narrows_as _ _ old new held now (λ i. sym (ap (λ (ds : List Expr). conditions ds (row_at rows i)) more ∙ conditions_then (take k cs) (c ∷ []) (row_at rows i)))
    (one_behind (conditions_at (take k cs) rows) (meant_at c rows) old mid new held first now one two)

-- all conditions
pub selects : (m : ℕ → Outcome) (old new : List ℕ) (held now : Held) → IsStrictlyIncreasing old → Narrows m old new held now → Selects m old new held now
selects m old new held now ascending narrows = record {
  least = least_noted m old held now narrows.sound narrows.origin ascending;
  kept = narrows.kept;
  within = narrows.within;
}
