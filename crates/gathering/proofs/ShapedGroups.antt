-- The groups of fitting answers, merged, have the plan's shape.
use Rattle.std.specs.Prelude.{◌≡◌, ℕ, ◌+◌, Bool, true, false, List, [], ◌∷◌, ◌++◌, map, filter, cond}
use Rattle.std.specs.List.{AllByRecursion, list_all, enumerate_from}
use Rattle.std.specs.Cmp.Lexicographic.{pointwise}
use Rattle.std.specs.Ordering.{eq_by_cmp}
use Rattle.std.proofs.Common.{refl, sym, ap}
use Rattle.std.proofs.lemmas.List.Elements.{All-from_recursion}
use Rattle.meaning.specs.declared.plan.Aggregate.{Aggregate}
use Rattle.meaning.specs.declared.plan.GroupingKey.{GroupingKey}
use Rattle.meaning.specs.declared.plan.Plan.{Plan}
use Rattle.meaning.specs.declared.answer.Group.{Group}
use Rattle.meaning.specs.declared.value.Value.{Value}
use Rattle.meaning.specs.Said.{Cell}
use Rattle.meaning.specs.declared.answer.Body.TheVariants.{Groups, Fault}
use Rattle.meaning.specs.declared.answer.Cell.TheVariants.{Nothing, One, Conflict}
use Rattle.meaning.specs.Order.{Row, column, row_cmp, ascending_set}
use Rattle.meaning.specs.Cut.{Cut}
use Rattle.meaning.specs.Aggregate.{kept_by, statistics}
use Rattle.meaning.specs.Typing.{is_of_type}
use Rattle.meaning.specs.Group.{beside, certain_keys, group_of, merged, merged_groups}
use Rattle.meaning.specs.Fitting.{is_group_of, is_key_of, is_state_of}
use Rattle.meaning_laws.proofs.FittingGroups.{groups_shaped}
use Rattle.meaning_laws.proofs.StatisticsFit.{state_of_type}
use Rattle.meaning.proofs.Tests.{first_of, second_of, both, all_first, all_rest}
use Rattle.last_step.specs.Fitting.{AreGroupsOf}
use Rattle.gathering.specs.Fitted.{is_fitting, AreFitting}
use Rattle.meaning.specs.SoundPlan.{IsSoundPlan}
use Rattle.gathering.specs.Merging.{groups_in, all_groups}
use Rattle.gathering.proofs.Merging.{all_in_set, keys_of}

module _ (plan : Plan) where
  abbrev IsShaped : Group → Type 0
  IsShaped g = is_group_of plan g ≡ true

  each_shaped : (gs : List Group) → list_all (is_group_of plan) gs ≡ true → AllByRecursion IsShaped gs
  each_shaped [] e = tt
  each_shaped (g ∷ gs) e = (all_first (is_group_of plan) g gs e, each_shaped gs (all_rest (is_group_of plan) g gs e))

  cell_shaped : (cut : Cut) (k : ℕ) (c : Cell) → is_fitting plan cut k c ≡ true → AllByRecursion IsShaped (groups_in c)
  cell_shaped cut k Nothing e = tt
  cell_shaped cut k Conflict e = tt
  cell_shaped cut k (One (Fault f)) e = tt
  cell_shaped cut k (One (Groups gs)) e = each_shaped gs (first_of (list_all (is_group_of plan) gs) _ (second_of _ _ e))

  joined : (xs ys : List Group) → AllByRecursion IsShaped xs → AllByRecursion IsShaped ys → AllByRecursion IsShaped (xs ++ ys)
  joined [] ys p q = q
  joined (x ∷ xs) ys p q = (p.0, joined xs ys p.1 q)

  cells_shaped : (cut : Cut) (n : ℕ) (cells : List Cell) → list_all (λ p. is_fitting plan cut p.0 p.1) (enumerate_from n cells) ≡ true → AllByRecursion IsShaped (all_groups cells)
  cells_shaped cut n [] e = tt
  cells_shaped cut n (c ∷ cells) e = joined (groups_in c) (all_groups cells) (cell_shaped cut n c (first_of _ _ e)) (cells_shaped cut (n + 1) cells (second_of _ _ e))

  -- a group of no row
  no_states : (n : ℕ) (aggs : List Aggregate) → pointwise is_state_of aggs (map (λ (e : Aggregate × List Value). kept_by e.0.kind (statistics e.1)) (map (λ (a : ℕ × Aggregate). (a.1, map (λ (row : Row). column row a.0) [])) (enumerate_from n aggs))) ≡ true
  no_states n [] = refl
  no_states n (a ∷ aggs) = both _ _ (state_of_type a [] refl) (no_states (n + 1) aggs)

  one_shaped : (key : Row) (gs : List Group) → is_key_of plan key ≡ true → AllByRecursion IsShaped gs → is_group_of plan (merged plan key gs) ≡ true
  one_shaped key [] fits all = both (is_key_of plan key) (pointwise is_state_of plan.aggs (group_of plan key []).states) fits (no_states 0 plan.aggs)
  one_shaped key (g ∷ gs) fits all = groups_shaped plan g (merged plan key gs) all.0 (one_shaped key gs fits all.1)

  kept : (k : Row) (gs : List Group) → AllByRecursion IsShaped gs → AllByRecursion IsShaped (beside k (map (λ (g : Group). (g.key, g)) gs))
  kept k [] all = tt
  kept k (g ∷ gs) all = elim (eq_by_cmp row_cmp k g.key) as (λ b. AllByRecursion IsShaped (map (λ (p : Row × Group). p.1) (cond b ((g.key, g) ∷ filter (λ p. eq_by_cmp row_cmp k p.0) (map (λ (g : Group). (g.key, g)) gs)) (filter (λ p. eq_by_cmp row_cmp k p.0) (map (λ (g : Group). (g.key, g)) gs))))) [
    | true ↦ (all.0, kept k gs all.1)
    | false ↦ kept k gs all.1
  ]

  abbrev IsKey : Row → Type 0
  IsKey key = is_key_of plan key ≡ true

  own_keys : (gs : List Group) → AllByRecursion IsShaped gs → AllByRecursion (λ g. IsKey g.key) gs
  own_keys [] all = tt
  own_keys (g ∷ gs) all = (first_of (is_key_of plan g.key) (pointwise is_state_of plan.aggs g.states) all.0, own_keys gs all.1)

  certain_fit : (plain : Bool) (keys : List GroupingKey) → keys ≡ plan.keys → (rest : List Row) → AllByRecursion IsKey rest → AllByRecursion IsKey (certain_keys plain keys ++ rest)
  certain_fit true keys same rest all = all
  certain_fit false [] same rest all = (ap (λ (ks : List GroupingKey). pointwise (λ k v. is_of_type k.col_type v) ks []) (sym same), all)
  certain_fit false (k ∷ keys) same rest all = all

  pub groups_merged : (gs : List Group) → AllByRecursion IsShaped gs → AllByRecursion IsShaped (merged_groups plan gs)
  groups_merged gs all =
      let pairs : List (Row × Group) = map (λ (g : Group). (g.key, g)) gs in
      over (ascending_set row_cmp (certain_keys plan.plain plan.keys ++ map (λ (p : Row × Group). p.0) pairs))
      (all_in_set IsKey (certain_keys plan.plain plan.keys ++ map (λ (p : Row × Group). p.0) pairs)
      (certain_fit plan.plain plan.keys refl (map (λ (p : Row × Group). p.0) pairs) (keys_of IsKey gs (own_keys gs all))))
    where
      over : (ks : List Row) → AllByRecursion IsKey ks
          → AllByRecursion IsShaped (map (λ (g : Row × List Group). merged plan g.0 g.1) (map (λ k. (k, beside k (map (λ (g : Group). (g.key, g)) gs))) ks))
      over [] p = tt
      over (k ∷ ks) p = (one_shaped k (beside k (map (λ (g : Group). (g.key, g)) gs)) p.0 (kept k gs all), over ks p.1)

pub combined_shaped : (plan : Plan) (cut : Cut) (cells : List Cell) → AreFitting plan cut cells → IsSoundPlan plan → AreGroupsOf plan (merged_groups plan (all_groups cells))
combined_shaped plan cut cells fitting sound = record {
  typed = sound.over_groups;
  shaped = All-from_recursion (λ g. is_group_of plan g ≡ true) (merged_groups plan (all_groups cells)) (groups_merged plan (all_groups cells) (cells_shaped plan cut 0 cells fitting.each));
}
