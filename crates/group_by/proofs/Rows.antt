-- Rows that go to the groups at their group indexes.
use Rattle.std.specs.Prelude.{◌≡◌, ℕ, zero, suc, ◌+◌, ◌<◌, List, [], ◌∷◌, ◌++◌, length, map, get_or, slice_set}
use Rattle.std.specs.List.{zip, enumerate_from}
use Rattle.std.proofs.Common.{refl, sym, ap, subst, ◌∙◌, arith, append_assoc, append-nil, length-set, get_or-set_same, get_or-set_other, inl, inr}
use Rattle.std.proofs.lemmas.Bool.{cases_eq}
use Rattle.meaning.specs.declared.answer.Group.{Group}
use Rattle.meaning.specs.Order.{Row}
use Rattle.meaning.specs.Group.{merge_groups}
use Rattle.aggregate_states.specs.Entries.{of_group}
use Rattle.accumulators.proofs.AtGroups.{of_group-here, of_group-other, other, other_above}
use Rattle.group_by.specs.Shape.{Shape}
use Rattle.group_by.specs.Groups.{group_of_rows, together}
use Rattle.group_by.proofs.Growing.{Grows}
use Rattle.group_by.proofs.Together.{before, IsWide, merge_groups-assoc, merge_none, of_rows-append, single, merged_at_index, states-length, zipped-length}

module _ (shape : Shape) where
  -- a group with the rows that go to its group index
  abbrev with_indexed : List (ℕ × Row) → ℕ × Group → Group
  with_indexed xs g = merge_groups g.1 (group_of_rows shape g.1.key (of_group g.0 xs))

  abbrev pub from_index : ℕ → List Group → List (ℕ × Row) → List Group
  from_index first gs xs = map (with_indexed xs) (enumerate_from first gs)

  joined : (g : Group) (x : Row) (ys : List Row)
      → merge_groups (merge_groups g (single shape (g.key, x))) (group_of_rows shape g.key ys) ≡ merge_groups g (group_of_rows shape g.key (x ∷ ys))
  joined g x ys = merge_groups-assoc g (single shape (g.key, x)) (group_of_rows shape g.key ys)
      ∙ ap (merge_groups g) (sym (of_rows-append shape g.key (x ∷ []) ys))

  -- the groups behind the group index stay
  behind : (first p : ℕ) (x : Row) (xs : List (ℕ × Row)) (gs : List Group) → p < first → from_index first gs xs ≡ from_index first gs ((p, x) ∷ xs)
  behind first p x xs [] l = refl
  behind first p x xs (g ∷ gs) l =
      λ i. merge_groups g (group_of_rows shape g.key (sym (of_group-other p first x xs (other p first l)) i)) ∷ behind (first + 1) p x xs gs (omega (arith, l)) i

  step : (first p q : ℕ) (x : Row) (xs : List (ℕ × Row)) (gs : List Group) (d : Group) → q < length gs → p ≡ first + q
      → from_index first (slice_set gs q (merge_groups (get_or gs q d) (single shape ((get_or gs q d).key, x)))) xs ≡ from_index first gs ((p, x) ∷ xs)
  step first p q x xs [] d here at = absurd (omega (arith, here))
  step first p zero x xs (g ∷ gs) d here at =
      let is_here : p ≡ first = omega (arith, at) in
      let head = joined g x (of_group first xs) ∙ ap (λ (ys : List Row). merge_groups g (group_of_rows shape g.key ys)) (sym (of_group-here p first x xs is_here)) in
      λ i. head i ∷ behind (first + 1) p x xs gs (omega (arith, at)) i
  step first p (suc q) x xs (g ∷ gs) d here at =
      λ i. merge_groups g (group_of_rows shape g.key (sym (of_group-other p first x xs (other_above p first (omega (arith, at)))) i)) ∷ step (first + 1) p q x xs gs d (omega (arith, here)) (omega (arith, at)) i

  none_from : (first : ℕ) (gs : List Group) → ((j : ℕ) (d : Group) → j < length gs → IsWide shape (get_or gs j d)) → from_index first gs [] ≡ gs
  none_from first [] wide = refl
  none_from first (g ∷ gs) wide = λ i. merge_none shape g (wide 0 g (omega arith)) i ∷ none_from (first + 1) gs (λ j d l. wide (suc j) d (omega (arith, l))) i

  wide_set : (gs : List Group) (p : ℕ) (h d : Group) → p < length gs → IsWide shape h → ((j : ℕ) (e : Group) → j < length gs → IsWide shape (get_or gs j e))
      → (j : ℕ) (e : Group) → j < length (slice_set gs p (merge_groups (get_or gs p d) h)) → IsWide shape (get_or (slice_set gs p (merge_groups (get_or gs p d) h)) j e)
  wide_set gs p h d here wide_h wide j e l =
      let merged = merge_groups (get_or gs p d) h in
      let l2 : j < length gs = subst (λ (n : ℕ). j < n) (length-set gs p merged) l in
      elim (cases_eq j p) [
        | inl at ↦ subst (λ (g : Group). IsWide shape g) (sym (ap (λ (n : ℕ). get_or (slice_set gs p merged) n e) at ∙ get_or-set_same gs p merged e here))
            (zipped-length (get_or gs p d).states h.states (length shape.kinds) (wide p d here) wide_h)
        | inr ne ↦ subst (λ (g : Group). IsWide shape g) (sym (get_or-set_other gs p j merged e ne)) (wide j e l2)
      ]

  key_set : (gs : List Group) (p : ℕ) (h d e : Group) → p < length gs → (get_or gs p d).key ≡ h.key
      → (j : ℕ) → j < length gs → (get_or (slice_set gs p (merge_groups (get_or gs p d) h)) j e).key ≡ (get_or gs j e).key
  key_set (g ∷ gs) zero h d e here same zero l = sym same
  key_set (g ∷ gs) zero h d e here same (suc j) l = refl
  key_set (g ∷ gs) (suc p) h d e here same zero l = refl
  key_set (g ∷ gs) (suc p) h d e here same (suc j) l = key_set gs p h d e (omega (arith, here)) same j (omega (arith, l))
  key_set [] p h d e here same j l = absurd (omega (arith, here))

  -- rows that go to the groups at the group indexes of their keys are rows of these keys
  module _ (grows : Grows shape) where
    pub rows_indexed : (gs : List Group) (d : Group) → ((j : ℕ) (e : Group) → j < length gs → IsWide shape (get_or gs j e))
        → (keys : List Row) (group_indexes : List ℕ) (rows : List Row) → length group_indexes ≡ length keys → length rows ≡ length keys
        → ((k : ℕ) → k < length keys → get_or group_indexes k 0 < length gs)
        → ((k : ℕ) → k < length keys → (get_or gs (get_or group_indexes k 0) d).key ≡ get_or keys k [])
        → together shape (from_index 0 gs (zip group_indexes rows)) ≡ together shape (gs ++ map (single shape) (zip keys rows))
    rows_indexed gs d wide [] [] [] long long_rows within are =
        ap (together shape) (none_from 0 gs wide ∙ sym (append-nil gs))
    rows_indexed gs d wide [] (p ∷ group_indexes) rows long long_rows within are = absurd (omega (arith, long))
    rows_indexed gs d wide [] [] (x ∷ rows) long long_rows within are = absurd (omega (arith, long_rows))
    rows_indexed gs d wide (key ∷ keys) [] rows long long_rows within are = absurd (omega (arith, long))
    rows_indexed gs d wide (key ∷ keys) (p ∷ group_indexes) [] long long_rows within are = absurd (omega (arith, long_rows))
    rows_indexed gs d wide (key ∷ keys) (p ∷ group_indexes) (x ∷ rows) long long_rows within are =
        let here : p < length gs = within 0 (omega arith) in
        let is_key : (get_or gs p d).key ≡ key = are 0 (omega arith) in
        let h : Group = single shape ((get_or gs p d).key, x) in
        let new : List Group = slice_set gs p (merge_groups (get_or gs p d) h) in
        let longer : length new ≡ length gs = length-set gs p (merge_groups (get_or gs p d) h) in
        let rest = rows_indexed new d
        (wide_set gs p h d here (states-length 0 shape.kinds (x ∷ [])) wide)
        keys group_indexes rows (omega (arith, long)) (omega (arith, long_rows))
        (λ k l. subst (λ (n : ℕ). get_or group_indexes k 0 < n) (sym longer) (within (suc k) (omega (arith, l))))
        (λ k l. key_set gs p h d d here refl (get_or group_indexes k 0) (within (suc k) (omega (arith, l))) ∙ are (suc k) (omega (arith, l))) in
        ap (together shape) (sym (step 0 p p x (zip group_indexes rows) gs d here (omega arith)))
        ∙ rest
        ∙ before shape grows (map (single shape) (zip keys rows)) new (gs ++ h ∷ []) (merged_at_index shape grows gs p h d here refl)
        ∙ ap (together shape) (append_assoc gs (h ∷ []) (map (single shape) (zip keys rows)))
        ∙ ap (λ (k : Row). together shape (gs ++ single shape (k, x) ∷ map (single shape) (zip keys rows))) is_key
