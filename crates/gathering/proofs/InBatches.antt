-- A table that takes groups part by part comes to what it is with all of them at once.
use Rattle.std.specs.Prelude.{◌≡◌, ℕ, ◌+◌, ◌<◌, Bool, true, false, cond, ◌||◌, List, [], ◌∷◌, ◌++◌, length, map, take, drop}
use Rattle.std.specs.List.{AllByRecursion, list_any}
use Rattle.std.specs.Ordering.{eq_by_cmp}
use Rattle.std.proofs.Common.{refl, sym, ap, subst, ◌∙◌, arith, append_assoc, length-append, length-drop}
use Rattle.std.proofs.Math.Nat.{add_assoc, add_comm}
use Rattle.std.proofs.lemmas.List.{map-append, take-append-drop}
use Rattle.std.proofs.lemmas.List.Elements.{All-from_recursion, recursion_from_All}
use Rattle.std.proofs.lemmas.List.Sums.{sum_by-append}
use Rattle.meaning.specs.declared.answer.Group.{Group}
use Rattle.meaning.specs.Group.{beside, merge_groups}
use Rattle.meaning.specs.Order.{Row, row_cmp, ascending_set}
use Rattle.meaning.proofs.Groups.{any_of_three, beside-append, beside-each, beside_none, map-cond, second_false}
use Rattle.meaning.proofs.LiveTable.{zipped, zipped-comm}
use Rattle.meaning.proofs.Orders.{row_exact, row_total}
use Rattle.meaning.proofs.Sets.{any-ascending_set, filter-ascending_set, same_ascending_set}
use Rattle.meaning.proofs.Tests.{list_any-append}
use Rattle.group_by.specs.Groups.{all_rows, as_one, group_of_rows, together, with_groups}
use Rattle.group_by.specs.Rows.{IsGroupOf}
use Rattle.group_by.specs.Shape.{GroupsSpec, Shape}
use Rattle.group_by.proofs.Together.{merge_groups-assoc, of_rows-append, together-at}
use Rattle.gathering.specs.Totals.{CanTake}

turned_under : (a b c : Group) → merge_groups (merge_groups a b) c ≡ merge_groups (merge_groups b a) c
turned_under a b c = λ i. record {
  key = c.key;
  rows = add_comm a.rows b.rows i + c.rows;
  states = zipped (zipped-comm a.states b.states i) c.states;
}

module _ (shape : Shape) where
  -- ---- the groups of one key as one

  as_one-key : (k : Row) (gs : List Group) → (as_one shape k gs).key ≡ k
  as_one-key k [] = refl
  as_one-key k (g ∷ gs) = as_one-key k gs

  none_more : (k : Row) (gs : List Group) → merge_groups (group_of_rows shape k []) (as_one shape k gs) ≡ as_one shape k gs
  none_more k [] = sym (of_rows-append shape k [] [])
  none_more k (g ∷ gs) =
      let none = group_of_rows shape k [] in
      sym (merge_groups-assoc none g (as_one shape k gs)) ∙ turned_under none g (as_one shape k gs)
      ∙ merge_groups-assoc g none (as_one shape k gs) ∙ ap (merge_groups g) (none_more k gs)

  as_one-append : (k : Row) (gs hs : List Group) → as_one shape k (gs ++ hs) ≡ merge_groups (as_one shape k gs) (as_one shape k hs)
  as_one-append k [] hs = sym (none_more k hs)
  as_one-append k (g ∷ gs) hs = ap (merge_groups g) (as_one-append k gs hs) ∙ sym (merge_groups-assoc g (as_one shape k gs) (as_one shape k hs))

  -- ---- all groups

  abbrev tagged : List Group → List (Row × Group)
  tagged gs = map (λ (g : Group). (g.key, g)) gs

  abbrev firsts : {X : Type 0} → List (Row × X) → List Row
  firsts ps = map (λ p. p.0) ps

  abbrev at : Row → List Group → Group
  at k gs = as_one shape k (beside k (tagged gs))

  abbrev has : Row → List Group → Bool
  has k gs = list_any (eq_by_cmp row_cmp k) (firsts (tagged gs))

  abbrev must : Row → Bool
  must k = list_any (eq_by_cmp row_cmp k) shape.certain

  abbrev keys_of : List Group → List Row
  keys_of gs = ascending_set row_cmp (shape.certain ++ firsts (tagged gs))

  same_at : (gs hs : List Group) → ((k : Row) → at k gs ≡ at k hs) → (ks : List Row) → map (λ k. at k gs) ks ≡ map (λ k. at k hs) ks
  same_at gs hs same [] = refl
  same_at gs hs same (k ∷ ks) = λ i. same k i ∷ same_at gs hs same ks i

  -- two lists of groups with the same keys, and the same at each key, come to the same
  same_together : (gs hs : List Group) → ((k : Row) → (must k || has k gs) ≡ (must k || has k hs)) → ((k : Row) → at k gs ≡ at k hs)
      → together shape gs ≡ together shape hs
  same_together gs hs keys same =
      together-at shape gs ∙ same_at gs hs same (keys_of gs)
      ∙ ap (map (λ k. at k hs)) (same_ascending_set row_total row_exact (shape.certain ++ firsts (tagged gs)) (shape.certain ++ firsts (tagged hs))
      (λ q. list_any-append (eq_by_cmp row_cmp q) shape.certain (firsts (tagged gs)) ∙ keys q
      ∙ sym (list_any-append (eq_by_cmp row_cmp q) shape.certain (firsts (tagged hs)))))
      ∙ sym (together-at shape hs)

  has-append : (k : Row) (gs hs : List Group) → has k (gs ++ hs) ≡ (has k gs || has k hs)
  has-append k gs hs =
      ap (list_any (eq_by_cmp row_cmp k)) (ap firsts (map-append (λ (g : Group). (g.key, g)) gs hs) ∙ map-append (λ (p : Row × Group). p.0) (tagged gs) (tagged hs))
      ∙ list_any-append (eq_by_cmp row_cmp k) (firsts (tagged gs)) (firsts (tagged hs))

  at-append : (k : Row) (gs hs : List Group) → at k (gs ++ hs) ≡ as_one shape k (beside k (tagged gs) ++ beside k (tagged hs))
  at-append k gs hs = ap (as_one shape k) (ap (beside k) (map-append (λ (g : Group). (g.key, g)) gs hs) ∙ beside-append k (tagged gs) (tagged hs))

  firsts-each : (f : Row → Group) (ks : List Row) → firsts (map (λ k. (k, f k)) ks) ≡ ks
  firsts-each f [] = refl
  firsts-each f (k ∷ ks) = ap (λ (js : List Row). k ∷ js) (firsts-each f ks)

  tagged-each : (f : Row → Group) → ((k : Row) → (f k).key ≡ k) → (ks : List Row) → tagged (map f ks) ≡ map (λ k. (k, f k)) ks
  tagged-each f keyed [] = refl
  tagged-each f keyed (k ∷ ks) = λ i. (keyed k i, f k) ∷ tagged-each f keyed ks i

  tagged-together : (gs : List Group) → tagged (together shape gs) ≡ map (λ k. (k, at k gs)) (keys_of gs)
  tagged-together gs = ap tagged (together-at shape gs) ∙ tagged-each (λ k. at k gs) (λ k. as_one-key k (beside k (tagged gs))) (keys_of gs)

  has-together : (k : Row) (gs : List Group) → has k (together shape gs) ≡ (must k || has k gs)
  has-together k gs =
      ap (λ (ps : List (Row × Group)). list_any (eq_by_cmp row_cmp k) (firsts ps)) (tagged-together gs)
      ∙ ap (list_any (eq_by_cmp row_cmp k)) (firsts-each (λ k. at k gs) (keys_of gs))
      ∙ any-ascending_set row_total k (shape.certain ++ firsts (tagged gs))
      ∙ list_any-append (eq_by_cmp row_cmp k) shape.certain (firsts (tagged gs))

  beside-together : (k : Row) (gs : List Group) → beside k (tagged (together shape gs)) ≡ cond (must k || has k gs) (at k gs ∷ []) []
  beside-together k gs =
      ap (beside k) (tagged-together gs) ∙ beside-each (λ k. at k gs) k (keys_of gs)
      ∙ ap (map (λ k. at k gs)) (filter-ascending_set row_total row_exact k (shape.certain ++ firsts (tagged gs)))
      ∙ map-cond (λ k. at k gs) (list_any (eq_by_cmp row_cmp k) (shape.certain ++ firsts (tagged gs))) k
      ∙ ap (λ b. cond b (at k gs ∷ []) []) (list_any-append (eq_by_cmp row_cmp k) shape.certain (firsts (tagged gs)))

  -- groups may come behind others that are one already
  again : (gs hs : List Group) → together shape (together shape gs ++ hs) ≡ together shape (gs ++ hs)
  again gs hs = same_together (together shape gs ++ hs) (gs ++ hs)
      (λ k. ap (λ b. must k || b) (has-append k (together shape gs) hs ∙ ap (λ b. b || has k hs) (has-together k gs))
      ∙ any_of_three (must k) (has k gs) (has k hs) (has k hs) refl
      ∙ ap (λ b. must k || b) (sym (has-append k gs hs)))
      (λ k. at-append k (together shape gs) hs
      ∙ ap (λ (xs : List Group). as_one shape k (xs ++ beside k (tagged hs))) (beside-together k gs)
      ∙ either k (must k || has k gs) refl ∙ sym (at-append k gs hs))
    where
      either : (k : Row) (b : Bool) → (must k || has k gs) ≡ b
          → as_one shape k (cond b (at k gs ∷ []) [] ++ beside k (tagged hs)) ≡ as_one shape k (beside k (tagged gs) ++ beside k (tagged hs))
      either k true e = sym (as_one-append k (beside k (tagged gs)) (beside k (tagged hs)))
      either k false e = ap (λ (xs : List Group). as_one shape k (xs ++ beside k (tagged hs))) (sym (beside_none k (tagged gs) (second_false (must k) (has k gs) e)))

-- ---- a table that takes two parts

pub two_parts : (t : GroupsSpec) (gs hs : List Group) → with_groups (with_groups t gs) hs ≡ with_groups t (gs ++ hs)
two_parts t gs hs = λ i. record {
  shape = t.shape;
  groups = (again t.shape (t.groups ++ gs) hs ∙ ap (together t.shape) (append_assoc t.groups gs hs)) i;
  rows = (add_assoc t.rows (all_rows gs) (all_rows hs) ∙ ap (λ n. t.rows + n) (sym (sum_by-append (λ (g : Group). g.rows) gs hs))) i;
  handed = (add_assoc t.handed (length gs) (length hs) ∙ ap (λ n. t.handed + n) (sym (length-append gs hs))) i;
}

first_part : (P : Group → Type 0) (gs hs : List Group) → AllByRecursion P (gs ++ hs) → AllByRecursion P gs
first_part P [] hs all = tt
first_part P (g ∷ gs) hs all = (all.0, first_part P gs hs all.1)

second_part : (P : Group → Type 0) (gs hs : List Group) → AllByRecursion P (gs ++ hs) → AllByRecursion P hs
second_part P [] hs all = all
second_part P (g ∷ gs) hs all = second_part P gs hs all.1

-- a table takes the first part where it takes both, and behind it the second
pub takes_first : (t : GroupsSpec) (gs hs : List Group) → CanTake t (gs ++ hs) → CanTake t gs
takes_first t gs hs all =
    let rows = sum_by-append (λ (g : Group). g.rows) gs hs in
    let many = length-append gs hs in
    let few = all.few in
    let handed = all.handed in
    record {
      fit = All-from_recursion (IsGroupOf t.shape) gs (first_part (IsGroupOf t.shape) gs hs (recursion_from_All (IsGroupOf t.shape) (gs ++ hs) all.fit));
      few = omega (arith, rows, few);
      handed = omega (arith, many, handed);
    }

takes_second : (t : GroupsSpec) (gs hs : List Group) → CanTake t (gs ++ hs) → CanTake (with_groups t gs) hs
takes_second t gs hs all =
    let rows = sum_by-append (λ (g : Group). g.rows) gs hs in
    let many = length-append gs hs in
    let few = all.few in
    let handed = all.handed in
    record {
      fit = All-from_recursion (IsGroupOf t.shape) hs (second_part (IsGroupOf t.shape) gs hs (recursion_from_All (IsGroupOf t.shape) (gs ++ hs) all.fit));
      few = omega (arith, rows, few);
      handed = omega (arith, many, handed);
    }

-- ---- batch after batch

-- the first batch may be taken
pub takes_batch : (t : GroupsSpec) (n : ℕ) (rest batch : List Group) → CanTake t rest → batch ≡ take n rest → CanTake t batch
takes_batch t n rest batch all is =
    subst (CanTake t) (sym is) (takes_first t (take n rest) (drop n rest) (subst (CanTake t) (sym (take-append-drop n rest)) all))

-- a table has taken some of the groups, and the others are left
pub record HasTaken (first : GroupsSpec) (groups : List Group) (now : GroupsSpec) (rest : List Group) : Type 0 where
  pub taken : List Group
  pub all : taken ++ rest ≡ groups
  pub is : now ≡ with_groups first taken

pub first_batch : (n : ℕ) (first now : GroupsSpec) (groups rest : List Group) → now ≡ with_groups first (take n groups) → rest ≡ drop n groups
    → HasTaken first groups now rest
first_batch n first now groups rest is left = record {
  taken = take n groups;
  all = ap (λ (gs : List Group). take n groups ++ gs) left ∙ take-append-drop n groups;
  is = is;
}

pub next_batch : (n : ℕ) (first now after : GroupsSpec) (groups rest left : List Group) → HasTaken first groups now rest
    → after ≡ with_groups now (take n rest) → left ≡ drop n rest → HasTaken first groups after left
next_batch n first now after groups rest left has more others = record {
  taken = has.taken ++ take n rest;
  all =
      append_assoc has.taken (take n rest) left
      ∙ ap (λ (gs : List Group). has.taken ++ (take n rest ++ gs)) others
      ∙ ap (λ (gs : List Group). has.taken ++ gs) (take-append-drop n rest)
      ∙ has.all;
  is = more ∙ ap (λ (t : GroupsSpec). with_groups t (take n rest)) has.is ∙ two_parts first has.taken (take n rest);
}

-- those that are left may be taken
pub takes_rest : (first now : GroupsSpec) (groups rest : List Group) → CanTake first groups → HasTaken first groups now rest → CanTake now rest
takes_rest first now groups rest all has =
    subst (λ (t : GroupsSpec). CanTake t rest) (sym has.is) (takes_second first has.taken rest (subst (CanTake first) (sym has.all) all))

pub fewer_left : (n : ℕ) (rest left : List Group) → 0 < n → 0 < length rest → left ≡ drop n rest → length left < length rest
fewer_left n rest left some more is =
    let many = ap length is in
    let dropped = length-drop n rest in
    omega (arith, many, dropped, some, more)
