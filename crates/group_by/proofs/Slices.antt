-- Groups at some group indexes, read one by one.
use Rattle.std.proofs.Common.{◌≡◌, ℕ, ◌<◌, List, length, map, get_or, All, sym, ap, subst, ◌∙◌}
use Rattle.std.proofs.lemmas.List.{get_or-map, length-map}
use Rattle.meaning.specs.declared.answer.Group.{Group}
use Rattle.meaning.specs.Aggregate.{no_statistics}
use Rattle.meaning.specs.Order.{Row}
use Rattle.accumulators.specs.Columns.{ColumnSpec, no_column}
use Rattle.group_by.specs.GroupIndexes.{state_at, state_in}
use Rattle.group_by.specs.KeyOrder.{group_in, groups_at, AreThere}

module _ (keys : List Row) (rows : List ℕ) (columns : List ColumnSpec) (groups : List Group) (order : List ℕ) (are : AreThere keys rows columns order) (view : groups_at keys rows columns order ≡ groups)
    (k i : ℕ) (here : k < length groups) (is : (d : ℕ) → i ≡ get_or order k d) where
  inside : k < length order
  inside = subst (λ n. k < n) (sym (ap length view) ∙ length-map order (group_in keys rows columns)) here

  pub in_keys : i < length keys
  in_keys = subst (λ (n : ℕ). n < length keys) (sym (is i)) (are.within k i inside)

  -- the group there is that of the key there
  pub group_there : (d : Group) → group_in keys rows columns i ≡ get_or groups k d
  group_there d = ap (group_in keys rows columns) (is i) ∙ sym (get_or-map (group_in keys rows columns) order k i d inside) ∙ ap (λ (gs : List Group). get_or gs k d) view

  pub columns_there : (aggregate : ℕ) → ((d : Group) → aggregate < length (get_or groups k d).states) → aggregate < length columns
  columns_there aggregate below =
      let d = group_in keys rows columns i in
      subst (λ n. aggregate < n) (ap (λ (g : Group). length g.states) (sym (group_there d)) ∙ length-map columns (λ c. state_in c i)) (below d)

  pub state_there : (aggregate : ℕ) → aggregate < length columns → (d : Group) → state_at columns aggregate i ≡ get_or (get_or groups k d).states aggregate no_statistics
  state_there aggregate below d =
      sym (get_or-map (λ c. state_in c i) columns aggregate no_column no_statistics below) ∙ ap (λ (g : Group). get_or g.states aggregate no_statistics) (group_there d)
