-- Groups whose keys ascend already: their order is that in which they are handed out.
use Rattle.std.specs.Prelude.{◌≡◌, ℕ, ◌+◌, ◌<◌, true, false, cond, List, [], ◌∷◌, ◌++◌, length, map, reverse, All, IsPermutation}
use Rattle.std.specs.List.{list_any, range_with_len}
use Rattle.std.specs.Ordering.{eq_by_cmp, is_eq, is_lt}
use Rattle.std.specs.declared.cmp.Ordering.{Ordering}
use Rattle.std.specs.declared.cmp.Ordering.TheVariants.{Less, Equal, Greater}
use Rattle.std.proofs.Common.{refl, sym, ap, subst, ◌∙◌, arith}
use Rattle.std.proofs.lemmas.List.{append-nil, map_push}
use Rattle.std.proofs.lemmas.List.Sorted.{IsPermutation-reverse, IsPermutation-sym}
use Rattle.meaning.specs.declared.answer.Group.{Group}
use Rattle.meaning.specs.Order.{Row, row_cmp}
use Rattle.meaning.specs.Group.{beside}
use Rattle.meaning.proofs.Groups.{beside-append, beside_none}
use Rattle.meaning.proofs.Orders.{row_total}
use Rattle.accumulators.specs.Columns.{ColumnSpec}
use Rattle.group_by.specs.Combined.{IsInOrder, SameBeside}
use Rattle.group_by.specs.KeyOrder.{groups_at, AreApart, AreOrdered}
use Rattle.group_by.specs.GroupIndexes.{by_group_index}
use Rattle.group_by.proofs.Combining.{reverse_cons}
use Rattle.group_by.proofs.Sorting.{AreUp, apart_up, combined_up_is, equal_is, first_up, next_up, not_equal, range_within, rises_up}

-- each group's key comes behind this one
abbrev AreBehind : Row → List Group → Type 0
AreBehind r [] = Unit {0}
AreBehind r (g ∷ gs) = (is_lt (row_cmp r g.key) ≡ true) × AreBehind r gs

less_of : (o : Ordering) → is_lt o ≡ true → o ≡ Less
less_of Less e = refl
less_of Equal e = cc
less_of Greater e = cc

up_behind : (r : Row) (g : Group) (gs : List Group) → is_lt (row_cmp r g.key) ≡ true → AreUp (g ∷ gs) → AreBehind r (g ∷ gs)
up_behind r g [] less up = (less, tt)
up_behind r g (h ∷ hs) less up =
    let next = row_total.trans r g.key h.key (less_of (row_cmp r g.key) less) (less_of (row_cmp g.key h.key) (first_up g h hs up)) in
    (less, up_behind r h hs (ap is_lt next) (next_up g (h ∷ hs) up))

all_behind : (g : Group) (gs : List Group) → AreUp (g ∷ gs) → AreBehind g.key gs
all_behind g [] up = tt
all_behind g (h ∷ hs) up = up_behind g.key h hs (first_up g h hs up) (next_up g (h ∷ hs) up)

abbrev keyed : List Group → List (Row × Group)
keyed gs = map (λ (g : Group). (g.key, g)) gs

none_in : (k r : Row) → row_cmp k r ≡ Equal → (gs : List Group) → AreBehind r gs → list_any (eq_by_cmp row_cmp k) (map (λ (p : Row × Group). p.0) (keyed gs)) ≡ false
none_in k r same [] behind = refl
none_in k r same (g ∷ gs) behind =
    let apart : eq_by_cmp row_cmp k g.key ≡ false = ap is_eq (row_total.congr k r g.key same) ∙ not_equal (row_cmp r g.key) behind.0 in
    rw apart (none_in k r same gs behind.1)

-- those of a key are the same from either side of a group before them
either_side : (k : Row) (g : Group) (gs : List Group) → AreUp (g ∷ gs) → beside k (keyed gs) ++ beside k (keyed (g ∷ [])) ≡ beside k (keyed (g ∷ [])) ++ beside k (keyed gs)
either_side k g gs up =
    let rest = beside k (keyed gs) in
    elim (eq_by_cmp row_cmp k g.key) as (λ b. eq_by_cmp row_cmp k g.key ≡ b → rest ++ map (λ (p : Row × Group). p.1) (cond b ((g.key, g) ∷ []) []) ≡ map (λ (p : Row × Group). p.1) (cond b ((g.key, g) ∷ []) []) ++ rest) [
      | true ↦ λ e.
          let none : rest ≡ [] = beside_none k (keyed gs) (none_in k g.key (equal_is (row_cmp k g.key) e) gs (all_behind g gs up)) in
          rw none refl
      | false ↦ λ e. append-nil rest
    ] refl

pub beside_reversed : (gs : List Group) → AreUp gs → SameBeside (reverse gs) gs
beside_reversed [] up k = refl
beside_reversed (g ∷ gs) up k =
    let back : keyed (reverse (g ∷ gs)) ≡ keyed (reverse gs) ++ keyed (g ∷ []) = ap keyed (reverse_cons g gs) ∙ map_push (λ (h : Group). (h.key, h)) (reverse gs) g in
    let first : beside k (keyed (g ∷ gs)) ≡ beside k (keyed (g ∷ [])) ++ beside k (keyed gs) = beside-append k (keyed (g ∷ [])) (keyed gs) in
    let rest : beside k (keyed gs) ≡ beside k (keyed (reverse gs)) = beside_reversed gs (next_up g gs up) k in
    first ∙ sym (either_side k g gs up) ∙ ap (λ (hs : List Group). hs ++ beside k (keyed (g ∷ []))) rest
    ∙ sym (beside-append k (keyed (reverse gs)) (keyed (g ∷ []))) ∙ ap (beside k) (sym back)

-- ascending groups of a table
module _ (keys : List Row) (rows : List ℕ) (columns : List ColumnSpec) (gs : List Group) (all : gs ≡ by_group_index keys rows columns) (up : AreUp gs) where
  pub in_order_already : IsInOrder keys rows columns gs
  in_order_already = record {
    sorted = gs;
    beside = subst (λ (hs : List Group). SameBeside (reverse hs) gs) all (beside_reversed gs up);
    rises = rises_up gs up;
    moved = subst (λ (hs : List Group). IsPermutation (reverse hs) gs) all (IsPermutation-sym gs (reverse gs) (IsPermutation-reverse gs));
    are = sym (combined_up_is gs up);
  }

pub ordered_already : (keys : List Row) (order : List ℕ) → order ≡ range_with_len 0 (length keys) → AreApart keys order → AreOrdered keys order
ordered_already keys order is apart = record {
  groups = λ rows columns. in_order_already keys rows columns (groups_at keys rows columns order) (ap (groups_at keys rows columns) is) (apart_up keys rows columns order apart);
  within = subst (λ (is : List ℕ). All (λ (i : ℕ). i < length keys) is) (sym is) (range_within (length keys));
}
