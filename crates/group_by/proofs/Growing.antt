-- Tables that grow.
use Rattle.std.specs.Prelude.{◌≡◌, ◌+◌, Bool, true, false, List, [], ◌∷◌, ◌++◌, length, map, None}
use Rattle.std.proofs.Common.{refl, sym, ap, subst, ◌∙◌, arith, append_assoc, append-nil, length-append}
use Rattle.std.proofs.Math.Nat.{add_assoc}
use Rattle.std.proofs.lemmas.List.Sums.{sum_by-append}
use Rattle.meaning.specs.declared.value.ColType.TheVariants as col_type
use Rattle.meaning.specs.declared.value.Value.TheVariants.{Null}
use Rattle.meaning.specs.declared.expr.Expr.TheVariants.{Literal}
use Rattle.meaning.specs.declared.plan.AggregateKind.{AggregateKind}
use Rattle.meaning.specs.declared.plan.Aggregate.{Aggregate}
use Rattle.meaning.specs.declared.plan.Plan.{Plan}
use Rattle.meaning.specs.declared.answer.Group.{Group}
use Rattle.meaning.specs.Order.{Row}
use Rattle.meaning.specs.Group.{groups, group_of, merged_groups}
use Rattle.meaning.proofs.Groups.{merged_groups-known}
use Rattle.meaning.proofs.LiveTable.{merged_groups-turned, merged_groups-again}
use Rattle.group_by.specs.Shape.{Shape, shape_of, shape_with}
use Rattle.group_by.specs.Groups.{groups_of_rows, together, all_rows, TablesGrow}
use Rattle.group_by.proofs.Shapes.{says}

-- groups may be merged again, and in another order
pub record Grows (shape : Shape) : Type 0 where
  pub again : (gs hs : List Group) → together shape (together shape gs ++ hs) ≡ together shape (gs ++ hs)
  pub turned : (gs hs : List Group) → together shape (gs ++ hs) ≡ together shape (hs ++ gs)

module _ (plan : Plan) where
  abbrev table : List Group → List Group
  table = together (shape_of plan)

  abbrev known : List (Row × Row) → List Group
  known = groups_of_rows (shape_of plan)

  is : (gs : List Group) → table gs ≡ merged_groups plan gs
  is = (says plan).groups

  again : (gs hs : List Group) → table (table gs ++ hs) ≡ table (gs ++ hs)
  again gs hs = is (table gs ++ hs) ∙ ap (λ (x : List Group). merged_groups plan (x ++ hs)) (is gs) ∙ merged_groups-again plan gs hs ∙ sym (is (gs ++ hs))

  turned : (gs hs : List Group) → table (gs ++ hs) ≡ table (hs ++ gs)
  turned gs hs = is (gs ++ hs) ∙ merged_groups-turned plan gs hs ∙ sym (is (hs ++ gs))

  -- the second part may be merged first
  second : (gs hs : List Group) → table (gs ++ table hs) ≡ table (gs ++ hs)
  second gs hs = turned gs (table hs) ∙ again hs gs ∙ turned hs gs

  both : (gs xs ys : List Group) → table (table (gs ++ xs) ++ ys) ≡ table (gs ++ (xs ++ ys))
  both gs xs ys = again (gs ++ xs) ys ∙ ap table (append_assoc gs xs ys)

  swapped : (gs xs ys : List Group) → table (table (gs ++ xs) ++ ys) ≡ table (table (gs ++ ys) ++ xs)
  swapped gs xs ys = both gs xs ys ∙ sym (second gs (xs ++ ys)) ∙ ap (λ (h : List Group). table (gs ++ h)) (turned xs ys) ∙ second gs (ys ++ xs) ∙ sym (both gs ys xs)

  known-append : (xs ys : List (Row × Row)) → table (known xs ++ known ys) ≡ known (xs ++ ys)
  known-append xs ys =
      let own : List (Row × Row) → List Group = λ kept. map (λ (g : Row × List Row). group_of plan g.0 g.1) (groups plan kept) in
      is (known xs ++ known ys)
      ∙ (λ i. merged_groups plan ((says plan).rows xs i ++ (says plan).rows ys i))
      ∙ ap (λ (h : List Group). merged_groups plan (own xs ++ h)) (sym (append-nil (own ys)))
      ∙ merged_groups-known plan (xs ∷ ys ∷ [])
      ∙ ap own (ap (λ (h : List (Row × Row)). xs ++ h) (append-nil ys))
      ∙ sym ((says plan).rows (xs ++ ys))

  pub grow : TablesGrow plan
  grow = record {
    rows = λ gs m n xs ys. λ i. record {
      shape = shape_of plan;
      groups = (both gs (known xs) (known ys) ∙ sym (second gs (known xs ++ known ys)) ∙ ap (λ (h : List Group). table (gs ++ h)) (known-append xs ys)) i;
      rows = (add_assoc m (length xs) (length ys) ∙ ap (λ k. m + k) (sym (length-append xs ys))) i;
      handed = n;
    };
    groups = λ gs m n xs ys. λ i. record {
      shape = shape_of plan;
      groups = both gs xs ys i;
      rows = (add_assoc m (all_rows xs) (all_rows ys) ∙ ap (λ k. m + k) (sym (sum_by-append (λ (g : Group). g.rows) xs ys))) i;
      handed = (add_assoc n (length xs) (length ys) ∙ ap (λ k. n + k) (sym (length-append xs ys))) i;
    };
    turned = λ gs m n xs ys. λ i. record {
      shape = shape_of plan;
      groups = swapped gs ys (known xs) i;
      rows = (let e : m + all_rows ys + length xs ≡ m + length xs + all_rows ys = omega arith in e) i;
      handed = n + length ys;
    };
  }

  grows : Grows (shape_of plan)
  grows = record { again = again; turned = turned }

-- ---- a plan of a shape

abbrev aggregate_of : AggregateKind → Aggregate
aggregate_of kind = record { kind = kind; argument = Literal Null; col_type = col_type.Int }

abbrev plan_with : Bool → List AggregateKind → Plan
plan_with is_plain kinds = record {
  text = [];
  fact = record { name = []; columns = [] };
  joins = [];
  conjuncts = [];
  keys = [];
  aggs = map aggregate_of kinds;
  having = None;
  items = [];
  order = [];
  limit = None;
  plain = is_plain;
  distinct = false;
}

same_kinds : (kinds : List AggregateKind) → map (λ (a : Aggregate). a.kind) (map aggregate_of kinds) ≡ kinds
same_kinds [] = refl
same_kinds (kind ∷ kinds) = ap (λ (ks : List AggregateKind). kind ∷ ks) (same_kinds kinds)

pub grows_with : (is_certain : Bool) (kinds : List AggregateKind) → Grows (shape_with is_certain kinds)
grows_with true kinds = subst Grows (λ i. record { certain = [] ∷ []; kinds = same_kinds kinds i }) (grows (plan_with false kinds))
grows_with false kinds = subst Grows (λ i. record { certain = []; kinds = same_kinds kinds i }) (grows (plan_with true kinds))
