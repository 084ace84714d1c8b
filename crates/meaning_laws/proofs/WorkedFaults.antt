-- Worked examples: which of several faults is reported, and which are not met.
use Rattle.std.specs.Prelude.{◌≡◌, [], ◌∷◌, Some, codes}
use Rattle.std.specs.Fmt.{digits}
use Rattle.meaning.specs.declared.value.Value.TheVariants.{Int}
use Rattle.meaning.specs.declared.expr.Expr.{Expr}
use Rattle.meaning.specs.declared.expr.Expr.TheVariants as node
use Rattle.meaning.proofs.Evaluation.{evaluation}
use Rattle.meaning.specs.declared.expr.ArithmeticOperator.TheVariants.{Subtract, Multiply, Divide}
use Rattle.meaning.specs.declared.expr.ComparisonOperator.TheVariants.{Equal, NotEqual}
use Rattle.meaning.specs.declared.plan.AggregateKind.TheVariants.{Sum}
use Rattle.meaning.specs.declared.plan.Plan.{Plan}
use Rattle.meaning_laws.proofs.WorkedTables.{a, b, greatest, sales, id, q, p, t, number, compare, compute, agg, count_rows, key, item, totals, listing, whole, Prints, count_plan}

-- 1 / 0
abbrev divided : Expr
divided = compute (number 1) Divide (number 0)

-- 1 / 0 = 1
abbrev faulty : Expr
faulty = compare divided Equal (number 1)

-- ---- within a row

-- SELECT SUM(p / 0) FROM sales WHERE id = 5 GROUP BY p * 2: the keys come before the arguments
keys_first : whole (record (totals (agg Sum (compute p Divide (number 0)) ∷ [])
    (item (codes "c1") (node.Aggregate 0) ∷ [])) {
      keys = key (compute p Multiply (number 2)) ∷ [];
      conjuncts =
          compare id Equal (number 5) ∷ [];
    }) sales [] ≡ codes "arithmetic: overflow at row 4\n"
unfolding digits
keys_first = simp evaluation

-- SELECT COUNT(*) FROM sales WHERE id = 5 AND 1 / 0 = 1 GROUP BY p * 2: the conditions come before the keys
conditions_first : whole (record count_plan {
  keys = key (compute p Multiply (number 2)) ∷ [];
  conjuncts =
      compare id Equal (number 5) ∷ faulty ∷ [];
}) sales [] ≡ codes "arithmetic: division by zero at row 4\n"
unfolding digits
conditions_first = simp evaluation

-- SELECT p * 2, 1 / 0 FROM sales WHERE id = 5, and with the items turned: the keys from left to right
first_key : whole (record (listing (key (compute p Multiply (number 2)) ∷ key divided ∷ [])
    (item (codes "c1") (node.Key 0) ∷ item (codes "c2") (node.Key 1) ∷ [])) {
      conjuncts =
          compare id Equal (number 5) ∷ [];
    }) sales [] ≡ codes "arithmetic: overflow at row 4\n"
unfolding digits
first_key = simp evaluation

second_key : whole (record (listing (key divided ∷ key (compute p Multiply (number 2)) ∷ [])
    (item (codes "c1") (node.Key 0) ∷ item (codes "c2") (node.Key 1) ∷ [])) {
      conjuncts =
          compare id Equal (number 5) ∷ [];
    }) sales [] ≡ codes "arithmetic: division by zero at row 4\n"
unfolding digits
second_key = simp evaluation

-- SELECT SUM(p * 2), SUM(1 / 0) FROM sales WHERE id = 5: the arguments from left to right
first_argument : whole (record (totals (agg Sum (compute p Multiply (number 2)) ∷ agg Sum divided ∷ [])
    (item (codes "c1") (node.Aggregate 0) ∷ [])) { conjuncts = compare id Equal (number 5) ∷ [] }) sales []
    ≡ codes "arithmetic: overflow at row 4\n"
unfolding digits
first_argument = simp evaluation

-- SELECT COUNT(*) FROM sales WHERE q = 99 AND p / 0 = 1: no condition follows one that is FALSE or UNKNOWN
conditions_stop : whole (record count_plan {
  conjuncts =
      compare q Equal (number 99) ∷ compare (compute p Divide (number 0)) Equal (number 1) ∷ [];
}) sales []
    ≡ codes "c1\n0\n"
unfolding digits
conditions_stop = simp evaluation

-- SELECT COUNT(*) FROM sales WHERE NOT (q = 99 AND p / 0 = 1): within an expression AND goes on behind UNKNOWN
and_goes_on : whole (record count_plan {
  conjuncts =
      node.Not (node.And (compare q Equal (number 99)) (compare (compute p Divide (number 0)) Equal (number 1)))
      ∷ [];
}) sales [] ≡ codes "arithmetic: division by zero at row 1\n"
unfolding digits
and_goes_on = simp evaluation

-- SELECT COUNT(*) FROM sales WHERE id = 5 AND p * 2 = 1 AND 1 / 0 = 1: the conditions from left to right
first_condition : whole (record count_plan {
  conjuncts =
      compare id Equal (number 5) ∷ compare (compute p Multiply (number 2)) Equal (number 1) ∷ faulty ∷ [];
}) sales []
    ≡ codes "arithmetic: overflow at row 4\n"
unfolding digits
first_condition = simp evaluation

-- ---- over groups

-- SELECT t, SUM(p) FROM sales GROUP BY t
abbrev sum_p_by_t : Plan
sum_p_by_t = record (totals (agg Sum p ∷ [])
    (item (codes "t") (node.Key 0) ∷ item (codes "c2") (node.Aggregate 0) ∷ [])) { keys = key t ∷ [] }

sum_of_a_group : whole sum_p_by_t sales [] ≡ codes "arithmetic: sum out of range\n"
unfolding digits
sum_of_a_group = simp evaluation

-- the same WHERE 10 / (id - 5) <> 99: a row's fault comes before any group's
row_before_groups : Prints (record sum_p_by_t {
  conjuncts =
      compare (compute (number 10) Divide (compute id Subtract (number 5))) NotEqual (number 99) ∷ [];
}) sales []
    (2 ∷ 3 ∷ []) (4 ∷ 1 ∷ []) (codes "arithmetic: division by zero at row 4\n")
unfolding digits
row_before_groups = (simp evaluation, simp evaluation, simp evaluation)

-- the same HAVING 1 / 0 = 1: the group of NULL comes before that of 'a'
group_by_group : whole (record sum_p_by_t { having = Some faulty }) sales [] ≡ codes "arithmetic: division by zero\n"
unfolding digits
group_by_group = simp evaluation

-- the same WHERE t = 'a': in a group the aggregates come before HAVING
aggregates_before_having : whole
    (record sum_p_by_t { having = Some faulty; conjuncts = compare t Equal (node.Literal a) ∷ [] }) sales []
    ≡ codes "arithmetic: sum out of range\n"
unfolding digits
aggregates_before_having = simp evaluation

-- also before a HAVING that would drop the group: SELECT t, SUM(p) FROM sales GROUP BY t HAVING t = 'b'
aggregates_of_a_dropped_group : whole
    (record sum_p_by_t { having = Some (compare (node.Key 0) Equal (node.Literal b)) }) sales []
    ≡ codes "arithmetic: sum out of range\n"
unfolding digits
aggregates_of_a_dropped_group = simp evaluation

-- SELECT 9223372036854775807 * 2 FROM sales HAVING 1 / 0 = 1: HAVING comes before the items
having_before_items : whole (record
    (totals [] (item (codes "c1") (compute (node.Literal (Int greatest)) Multiply (number 2)) ∷ [])) {
      having =
          Some faulty;
    }) sales [] ≡ codes "arithmetic: division by zero\n"
unfolding digits
having_before_items = simp evaluation

-- SELECT 9223372036854775807 * COUNT(*), 1 / 0 FROM sales: the items from left to right
items_in_order : whole (totals (count_rows ∷ [])
    (item (codes "c1") (compute (node.Literal (Int greatest)) Multiply (node.Aggregate 0)) ∷ item (codes "c2") divided
    ∷ [])) sales [] ≡ codes "arithmetic: overflow\n"
unfolding digits
items_in_order = simp evaluation

-- SELECT 1 / 0, 9223372036854775807 * COUNT(*) FROM sales
items_turned : whole (totals (count_rows ∷ [])
    (item (codes "c1") divided ∷ item (codes "c2") (compute (node.Literal (Int greatest)) Multiply (node.Aggregate 0))
    ∷ [])) sales [] ≡ codes "arithmetic: division by zero\n"
unfolding digits
items_turned = simp evaluation
