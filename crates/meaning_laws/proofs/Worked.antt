-- Worked examples: what a query prints over a whole table, and what its fragments' answers print together.
use Rattle.std.specs.Prelude.{false, [], ◌∷◌, Some, codes}
use Rattle.std.specs.Fmt.{digits}
use Rattle.std.specs.Str.{chars}
use Rattle.meaning.specs.Like.{is_like}
use Rattle.meaning.specs.declared.value.Value.TheVariants.{Text}
use Rattle.meaning.specs.declared.expr.Expr.TheVariants as node
use Rattle.meaning.proofs.Evaluation.{evaluation}
use Rattle.meaning.specs.declared.expr.ArithmeticOperator.TheVariants.{Multiply, Divide}
use Rattle.meaning.specs.declared.expr.ComparisonOperator.TheVariants.{Equal, NotEqual, Less, Greater}
use Rattle.meaning.specs.declared.plan.AggregateKind.TheVariants.{Count, Avg}
use Rattle.meaning_laws.proofs.WorkedTables.{a, sales, store, id, q, p, t, number, compare, compute, agg, count_rows, key, item, totals, listing, Prints, count_plan, two_totals, sum_plan, by_t, store_join, left_join, by_region, most_common, two_items, none_of, by_zero, n}

-- ---- what they print

-- SELECT COUNT(*) FROM sales
count_of_rows : Prints count_plan sales [] (2 ∷ 3 ∷ []) (0 ∷ 5 ∷ 0 ∷ []) (codes "c1\n5\n")
unfolding digits
count_of_rows = (simp evaluation, simp evaluation, simp evaluation)

-- SELECT COUNT(*), SUM(q) FROM sales, of no rows
totals_of_no_rows : Prints two_totals [] [] (0 ∷ []) (0 ∷ 0 ∷ []) (codes "c1,c2\n0,\\N\n")
unfolding digits
totals_of_no_rows = (simp evaluation, simp evaluation, simp evaluation)

sums_by_text : Prints by_t sales [] (2 ∷ 3 ∷ []) (1 ∷ 1 ∷ 1 ∷ 1 ∷ 1 ∷ []) (codes "t,c2\n\\N,4\na,3\nb,\\N\n")
unfolding digits
sums_by_text = (simp evaluation, simp evaluation, simp evaluation)

counts_by_region : Prints by_region sales (store ∷ []) (2 ∷ 3 ∷ []) (5 ∷ []) (codes "region,c2\n\\N,1\nnorth,2\n")
unfolding digits
counts_by_region = (simp evaluation, simp evaluation, simp evaluation)

-- SELECT SUM(p / q) FROM sales: NULL in row 1 is no fault
fault_of_a_row : Prints (sum_plan (compute p Divide q) []) sales [] (2 ∷ 3 ∷ []) (1 ∷ 1 ∷ 1 ∷ 1 ∷ 1 ∷ [])
    (codes "arithmetic: division by zero at row 2\n")
unfolding digits
fault_of_a_row = (simp evaluation, simp evaluation, simp evaluation)

-- SELECT SUM(p / q) FROM sales WHERE q <> 0: of 2, 0 and the greatest integer
sum_outside_64_bits : Prints (sum_plan (compute p Divide q) (compare q NotEqual (number 0) ∷ [])) sales [] (2 ∷ 3 ∷ [])
    (4 ∷ 1 ∷ []) (codes "arithmetic: sum out of range\n")
unfolding digits
sum_outside_64_bits = (simp evaluation, simp evaluation, simp evaluation)

-- SELECT SUM(p * 2) FROM sales
fault_in_the_second_fragment : Prints (sum_plan (compute p Multiply (number 2)) []) sales [] (4 ∷ 1 ∷ []) (1 ∷ 4 ∷ [])
    (codes "arithmetic: overflow at row 4\n")
unfolding digits
fault_in_the_second_fragment = (simp evaluation, simp evaluation, simp evaluation)

-- SELECT SUM(v) FROM n: the sum of a part is outside 64 bits
partial_sum_outside_64_bits : Prints (sum_plan (node.Column 0) []) n [] (2 ∷ 1 ∷ []) (1 ∷ 2 ∷ [])
    (codes "c1\n9223372036854775807\n")
unfolding digits
partial_sum_outside_64_bits = (simp evaluation, simp evaluation, simp evaluation)

-- SELECT COUNT(*) FROM sales WHERE NOT (q = 2)
not_of_unknown : Prints (record count_plan { conjuncts = node.Not (compare q Equal (number 2)) ∷ [] }) sales []
    (2 ∷ 3 ∷ []) (3 ∷ 2 ∷ []) (codes "c1\n3\n")
unfolding digits
not_of_unknown = (simp evaluation, simp evaluation, simp evaluation)

-- SELECT t FROM sales WHERE t = 'a'
repeated_rows : Prints (record (listing (key t ∷ []) (item (codes "t") (node.Key 0) ∷ [])) {
  conjuncts =
      compare t Equal (node.Literal a) ∷ [];
}) sales [] (2 ∷ 3 ∷ []) (5 ∷ []) (codes "t\na\na\na\n")
unfolding digits
repeated_rows = (simp evaluation, simp evaluation, simp evaluation)

-- SELECT t, COUNT(*) FROM sales GROUP BY t ORDER BY 2 DESC LIMIT 2
ordered_and_limited : Prints most_common sales [] (2 ∷ 3 ∷ []) (0 ∷ 5 ∷ []) (codes "t,c2\na,3\n\\N,1\n")
unfolding digits
ordered_and_limited = (simp evaluation, simp evaluation, simp evaluation)

-- SELECT p * 2, p / q FROM sales: row 2 comes before row 4
least_fault_first : Prints (two_items []) sales [] (2 ∷ 3 ∷ []) (4 ∷ 1 ∷ [])
    (codes "arithmetic: division by zero at row 2\n")
unfolding digits
least_fault_first = (simp evaluation, simp evaluation, simp evaluation)

-- the same WHERE q <> 0
least_fault_of_kept_rows : Prints (two_items (compare q NotEqual (number 0) ∷ [])) sales [] (2 ∷ 3 ∷ []) (4 ∷ 1 ∷ [])
    (codes "arithmetic: overflow at row 4\n")
unfolding digits
least_fault_of_kept_rows = (simp evaluation, simp evaluation, simp evaluation)

-- SELECT AVG(q), AVG(p) FROM sales WHERE q <> 0
averages : Prints (record (totals (agg Avg q ∷ agg Avg p ∷ [])
    (item (codes "c1") (node.Aggregate 0) ∷ item (codes "c2") (node.Aggregate 1) ∷ [])) {
      conjuncts =
          compare q NotEqual (number 0) ∷ [];
    }) sales [] (2 ∷ 3 ∷ []) (4 ∷ 1 ∷ []) (codes "c1,c2\n2,3074457345618258604\n")
unfolding digits
averages = (simp evaluation, simp evaluation, simp evaluation)

-- SELECT SUM(CASE WHEN q <> 0 THEN p / q ELSE 0 END) FROM sales WHERE id < 5
case_leaves_the_fault_out : Prints
    (sum_plan (node.Case (record { when = compare q NotEqual (number 0); then = compute p Divide q } ∷ []) (number 0))
    (compare id Less (number 5) ∷ [])) sales [] (2 ∷ 3 ∷ []) (4 ∷ 1 ∷ []) (codes "c1\n2\n")
unfolding digits
case_leaves_the_fault_out = (simp evaluation, simp evaluation, simp evaluation)

-- SELECT id FROM sales LIMIT 0
limit_of_0 : Prints (none_of (codes "id") id) sales [] (2 ∷ 3 ∷ []) (5 ∷ []) (codes "id\n")
unfolding digits
limit_of_0 = (simp evaluation, simp evaluation, simp evaluation)

-- SELECT p * 2 FROM sales LIMIT 0
limit_hides_no_fault : Prints (none_of (codes "c1") (compute p Multiply (number 2))) sales [] (2 ∷ 3 ∷ []) (5 ∷ [])
    (codes "arithmetic: overflow at row 4\n")
unfolding digits
limit_hides_no_fault = (simp evaluation, simp evaluation, simp evaluation)

-- SELECT region FROM sales, store WHERE s = k
joined_rows : Prints (record (listing (key (node.Joined 0 1) ∷ []) (item (codes "region") (node.Key 0) ∷ [])) {
  joins =
      store_join ∷ [];
}) sales (store ∷ []) (2 ∷ 3 ∷ []) (3 ∷ 2 ∷ []) (codes "region\n\\N\nnorth\nnorth\n")
unfolding digits
joined_rows = (simp evaluation, simp evaluation, simp evaluation)

-- SELECT region, COUNT(*) FROM sales LEFT JOIN store ON s = k GROUP BY region
left_rows_stay : Prints (record by_region { joins = left_join ∷ [] }) sales (store ∷ []) (2 ∷ 3 ∷ []) (1 ∷ 4 ∷ [])
    (codes "region,c2\n\\N,3\nnorth,2\n")
unfolding digits
left_rows_stay = (simp evaluation, simp evaluation, simp evaluation)

-- SELECT id FROM sales LEFT JOIN store ON s = k WHERE k IS NULL
left_rows_without_a_key : Prints (record (listing (key id ∷ []) (item (codes "id") (node.Key 0) ∷ [])) {
  joins = left_join ∷ [];
  conjuncts = node.IsNull false (node.Joined 0 0) ∷ [];
}) sales (store ∷ []) (2 ∷ 3 ∷ []) (1 ∷ 4 ∷ []) (codes "id\n4\n5\n")
unfolding digits
left_rows_without_a_key = (simp evaluation, simp evaluation, simp evaluation)

-- SELECT COUNT(*) FROM sales LEFT JOIN store ON s = k WHERE s = k
left_rows_by_condition : Prints (record count_plan {
  joins = left_join ∷ [];
  conjuncts = compare (node.Column 1) Equal (node.Joined 0 0) ∷ [];
}) sales (store ∷ []) (2 ∷ 3 ∷ []) (5 ∷ []) (codes "c1\n3\n")
unfolding digits
left_rows_by_condition = (simp evaluation, simp evaluation, simp evaluation)

-- SELECT t FROM sales GROUP BY t HAVING COUNT(q) > 0
having_a_count : Prints (record
    (totals (agg Count q ∷ []) (item (codes "t") (node.Key 0) ∷ [])) {
      keys = key t ∷ [];
      having =
          Some (compare (node.Aggregate 0) Greater (number 0));
    }) sales [] (2 ∷ 3 ∷ []) (1 ∷ 4 ∷ []) (codes "t\n\\N\na\n")
unfolding digits
having_a_count = (simp evaluation, simp evaluation, simp evaluation)

-- SELECT t FROM sales WHERE t LIKE '_'
like_one_character : Prints (record
    (listing (key t ∷ []) (item (codes "t") (node.Key 0) ∷ [])) {
      conjuncts =
          node.Like false t (codes "_") ∷ [];
    }) sales [] (2 ∷ 3 ∷ []) (5 ∷ []) (codes "t\na\na\na\nb\n")
unfolding digits is_like chars
like_one_character = (simp evaluation, simp evaluation, simp evaluation)

-- SELECT id, COUNT(*) FROM sales GROUP BY id
counts_by_id : Prints (record (totals (count_rows ∷ [])
    (item (codes "id") (node.Key 0) ∷ item (codes "c2") (node.Aggregate 0) ∷ [])) { keys = key id ∷ [] }) sales []
    (2 ∷ 3 ∷ []) (3 ∷ 2 ∷ []) (codes "id,c2\n1,1\n2,1\n3,1\n4,1\n5,1\n")
unfolding digits
counts_by_id = (simp evaluation, simp evaluation, simp evaluation)

-- SELECT id FROM sales, store WHERE s = k
ids_of_known_stores : Prints (record
    (listing (key id ∷ []) (item (codes "id") (node.Key 0) ∷ [])) { joins = store_join ∷ [] }) sales (store ∷ [])
    (2 ∷ 3 ∷ []) (1 ∷ 4 ∷ []) (codes "id\n1\n2\n3\n")
unfolding digits
ids_of_known_stores = (simp evaluation, simp evaluation, simp evaluation)

-- SELECT a.region AS x, b.region AS y FROM sales, store AS a, store AS b WHERE s = a.k AND b.k = s
one_dimension_twice : Prints (record
    (listing (key (node.Joined 0 1) ∷ key (node.Joined 1 1) ∷ [])
    (item (codes "x") (node.Key 0) ∷ item (codes "y") (node.Key 1) ∷ [])) {
      joins =
          store_join ∷ store_join ∷ [];
    }) sales (store ∷ store ∷ []) (2 ∷ 3 ∷ []) (5 ∷ [])
    (codes "x,y\n\\N,\\N\nnorth,north\nnorth,north\n")
unfolding digits
one_dimension_twice = (simp evaluation, simp evaluation, simp evaluation)

-- SELECT SUM(p * 2) FROM sales JOIN store ON s = k
dropped_row_has_no_fault : Prints
    (record (sum_plan (compute p Multiply (number 2)) []) { joins = store_join ∷ [] }) sales (store ∷ []) (2 ∷ 3 ∷ [])
    (5 ∷ []) (codes "c1\n42\n")
unfolding digits
dropped_row_has_no_fault = (simp evaluation, simp evaluation, simp evaluation)

-- SELECT t, COUNT(*) / 0 FROM sales GROUP BY t HAVING t = 'z'
fault_of_a_dropped_group : Prints
    (record (by_zero) { having = Some (compare (node.Key 0) Equal (node.Literal (Text (codes "z")))) }) sales []
    (2 ∷ 3 ∷ []) (5 ∷ []) (codes "t,c2\n")
unfolding digits
fault_of_a_dropped_group = (simp evaluation, simp evaluation, simp evaluation)

-- SELECT t, COUNT(*) / 0 FROM sales GROUP BY t LIMIT 0
limit_hides_no_final_fault : Prints (record (by_zero) { limit = Some 0 }) sales [] (2 ∷ 3 ∷ []) (5 ∷ [])
    (codes "arithmetic: division by zero\n")
unfolding digits
limit_hides_no_final_fault = (simp evaluation, simp evaluation, simp evaluation)
