-- Worked examples: groups, aggregates, order and what is printed.
use Rattle.std.specs.Prelude.{◌≡◌, pos, negsuc, true, false, [], ◌∷◌, Some, Ok, Err, codes}
use Rattle.std.specs.Fmt.{digits}
use Rattle.std.proofs.Common.{refl}
use Rattle.meaning.specs.declared.value.Value.TheVariants.{Null, Int, Text}
use Rattle.meaning.specs.declared.expr.Expr.TheVariants as node
use Rattle.meaning.proofs.Evaluation.{evaluation}
use Rattle.meaning.specs.declared.expr.ComparisonOperator.TheVariants.{Equal, Greater}
use Rattle.meaning.specs.declared.plan.AggregateKind.TheVariants.{Count, Sum, Min, Max, Avg}
use Rattle.meaning.specs.Aggregate.{aggregate}
use Rattle.meaning.specs.Print.{record_text}
use Rattle.meaning_laws.proofs.WorkedTables.{a, b, greatest, sales, id, s, q, t, number, compare, agg, count_rows, key, item, totals, listing, whole, Prints, two_totals, by_t, by_region, n}

-- ---- order

-- SELECT t, SUM(q) FROM sales GROUP BY t ORDER BY 2 DESC, and ORDER BY 2: NULL comes last under DESC, else first
sums_down : whole (record by_t { order = record { item = 1; descending = true } ∷ [] }) sales []
    ≡ codes "t,c2\n\\N,4\na,3\nb,\\N\n"
unfolding digits
sums_down = simp evaluation

sums_up : whole (record by_t { order = record { item = 1; descending = false } ∷ [] }) sales []
    ≡ codes "t,c2\nb,\\N\na,3\n\\N,4\n"
unfolding digits
sums_up = simp evaluation

-- ORDER BY t DESC
keys_down : whole (record by_t { order = record { item = 0; descending = true } ∷ [] }) sales []
    ≡ codes "t,c2\nb,\\N\na,3\n\\N,4\n"
unfolding digits
keys_down = simp evaluation

-- SELECT t, id FROM sales ORDER BY t DESC: where the keys are equal, by the whole row and not under DESC
ties_by_row : whole (record (listing (key t ∷ key id ∷ [])
    (item (codes "t") (node.Key 0) ∷ item (codes "id") (node.Key 1) ∷ [])) {
      order =
          record { item = 0; descending = true } ∷ [];
    }) sales [] ≡ codes "t,id\nb,2\na,1\na,3\na,5\n\\N,4\n"
unfolding digits
ties_by_row = simp evaluation

-- ORDER BY t DESC, id DESC LIMIT 3
two_order_keys : whole (record (listing (key t ∷ key id ∷ [])
    (item (codes "t") (node.Key 0) ∷ item (codes "id") (node.Key 1) ∷ [])) {
      order =
          record { item = 0; descending = true } ∷ record { item = 1; descending = true } ∷ [];
      limit = Some 3;
    }) sales []
    ≡ codes "t,id\nb,2\na,5\na,3\n"
unfolding digits
two_order_keys = simp evaluation

-- SELECT s FROM sales LIMIT 9: no ORDER BY, and more than there are
limit_past_the_end : whole (record
    (listing (key s ∷ []) (item (codes "s") (node.Key 0) ∷ [])) { limit = Some 9 }) sales []
    ≡ codes "s\n\\N\n10\n10\n20\n30\n"
unfolding digits
limit_past_the_end = simp evaluation

-- ---- groups over no rows

-- SELECT t, SUM(q) FROM sales GROUP BY t
no_groups : Prints by_t [] [] (0 ∷ []) (0 ∷ 0 ∷ []) (codes "t,c2\n")
unfolding digits
no_groups = (refl, refl, refl)

-- SELECT id FROM sales
no_rows : Prints (listing (key id ∷ []) (item (codes "id") (node.Key 0) ∷ [])) [] [] (0 ∷ []) (0 ∷ 0 ∷ [])
    (codes "id\n")
unfolding digits
no_rows = (refl, refl, refl)

-- SELECT COUNT(*), SUM(q) FROM sales WHERE id > 9: one group also where every row is dropped
all_dropped : Prints (record two_totals { conjuncts = compare id Greater (number 9) ∷ [] }) sales [] (2 ∷ 3 ∷ [])
    (5 ∷ []) (codes "c1,c2\n0,\\N\n")
unfolding digits
all_dropped = (simp evaluation, simp evaluation, simp evaluation)

-- SELECT 1 FROM sales HAVING 1 = 1, and HAVING 1 = NULL
having_alone : Prints (record (totals [] (item (codes "c1") (number 1) ∷ [])) {
  having =
      Some (compare (number 1) Equal (number 1));
}) [] [] (0 ∷ []) (0 ∷ 0 ∷ []) (codes "c1\n1\n")
unfolding digits
having_alone = (simp evaluation, simp evaluation, simp evaluation)

having_unknown : Prints (record
    (totals [] (item (codes "c1") (number 1) ∷ [])) {
      having =
          Some (compare (number 1) Equal (node.Literal Null));
    }) [] [] (0 ∷ []) (0 ∷ 0 ∷ []) (codes "c1\n")
unfolding digits
having_unknown = (simp evaluation, simp evaluation, simp evaluation)

-- ---- aggregates

-- SELECT COUNT(*), COUNT(q), SUM(q), MIN(q), MAX(q), AVG(q) FROM sales
all_kinds : Prints (totals (count_rows ∷ agg Count q ∷ agg Sum q ∷ agg Min q ∷ agg Max q ∷ agg Avg q ∷ [])
    (item (codes "c1") (node.Aggregate 0) ∷ item (codes "c2") (node.Aggregate 1) ∷ item (codes "c3") (node.Aggregate 2)
    ∷ item (codes "c4") (node.Aggregate 3) ∷ item (codes "c5") (node.Aggregate 4)
    ∷ item (codes "c6") (node.Aggregate 5) ∷ [])) sales [] (2 ∷ 3 ∷ []) (1 ∷ 4 ∷ [])
    (codes "c1,c2,c3,c4,c5,c6\n5,4,7,0,4,1\n")
unfolding digits
all_kinds = (simp evaluation, simp evaluation, simp evaluation)

-- each over NULLs alone
count_of_nulls : aggregate Count (Null ∷ Null ∷ []) ≡ Ok (Int (pos 0))
count_of_nulls = refl

sum_of_nulls : aggregate Sum (Null ∷ Null ∷ []) ≡ Ok Null
sum_of_nulls = refl

min_of_nulls : aggregate Min (Null ∷ Null ∷ []) ≡ Ok Null
min_of_nulls = refl

max_of_nulls : aggregate Max (Null ∷ Null ∷ []) ≡ Ok Null
max_of_nulls = refl

avg_of_nulls : aggregate Avg (Null ∷ Null ∷ []) ≡ Ok Null
avg_of_nulls = refl

-- AVG rounds towards zero, and leaves NULL out
avg_negative : aggregate Avg (Int (negsuc 6) ∷ Null ∷ Int (pos 2) ∷ []) ≡ Ok (Int (negsuc 1))
avg_negative = refl

-- AVG of a sum outside 64 bits is no fault; SUM is, on both sides
avg_past_64_bits : aggregate Avg (Int greatest ∷ Int greatest ∷ []) ≡ Ok (Int greatest)
avg_past_64_bits = refl

sum_past_64_bits : aggregate Sum (Int greatest ∷ Int greatest ∷ []) ≡ Err 3
sum_past_64_bits = refl

sum_below_64_bits : aggregate Sum (Int (negsuc 9223372036854775807) ∷ Int (negsuc 0) ∷ []) ≡ Err 3
sum_below_64_bits = refl

least_sum : aggregate Sum (Int (negsuc 9223372036854775807) ∷ []) ≡ Ok (Int (negsuc 9223372036854775807))
least_sum = refl

min_of_texts : aggregate Min (b ∷ Null ∷ a ∷ []) ≡ Ok a
min_of_texts = refl

max_of_texts : aggregate Max (a ∷ b ∷ Null ∷ []) ≡ Ok b
max_of_texts = refl

-- ---- joins

-- SELECT COUNT(*) FROM sales JOIN store ON s = k, where each store's key is NULL: NULL meets nothing
null_meets_nothing : whole (record by_region { keys = []; items = item (codes "c1") (node.Aggregate 0) ∷ [] }) sales
    (((Null ∷ Text (codes "x") ∷ []) ∷ (Null ∷ Null ∷ []) ∷ []) ∷ []) ≡ codes "c1\n0\n"
unfolding digits
null_meets_nothing = simp evaluation

-- ---- what is printed

quoted_fields : record_text (codes "a,b" ∷ codes "x\"y" ∷ [] ∷ codes "z" ∷ []) ≡ codes "\"a,b\",\"x\"\"y\",,z\n"
quoted_fields = refl

quoted_line_ends : record_text ((97 ∷ 13 ∷ []) ∷ (10 ∷ 98 ∷ []) ∷ [])
    ≡ 34 ∷ 97 ∷ 13 ∷ 34 ∷ 44 ∷ 34 ∷ 10 ∷ 98 ∷ 34 ∷ 10 ∷ []
quoted_line_ends = refl

one_empty_field : record_text ([] ∷ []) ≡ codes "\"\"\n"
one_empty_field = refl

-- SELECT '' FROM n LIMIT 1
one_empty_text : whole (record (listing (key (node.Literal (Text [])) ∷ [])
    (item (codes "c1") (node.Key 0) ∷ [])) { limit = Some 1 }) n [] ≡ codes "c1\n\"\"\n"
unfolding digits
one_empty_text = simp evaluation

-- SELECT -9223372036854775808, -1, 0 FROM n LIMIT 1
signed_integers : whole (record
    (listing (key (node.Literal (Int (negsuc 9223372036854775807))) ∷ key (node.Literal (Int (negsuc 0)))
    ∷ key (number 0) ∷ []) (item (codes "c1") (node.Key 0) ∷ item (codes "c2") (node.Key 1)
    ∷ item (codes "c3") (node.Key 2) ∷ [])) { limit = Some 1 }) n [] ≡ codes "c1,c2,c3\n-9223372036854775808,-1,0\n"
unfolding digits
signed_integers = simp evaluation
