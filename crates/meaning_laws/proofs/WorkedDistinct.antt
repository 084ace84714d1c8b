-- Worked examples: DISTINCT.
use Rattle.std.specs.Prelude.{◌≡◌, pos, negsuc, [], ◌∷◌, Some, Ok, Err, codes, true}
use Rattle.std.specs.Fmt.{digits}
use Rattle.std.proofs.Common.{refl}
use Rattle.meaning.specs.declared.value.Value.TheVariants.{Null, Int}
use Rattle.meaning.specs.declared.expr.Expr.TheVariants as node
use Rattle.meaning.specs.declared.expr.ArithmeticOperator.TheVariants.{Divide}
use Rattle.meaning.specs.declared.plan.AggregateKind.TheVariants.{CountDistinct, SumDistinct}
use Rattle.meaning.specs.declared.plan.Plan.{Plan}
use Rattle.meaning.specs.Aggregate.{aggregate, kept_by, merge, no_statistics, statistics, value}
use Rattle.meaning.proofs.Evaluation.{evaluation}
use Rattle.meaning_laws.proofs.WorkedTables.{a, b, greatest, sales, s, q, p, t, number, compute, agg, count_rows, key, item, totals, listing, Prints}

-- SELECT COUNT(DISTINCT t), SUM(DISTINCT s) FROM sales: 10 stands twice, in one fragment and in two
different_entries : Prints (totals (agg CountDistinct t ∷ agg SumDistinct s ∷ [])
    (item (codes "c1") (node.Aggregate 0) ∷ item (codes "c2") (node.Aggregate 1) ∷ [])) sales [] (1 ∷ 4 ∷ [])
    (2 ∷ 3 ∷ []) (codes "c1,c2\n2,60\n")
unfolding digits
different_entries = (simp evaluation, simp evaluation, simp evaluation)

-- SELECT DISTINCT t FROM sales LIMIT 2: equal rows are one before LIMIT
different_rows : Prints (record (listing (key t ∷ []) (item (codes "t") (node.Key 0) ∷ [])) {
  limit = Some 2;
  distinct = true;
}) sales [] (1 ∷ 4 ∷ []) (5 ∷ []) (codes "t\n\\N\na\n")
unfolding digits
different_rows = (simp evaluation, simp evaluation, simp evaluation)

-- SELECT DISTINCT COUNT(*) FROM sales GROUP BY s: NULL, 20 and 30 have one row each
different_counts : Prints (record (totals (count_rows ∷ []) (item (codes "c1") (node.Aggregate 0) ∷ [])) {
  keys = key s ∷ [];
  distinct = true;
}) sales [] (1 ∷ 4 ∷ []) (5 ∷ []) (codes "c1\n1\n2\n")
unfolding digits
different_counts = (simp evaluation, simp evaluation, simp evaluation)

-- SELECT DISTINCT p / q FROM sales: a fault of one row is the query's
fault_of_a_repeated_row : Prints (record (listing (key (compute p Divide q) ∷ [])
    (item (codes "c1") (node.Key 0) ∷ [])) { distinct = true }) sales [] (1 ∷ 4 ∷ []) (5 ∷ [])
    (codes "arithmetic: division by zero at row 2\n")
unfolding digits
fault_of_a_repeated_row = (simp evaluation, simp evaluation, simp evaluation)

-- ---- the set of some entries

-- NULL is in no set
null_counts_nothing : aggregate CountDistinct (Null ∷ Int (pos 3) ∷ Null ∷ Int (pos 3) ∷ []) ≡ Ok (Int (pos 1))
null_counts_nothing = refl

none_to_count : aggregate CountDistinct (Null ∷ []) ≡ Ok (Int (pos 0))
none_to_count = refl

none_to_sum : aggregate SumDistinct (Null ∷ []) ≡ Ok Null
none_to_sum = refl

-- the sum is out of range only where that of the different entries is
repeated_greatest : aggregate SumDistinct (Int greatest ∷ Int greatest ∷ []) ≡ Ok (Int greatest)
repeated_greatest = refl

sum_past_64_bits : aggregate SumDistinct (Int greatest ∷ Int (pos 1) ∷ []) ≡ Err 3
sum_past_64_bits = refl

-- an entry of two fragments counts once
entry_of_two_fragments : value SumDistinct (merge (kept_by SumDistinct (statistics (Int (pos 3) ∷ Int (negsuc 0) ∷ [])))
    (kept_by SumDistinct (statistics (Int (pos 5) ∷ Int (pos 3) ∷ [])))) ≡ Ok (Int (pos 7))
entry_of_two_fragments = refl

-- what is kept is the set alone
kept_set : kept_by CountDistinct (statistics (b ∷ Null ∷ a ∷ b ∷ []))
    ≡ record no_statistics { entries = a ∷ b ∷ [] }
kept_set = refl
