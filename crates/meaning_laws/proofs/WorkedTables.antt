-- The tables, plans and prints of the worked examples.
use Rattle.std.specs.Prelude.{◌≡◌, ℕ, ℤ, pos, negsuc, true, false, List, [], ◌∷◌, map, length, Some, None, codes}
use Rattle.std.specs.List.{range_with_len}
use Rattle.meaning.specs.declared.value.Value.{Value}
use Rattle.meaning.specs.declared.value.Value.TheVariants.{Null, Int, Text}
use Rattle.meaning.specs.declared.value.ColType.TheVariants as of_type
use Rattle.meaning.specs.declared.expr.Expr.{Expr}
use Rattle.meaning.specs.declared.expr.Expr.TheVariants as node
use Rattle.meaning.specs.declared.expr.ArithmeticOperator.{ArithmeticOperator}
use Rattle.meaning.specs.declared.expr.ArithmeticOperator.TheVariants.{Multiply, Divide}
use Rattle.meaning.specs.declared.expr.ComparisonOperator.{ComparisonOperator}
use Rattle.meaning.specs.declared.plan.AggregateKind.{AggregateKind}
use Rattle.meaning.specs.declared.plan.AggregateKind.TheVariants.{CountRows, Sum}
use Rattle.meaning.specs.declared.plan.Plan.{Plan}
use Rattle.meaning.specs.declared.plan.Item.{Item}
use Rattle.meaning.specs.declared.plan.Join.{Join}
use Rattle.meaning.specs.declared.plan.JoinType.TheVariants.{Inner, Left}
use Rattle.meaning.specs.declared.plan.TableUse.{TableUse}
use Rattle.meaning.specs.declared.plan.GroupingKey.{GroupingKey}
use Rattle.meaning.specs.declared.plan.Aggregate.{Aggregate}
use Rattle.meaning.specs.Order.{Row}
use Rattle.meaning.specs.Cut.{Cut, numbered}
use Rattle.meaning.specs.Meaning.{meaning}
use Rattle.meaning.specs.Answer.{own}
use Rattle.meaning.specs.Gather.{report, joined}
use Rattle.meaning.specs.Print.{output_text, report_text}

-- ---- the tables

abbrev pub a : Value
a = Text (codes "a")

abbrev pub b : Value
b = Text (codes "b")

abbrev pub greatest : ℤ
greatest = pos 9223372036854775807

-- sales(id int, s int null, q int null, p int null, t text null)
abbrev pub sales : List Row
sales =
    (Int (pos 1) ∷ Int (pos 10) ∷ Int (pos 2) ∷ Int (pos 5) ∷ a ∷ [])
    ∷ (Int (pos 2) ∷ Int (pos 10) ∷ Null ∷ Int (pos 7) ∷ b ∷ [])
    ∷ (Int (pos 3) ∷ Int (pos 20) ∷ Int (pos 0) ∷ Int (pos 9) ∷ a ∷ [])
    ∷ (Int (pos 4) ∷ Null ∷ Int (pos 4) ∷ Int (pos 1) ∷ Null ∷ [])
    ∷ (Int (pos 5) ∷ Int (pos 30) ∷ Int (pos 1) ∷ Int greatest ∷ a ∷ [])
    ∷ []

-- store(k int key, region text null)
abbrev pub store : List Row
store = (Int (pos 10) ∷ Text (codes "north") ∷ []) ∷ (Int (pos 20) ∷ Null ∷ []) ∷ []

abbrev pub id : Expr
id = node.Column 0

abbrev pub s : Expr
s = node.Column 1

abbrev pub q : Expr
q = node.Column 2

abbrev pub p : Expr
p = node.Column 3

abbrev pub t : Expr
t = node.Column 4

-- ---- plans

abbrev pub number : ℕ → Expr
number n = node.Literal (Int (pos n))

abbrev pub compare : Expr → ComparisonOperator → Expr → Expr
compare x op y = node.Compare op x y

abbrev pub compute : Expr → ArithmeticOperator → Expr → Expr
compute x op y = node.Arithmetic op x y

abbrev pub agg : AggregateKind → Expr → Aggregate
agg kind e = record { kind = kind; argument = e; col_type = of_type.Int }

abbrev pub count_rows : Aggregate
count_rows = agg CountRows (number 1)

abbrev pub key : Expr → GroupingKey
key e = record { expr = e; col_type = of_type.Int }

abbrev pub item : List ℕ → Expr → Item
item header e = record { header = header; expr = e }

abbrev pub table : TableUse
table = record { name = []; columns = [] }

-- a grouped query without GROUP BY
abbrev pub totals : List Aggregate → List Item → Plan
totals aggs items = record {
  text = [];
  fact = table;
  joins = [];
  conjuncts = [];
  keys = [];
  aggs = aggs;
  having = None;
  items = items;
  order = [];
  limit = None;
  plain = false;
  distinct = false;
}

-- a plain query
abbrev pub listing : List GroupingKey → List Item → Plan
listing keys items = record (totals [] items) { keys = keys; plain = true }

-- ---- what is printed

-- the query over the whole table
abbrev pub whole : Plan → List Row → List (List Row) → List ℕ
whole plan rows dims = output_text plan (meaning plan dims (numbered rows))

-- the query over fragments, each of which answers
abbrev pub gathered : Plan → List Row → List (List Row) → Cut → List ℕ
gathered plan rows dims cut = report_text plan
    (report plan (joined cut (map (own plan dims cut rows) (range_with_len 0 (length cut)))))

-- the text is printed by the query over the whole table, and over the fragments of two cuts
abbrev pub Prints : Plan → List Row → List (List Row) → Cut → Cut → List ℕ → Type 0
Prints plan rows dims c d text =
    (whole plan rows dims ≡ text) × (gathered plan rows dims c ≡ text) × (gathered plan rows dims d ≡ text)

-- ---- the queries

-- SELECT COUNT(*) FROM sales
abbrev pub count_plan : Plan
count_plan = totals (count_rows ∷ []) (item (codes "c1") (node.Aggregate 0) ∷ [])

-- SELECT COUNT(*), SUM(q) FROM sales
abbrev pub two_totals : Plan
two_totals = totals (count_rows ∷ agg Sum q ∷ [])
    (item (codes "c1") (node.Aggregate 0) ∷ item (codes "c2") (node.Aggregate 1) ∷ [])

-- SELECT SUM(e) FROM .. and SELECT SUM(e) FROM .. WHERE c
abbrev pub sum_plan : Expr → List Expr → Plan
sum_plan e conjuncts = record (totals (agg Sum e ∷ []) (item (codes "c1") (node.Aggregate 0) ∷ [])) {
  conjuncts =
      conjuncts;
}

-- SELECT t, SUM(q) FROM sales GROUP BY t
abbrev pub by_t : Plan
by_t = record (totals (agg Sum q ∷ [])
    (item (codes "t") (node.Key 0) ∷ item (codes "c2") (node.Aggregate 0) ∷ [])) { keys = key t ∷ [] }

-- sales.s = store.k
abbrev pub store_join : Join
store_join = record { dim = table; join_type = Inner; foreign = 1; key = 0 }

-- the same of a left join
abbrev pub left_join : Join
left_join = record store_join { join_type = Left }

-- SELECT region, COUNT(*) FROM sales JOIN store ON s = k GROUP BY region
abbrev pub by_region : Plan
by_region = record (totals (count_rows ∷ [])
    (item (codes "region") (node.Key 0) ∷ item (codes "c2") (node.Aggregate 0) ∷ [])) {
      keys = key (node.Joined 0 1) ∷ [];
      joins = store_join ∷ [];
    }

-- SELECT t, COUNT(*) FROM sales GROUP BY t ORDER BY 2 DESC LIMIT 2
abbrev pub most_common : Plan
most_common = record (totals (count_rows ∷ [])
    (item (codes "t") (node.Key 0) ∷ item (codes "c2") (node.Aggregate 0) ∷ [])) {
      keys = key t ∷ [];
      order = record { item = 1; descending = true } ∷ [];
      limit = Some 2;
    }

-- SELECT p * 2, p / q FROM sales
abbrev pub two_items : List Expr → Plan
two_items conjuncts = record (listing (key (compute p Multiply (number 2)) ∷ key (compute p Divide q) ∷ [])
    (item (codes "c1") (node.Key 0) ∷ item (codes "c2") (node.Key 1) ∷ [])) { conjuncts = conjuncts }

-- SELECT id FROM sales LIMIT 0, and SELECT p * 2 FROM sales LIMIT 0
abbrev pub none_of : List ℕ → Expr → Plan
none_of header e = record (listing (key e ∷ []) (item header (node.Key 0) ∷ [])) { limit = Some 0 }

-- SELECT t, COUNT(*) / 0 FROM sales GROUP BY t
abbrev pub by_zero : Plan
by_zero = record (totals (count_rows ∷ [])
    (item (codes "t") (node.Key 0) ∷ item (codes "c2") (compute (node.Aggregate 0) Divide (number 0)) ∷ [])) {
      keys =
          key t ∷ [];
    }

-- one int column: the greatest integer, 1 and -1
abbrev pub n : List Row
n = (Int greatest ∷ []) ∷ (Int (pos 1) ∷ []) ∷ (Int (negsuc 0) ∷ []) ∷ []
