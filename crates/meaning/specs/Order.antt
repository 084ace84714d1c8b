-- Words on lists in an order, and the whole order of values and rows.
--     lesser, least       the lesser of two that may be absent; the least of a list
--     sorted              a list in ascending order
--     ascending_set       the elements of a list, each once, in ascending order
--     is_ascending        a list that is such a set
--     union               two sets as one
use Rattle.std.specs.Prelude.{ℕ, ℤ, pos, Bool, true, false, ◌&&◌, if◌then◌else◌, List, [], ◌∷◌, ◌++◌, slice_index_or, Option, Some, None}
use Rattle.std.specs.declared.cmp.Ordering.{Ordering}
use Rattle.std.specs.Ordering.{nat_cmp, int_cmp, is_lt, on, then_cmp, ord_min, match_ordering, eq_by_cmp}
use Rattle.std.specs.Cmp.{IsTotalOrder, nat_cmp_total, int_cmp_total, on_total, then_total}
use Rattle.std.specs.Cmp.Lexicographic.{slice_cmp, nat_list_cmp_total}
use Rattle.meaning.specs.declared.value.Value.{Value}
use Rattle.meaning.specs.declared.value.Value.TheVariants.{Null, Int, Text}
use Rattle.meaning.specs.declared.value.ValueRef.{ValueRef}
use Rattle.meaning.specs.declared.value.ValueRef.TheVariants as lent

module _ {X : Type 0} (cmp : X → X → Ordering) where
  -- the lesser of two that may be absent
  abbrev pub lesser : Option X → Option X → Option X
  lesser None y = y
  lesser (Some x) None = Some x
  lesser (Some x) (Some y) = Some (ord_min cmp x y)

  -- the least element, if there is one
  abbrev pub least : List X → Option X
  least [] = None
  least (x ∷ xs) = lesser (Some x) (least xs)

  -- x before the first element that it is not greater than
  abbrev pub inserted : X → List X → List X
  inserted x [] = x ∷ []
  inserted x (y ∷ ys) = if is_lt (cmp y x) then y ∷ inserted x ys else x ∷ y ∷ ys

  -- the list in ascending order
  abbrev pub sorted : List X → List X
  sorted [] = []
  sorted (x ∷ xs) = inserted x (sorted xs)

  -- x before the first element that it is less than, unless it is there
  abbrev pub inserted_once : X → List X → List X
  inserted_once x [] = x ∷ []
  inserted_once x (y ∷ ys) = match_ordering (cmp x y) (x ∷ y ∷ ys) (y ∷ ys) (y ∷ inserted_once x ys)

  -- the set of the elements, as a list in ascending order
  abbrev pub ascending_set : List X → List X
  ascending_set [] = []
  ascending_set (x ∷ xs) = inserted_once x (ascending_set xs)

  -- two sets as one: where one has no element it is the other, so that nothing is changed by a set of none
  abbrev pub union : List X → List X → List X
  union [] ys = ys
  union (x ∷ xs) [] = x ∷ xs
  union (x ∷ xs) (y ∷ ys) = ascending_set ((x ∷ xs) ++ (y ∷ ys))

  -- each element is less than the next
  abbrev pub is_ascending : List X → Bool
  is_ascending [] = true
  is_ascending (x ∷ []) = true
  is_ascending (x ∷ y ∷ ys) = is_lt (cmp x y) && is_ascending (y ∷ ys)

-- a row is its values, column by column
abbrev pub Row : Type 0
Row = List Value

-- the value in a column
abbrev pub column : Row → ℕ → Value
column row at = slice_index_or row at Null

abbrev pub is_null : Value → Bool
is_null Null = true
is_null (Int n) = false
is_null (Text t) = false

-- NULL comes before integers, and integers before texts
abbrev pub rank : Value → ℕ
rank Null = 0
rank (Int n) = 1
rank (Text t) = 2

-- an integer's number, and 0 for any other value
abbrev pub number : Value → ℤ
number Null = pos 0
number (Int n) = n
number (Text t) = pos 0

-- a text's bytes, and none for any other value
abbrev pub bytes : Value → List ℕ
bytes Null = []
bytes (Int n) = []
bytes (Text t) = t

-- the whole order of values: NULL, integers by number, texts by their bytes
abbrev pub value_cmp : Value → Value → Ordering
value_cmp = then_cmp (on rank nat_cmp) (then_cmp (on number int_cmp) (on bytes (slice_cmp nat_cmp)))

pub value_total : IsTotalOrder value_cmp
value_total = then_total (on_total rank nat_cmp_total)
    (then_total (on_total number int_cmp_total) (on_total bytes nat_list_cmp_total))

-- equal values: what the derived `==` answers
abbrev pub same_value : Value → Value → Bool
same_value = eq_by_cmp value_cmp

-- the whole order of rows, column by column
abbrev pub row_cmp : Row → Row → Ordering
row_cmp = slice_cmp value_cmp

-- the value that is lent
abbrev pub value_in : ValueRef → Value
value_in lent.Null = Null
value_in (lent.Int n) = Int n
value_in (lent.Text t) = Text t.now
