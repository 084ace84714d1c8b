-- What is found of groups and one more behind them.
use Rattle.std.proofs.Common.{◌≡◌, ℕ, ◌+◌, ◌<◌, Bool, true, false, ◌&&◌, List, [], ◌∷◌, ◌++◌, map, Option, Some, None, refl, sym, ap, ◌∙◌, arith}
use Rattle.std.specs.Prelude.{SomeIff, sum}
use Rattle.std.specs.List.{list_all}
use Rattle.std.specs.Ordering.{is_lt}
use Rattle.std.proofs.Math.Bool.{and-true}
use Rattle.std.proofs.lemmas.List.{map-append}
use Rattle.std.proofs.lemmas.List.Folds.{list_all-append}
use Rattle.std.proofs.lemmas.List.Sums.{sum_by-append, sum_by-cons}
use Rattle.meaning.specs.declared.answer.Group.{Group}
use Rattle.meaning.specs.Order.{Row, row_cmp}
use Rattle.answer_layouts.specs.Found.{HasRows, all_rows, are_ascending, comes_after, last_key}

pub all_and_one : {X : Type 0} (test : X → Bool) (xs : List X) (x : X) (flag here : Bool) → flag ≡ list_all test xs → here ≡ test x → (flag && here) ≡ list_all test (xs ++ x ∷ [])
all_and_one test xs x flag here all one = rw (all, one, list_all-append test xs (x ∷ [])) (ap (λ b. list_all test xs && b) (sym (and-true (test x))))

and_again : (a b c : Bool) → ((a && b) && c) ≡ (a && (b && c))
and_again true b c = refl
and_again false b c = refl

-- the last key and a group behind it
pub last_of : (gs : List Group) (g : Group) → last_key (gs ++ g ∷ []) ≡ Some g.key
last_of [] g = refl
last_of (x ∷ []) g = refl
last_of (x ∷ y ∷ gs) g = last_of (y ∷ gs) g

ascending_of : (gs : List Group) (g : Group) → are_ascending (gs ++ g ∷ []) ≡ (are_ascending gs && comes_after (last_key gs) g.key)
ascending_of [] g = refl
ascending_of (x ∷ []) g = and-true (is_lt (row_cmp x.key g.key))
ascending_of (x ∷ y ∷ gs) g =
    ap (λ b. is_lt (row_cmp x.key y.key) && b) (ascending_of (y ∷ gs) g) ∙ sym (and_again (is_lt (row_cmp x.key y.key)) (are_ascending (y ∷ gs)) (comes_after (last_key (y ∷ gs)) g.key))

pub ascending_and_one : (gs : List Group) (g : Group) (flag here : Bool) (last : Option Row) → flag ≡ are_ascending gs → last ≡ last_key gs → here ≡ comes_after last g.key → (flag && here) ≡ are_ascending (gs ++ g ∷ [])
ascending_and_one gs g flag here last all is one = rw (all, one, is) (sym (ascending_of gs g))

one_row : (n : ℕ) → sum (n ∷ []) ≡ n
one_row n = sum_by-cons (λ x. x) n [] ∙ omega arith

pub rows_of : (gs : List Group) (g : Group) → all_rows (gs ++ g ∷ []) ≡ all_rows gs + g.rows
rows_of gs g = ap (λ ns. sum ns) (map-append (λ g. g.rows) gs (g ∷ [])) ∙ sum_by-append (λ n. n) (map (λ g. g.rows) gs) (g.rows ∷ []) ∙ ap (λ n. all_rows gs + n) (one_row g.rows)

pub more_than_some : (given : Option ℕ) (rows more total : ℕ) → SomeIff given (rows + more < 18446744073709551616) (rows + more) → rows ≡ total → HasRows given (total + more)
more_than_some (Some n) rows more total is same = is.1 ∙ ap (λ n. n + more) same
more_than_some None rows more total is same = omega (arith, is, same)

pub more_than_none : (total more : ℕ) → HasRows None total → HasRows None (total + more)
more_than_none total more many = omega (arith, many)
