-- Laws on expressions and on conditions, each of them the contract of a function of the crate `meaning_laws`.
use Rattle.std.specs.Prelude.{◌≡◌, ◌↔◌, ℕ, ◌==◌, nat_eq, Bool, true, ◌||◌, not, List, [], ◌∷◌, ◌++◌, map, All, bytes_eq}
use Rattle.std.specs.List.{list_all, starts_with, ends_with}
use Rattle.std.specs.Str.{is_utf8}
use Rattle.std.specs.Str.Iter.{HasSubslice}
use Rattle.meaning.specs.declared.expr.Expr.{Expr}
use Rattle.meaning.specs.declared.joined_row.JoinedRow.{JoinedRow}
use Rattle.meaning.specs.declared.outcome.Truth.TheVariants.{True}
use Rattle.meaning.specs.declared.outcome.Outcome.TheVariants as gives
use Rattle.meaning.specs.declared.plan.Plan.{Plan}
use Rattle.meaning.specs.Like.{is_like}
use Rattle.meaning.specs.Expr.{eval, values}
use Rattle.meaning.specs.References.{referenced, columns_used, columns_of_plan}
use Rattle.meaning.specs.Typing.{ExprType, RowTypes, fits_row_types, has_type, gives_expr_type}
use Rattle.meaning.specs.Judge.{keep, judge, Passes, filtered, then_filtered, behind_filter}

-- evaluation reads only the columns, keys and aggregates that the expression names
abbrev pub ReadsColumnsUsed : Type 0
ReadsColumnsUsed = (e : Expr) (r s : JoinedRow) → All (λ u. referenced r u ≡ referenced s u) (columns_used e)
    → eval e r ≡ eval e s

-- and so what becomes of a joined row depends on these alone
abbrev pub JudgesColumnsUsed : Type 0
JudgesColumnsUsed = (plan : Plan) (r s : JoinedRow) → All (λ u. referenced r u ≡ referenced s u) (columns_of_plan plan)
    → judge plan r ≡ judge plan s

-- on a row whose values have their types, an expression of a type gives a value or a truth of it, or a fault
abbrev pub EvaluationIsTyped : Type 0
EvaluationIsTyped = (types : RowTypes) (e : Expr) (type : ExprType) (r : JoinedRow)
    → fits_row_types types r ≡ true
    → has_type types e type ≡ true
    → gives_expr_type type (eval e r) ≡ true

-- conditions can be judged apart from keys and arguments, list by list, and let a row pass just where each is TRUE
pub record ConditionsFilter : Type 0 where
  pub apart : (plan : Plan) (s : JoinedRow) → judge plan s
      ≡ behind_filter (filtered plan.conjuncts s)
      (keep (values (map (λ k. k.expr) plan.keys) s) (values (map (λ a. a.argument) plan.aggs) s))
  pub in_turn : (cs ds : List Expr) (s : JoinedRow) → filtered (cs ++ ds) s
      ≡ then_filtered (filtered cs s) (filtered ds s)
  pub all_true : (cs : List Expr) (s : JoinedRow) → filtered cs s ≡ Passes → All (λ c. eval c s ≡ gives.Truth True) cs
  pub passes : (cs : List Expr) (s : JoinedRow) → All (λ c. eval c s ≡ gives.Truth True) cs → filtered cs s ≡ Passes

-- ---- LIKE

-- neither `%` (37) nor `_` (95) stands in the pattern
abbrev pub is_plain : List ℕ → Bool
is_plain pattern = list_all (λ b. not ((b == 37) || (b == 95))) pattern

-- of texts in UTF-8, LIKE with `%` at the ends alone is equality, prefix, suffix or containment of bytes
pub record LikeOfBytes (part text : List ℕ) : Type 0 where
  pub equal : is_like part text ≡ bytes_eq part text
  pub prefix : is_like (part ++ 37 ∷ []) text ≡ starts_with nat_eq text part
  pub suffix : is_like (37 ∷ part) text ≡ ends_with nat_eq text part
  pub within : (is_like (37 ∷ (part ++ 37 ∷ [])) text ≡ true) ↔ HasSubslice text part

abbrev pub LikeByBytes : Type 0
LikeByBytes = (part text : List ℕ) → is_utf8 part ≡ true → is_plain part ≡ true → is_utf8 text ≡ true
    → LikeOfBytes part text
