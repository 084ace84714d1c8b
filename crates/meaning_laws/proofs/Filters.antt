-- What conditions make of a row, apart from its keys and arguments.
use Rattle.std.proofs.Common.{◌≡◌, List, [], ◌∷◌, ◌++◌, refl, ap, ◌∙◌}
use Rattle.std.specs.Prelude.{All}
use Rattle.std.specs.List.{AllByRecursion}
use Rattle.std.proofs.lemmas.List.Elements.{recursion_from_All, All-from_recursion}
use Rattle.meaning.specs.declared.expr.Expr.{Expr}
use Rattle.meaning.specs.declared.outcome.Outcome.{Outcome}
use Rattle.meaning.specs.declared.outcome.Outcome.TheVariants as gives
use Rattle.meaning.specs.declared.outcome.Truth.TheVariants.{True, False, Unknown}
use Rattle.meaning.specs.declared.joined_row.JoinedRow.{JoinedRow}
use Rattle.meaning.specs.Expr.{eval}
use Rattle.meaning.specs.Judge.{Judged, behind_condition, behind_conditions, Filtered, Passes, filtered_by, filtered, behind_filter, then_filtered}

one_behind : (o : Outcome) (next : Filtered) (row rest : Judged) → rest
    ≡ behind_filter next row → behind_condition o rest ≡ behind_filter (filtered_by o next) row
one_behind (gives.Fault f) next row rest e = refl
one_behind (gives.Truth True) next row rest e = e
one_behind (gives.Truth False) next row rest e = refl
one_behind (gives.Truth Unknown) next row rest e = refl
one_behind (gives.Value v) next row rest e = refl

-- a row behind conditions is what the filter makes of it
pub behind_conditions-filtered : (cs : List Expr) (s : JoinedRow) (row : Judged) → behind_conditions cs s row
    ≡ behind_filter (filtered cs s) row
behind_conditions-filtered [] s row = refl
behind_conditions-filtered (c ∷ cs) s row =
    one_behind (eval c s) (filtered cs s) row (behind_conditions cs s row) (behind_conditions-filtered cs s row)

one_then : (o : Outcome) (f g all : Filtered) → all ≡ then_filtered f g → filtered_by o all
    ≡ then_filtered (filtered_by o f) g
one_then (gives.Fault e) f g all same = refl
one_then (gives.Truth True) f g all same = same
one_then (gives.Truth False) f g all same = refl
one_then (gives.Truth Unknown) f g all same = refl
one_then (gives.Value v) f g all same = refl

-- conditions in two lists are filters one after the other
pub filtered-append : (cs ds : List Expr) (s : JoinedRow) → filtered (cs ++ ds) s
    ≡ then_filtered (filtered cs s) (filtered ds s)
filtered-append [] ds s = refl
filtered-append (c ∷ cs) ds s =
    one_then (eval c s) (filtered cs s) (filtered ds s) (filtered (cs ++ ds) s) (filtered-append cs ds s)

-- ---- all TRUE

abbrev IsTrueAt : JoinedRow → Expr → Type 0
IsTrueAt s c = eval c s ≡ gives.Truth True

one_passes : (o : Outcome) (next : Filtered) → filtered_by o next ≡ Passes → (o ≡ gives.Truth True) × (next ≡ Passes)
one_passes (gives.Fault f) next e = cc
one_passes (gives.Truth True) next e = (refl, e)
one_passes (gives.Truth False) next e = cc
one_passes (gives.Truth Unknown) next e = cc
one_passes (gives.Value v) next e = cc

all_true : (cs : List Expr) (s : JoinedRow) → filtered cs s ≡ Passes → AllByRecursion (IsTrueAt s) cs
all_true [] s e = tt
all_true (c ∷ cs) s e = let parts = one_passes (eval c s) (filtered cs s) e in (parts.0, all_true cs s parts.1)

true_passes : (cs : List Expr) (s : JoinedRow) → AllByRecursion (IsTrueAt s) cs → filtered cs s ≡ Passes
true_passes [] s all = refl
true_passes (c ∷ cs) s all = ap (λ o. filtered_by o (filtered cs s)) all.0 ∙ true_passes cs s all.1

pub passes_all_true : (cs : List Expr) (s : JoinedRow) → filtered cs s
    ≡ Passes → All (λ c. eval c s ≡ gives.Truth True) cs
passes_all_true cs s e = All-from_recursion _ _ (all_true cs s e)

pub all_true_passes : (cs : List Expr) (s : JoinedRow) → All (λ c. eval c s ≡ gives.Truth True) cs → filtered cs s
    ≡ Passes
all_true_passes cs s all = true_passes cs s (recursion_from_All _ _ all)
