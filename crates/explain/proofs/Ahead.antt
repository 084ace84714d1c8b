-- The conditions that are tested before the first that is tested on no dimension.
use Rattle.std.proofs.Common.{◌≡◌, ℕ, ◌+◌, ◌<◌, ◌≤◌, List, ◌∷◌, ◌++◌, [], length, take, get_or, All, Option, refl, sym, ap, subst, ◌∙◌, arith}
use Rattle.std.specs.Prelude.{IfSome, slice_get}
use Rattle.std.proofs.Math.Seq.{take-length}
use Rattle.std.proofs.lemmas.List.{take_all, take_more}
use Rattle.std.proofs.lemmas.List.Elements.{All-push}
use Rattle.std.proofs.lemmas.Option.{slice_get_past, slice_get_read}
use Rattle.meaning.specs.declared.expr.Expr.{Expr}
use Rattle.pushdown.specs.Pushdown.{IsOfNoDimension}
use Rattle.explain.specs.Places.{AreAhead, IsAhead}

-- one condition more
pub next_ahead : (joins : ℕ) (cs : List Expr) (k : ℕ) (c : Expr) → k < length cs → c ≡ get_or cs k c → All (IsAhead joins) (take k cs) → IsAhead joins c → All (IsAhead joins) (take (k + 1) cs)
next_ahead joins cs k c below at before here =
    subst (All (IsAhead joins)) (sym (take_more cs k c below ∙ ap (λ (y : Expr). take k cs ++ y ∷ []) (sym at))) (All-push (IsAhead joins) (take k cs) c before here)

-- the next is tested on no dimension
pub stops : (joins : ℕ) (cs : List Expr) (k : ℕ) (c : Expr) → k < length cs → c ≡ get_or cs k c → All (IsAhead joins) (take k cs) → IsOfNoDimension joins c → AreAhead joins cs k
stops joins cs k c below at before none = record {
  within = omega (arith, below);
  ahead = before;
  next = subst (λ (o : Option Expr). IfSome o (IsOfNoDimension joins)) (sym (slice_get_read cs (length cs) k c refl below at)) none;
}

pub all_ahead : (joins : ℕ) (cs : List Expr) (k : ℕ) → length cs ≤ k → All (IsAhead joins) (take k cs) → AreAhead joins cs (length cs)
all_ahead joins cs k past before = record {
  within = omega arith;
  ahead = subst (All (IsAhead joins)) (take_all k cs past ∙ sym (take-length cs)) before;
  next = subst (λ (o : Option Expr). IfSome o (IsOfNoDimension joins)) (sym (slice_get_past cs (length cs) (omega arith))) tt;
}
