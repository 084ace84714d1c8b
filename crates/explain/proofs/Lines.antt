-- Lines of conditions, one more at a time.
use Rattle.std.proofs.Common.{◌≡◌, ℕ, zero, suc, ◌+◌, ◌<◌, ◌≤◌, List, [], ◌∷◌, ◌++◌, length, take, get_or, refl, sym, ap, subst, ◌∙◌, append_assoc, append-nil, arith, codes}
use Rattle.std.specs.Prelude.{nat_lt}
use Rattle.std.proofs.lemmas.List.{length-take-le, take_all, take_more}
use Rattle.meaning.specs.declared.expr.Expr.{Expr}
use Rattle.explain.specs.Conditions.{AreLines, IsCondition, blanks_text}

pub lines_push : (blanks : List ℕ) (joins leading n k : ℕ) (conditions : List Expr) (condition : Expr) (text line : List ℕ) → k ≡ n + length conditions → AreLines blanks joins leading n conditions text
    → IsCondition blanks joins (k + 1) (nat_lt k leading) condition line → AreLines blanks joins leading n (conditions ++ condition ∷ []) (text ++ line)
lines_push blanks joins leading n k [] condition text line at none is =
    let here : k ≡ n = omega (arith, at) in
    (line, [], ap (λ (t : List ℕ). t ++ line) none ∙ sym (append-nil line), subst (λ (m : ℕ). IsCondition blanks joins (m + 1) (nat_lt m leading) condition line) here is, refl)
lines_push blanks joins leading n k (c ∷ conditions) condition text line at (first, rest, whole, here, others) is =
    let behind : k ≡ (n + 1) + length conditions = omega (arith, at) in (
      first,
      rest ++ line,
      ap (λ (t : List ℕ). t ++ line) whole ∙ append_assoc first rest line,
      here,
      lines_push blanks joins leading (n + 1) k conditions condition rest line behind others is,
    )

-- behind those that were written
pub added : (old now new lines line : List ℕ) → now ≡ old ++ lines → new ≡ now ++ line → new ≡ old ++ (lines ++ line)
added old now new lines line before here = here ∙ ap (λ (t : List ℕ). t ++ line) before ∙ append_assoc old lines line

pub next_line : (blanks : List ℕ) (joins leading : ℕ) (conditions : List Expr) (k : ℕ) (condition : Expr) (text line : List ℕ) → k < length conditions → condition ≡ get_or conditions k condition → AreLines blanks joins leading 0 (take k conditions) text
    → IsCondition blanks joins (k + 1) (nat_lt k leading) condition line → AreLines blanks joins leading 0 (take (k + 1) conditions) (text ++ line)
next_line blanks joins leading conditions k condition text line below at before is =
    let count : length (take k conditions) ≡ k = length-take-le k conditions (omega (arith, below)) in
    let counted : k ≡ 0 + length (take k conditions) = omega (arith, count) in
    subst (λ (cs : List Expr). AreLines blanks joins leading 0 cs (text ++ line)) (sym (take_more conditions k condition below ∙ ap (λ (y : Expr). take k conditions ++ y ∷ []) (sym at)))
    (lines_push blanks joins leading 0 k (take k conditions) condition text line counted before is)

pub all_lines : (blanks : List ℕ) (joins leading : ℕ) (conditions : List Expr) (k : ℕ) (text : List ℕ) → length conditions ≤ k → AreLines blanks joins leading 0 (take k conditions) text → AreLines blanks joins leading 0 conditions text
all_lines blanks joins leading conditions k text past are = subst (λ (cs : List Expr). AreLines blanks joins leading 0 cs text) (take_all k conditions past) are

-- ---- blanks

blanks_around : (n : ℕ) → blanks_text n ++ codes "  " ≡ codes "  " ++ blanks_text n
unfolding blanks_text
blanks_around zero = refl
blanks_around (suc n) = ap (λ t. codes "  " ++ t) (blanks_around n)

pub no_step : [] ≡ blanks_text 0
unfolding blanks_text
no_step = refl

pub step_further : (n : ℕ) → blanks_text n ++ codes "  " ≡ blanks_text (n + 1)
unfolding blanks_text
step_further n = let next : suc n ≡ n + 1 = omega arith in blanks_around n ∙ ap blanks_text next
