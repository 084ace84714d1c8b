-- What is known of sorts one after the other is what the rules ask of their list.
use Rattle.std.proofs.Common.{◌≡◌, Bool, true, false, ◌&&◌, List, [], ◌∷◌, ◌++◌, map, Option, Some, None, option_map, Result, Ok, Err, refl, sym, ap, ap₂, ◌∙◌, rules}
use Rattle.std.specs.List.{list_all}
use Rattle.std.proofs.lemmas.List.{append-nil}
use Rattle.meaning.specs.Results.{all_ok, and_then}
use Rattle.meaning.proofs.Tests.{and_true}
use Rattle.planner_expressions.specs.declared.fault.PlanFault.{PlanFault}
use Rattle.planner_expressions.specs.declared.sort.Sort.{Sort}
use Rattle.planner_expressions.specs.declared.sort.Sort.TheVariants.{Truth}
use Rattle.planner_expressions.specs.declared.sort.Likeness.{Likeness}
use Rattle.planner_expressions.specs.declared.sort.ArmSorts.{ArmSorts}
use Rattle.planner_expressions.specs.Results.{map_ok}
use Rattle.planner_expressions.specs.Sorts.{same_sort, is_value, are_alike, first_of, first_known, results, fresh, added, behind, with_arms}
use Rattle.planner_expressions.specs.Judged.{Returned, typed, case_sort, judged, judged_arm, each_arm, else_sort}
use Rattle.planner_expressions.specs.declared.scope.Scope.{Scope}
use Rattle.sql_syntax.specs.declared.tree.Arm.{Arm}
use Rattle.sql_syntax.specs.declared.tree.Expr.{Expr}
use Rattle.sql_syntax.specs.declared.tree.Expr.TheVariants as tree
use Rattle.sql_syntax.specs.declared.tree.Expr.TheFolds.{the_lemmas}

and_assoc : (a b c : Bool) → ((a && b) && c) ≡ (a && (b && c))
and_assoc true b c = refl
and_assoc false b c = refl

pub behind_known : (f : Sort) (b : Bool) (xs : List Sort) → behind (record { first = Some f; alike = b }) xs ≡ record { first = Some f; alike = b && list_all (same_sort f) xs }
behind_known f b [] = ap (λ (x : Bool). record { first = Some f; alike = x }) (sym (and_true b))
behind_known f b (x ∷ xs) = behind_known f (b && same_sort f x) xs ∙ ap (λ (y : Bool). record { first = Some f; alike = y }) (and_assoc b (same_sort f x) (list_all (same_sort f) xs))

abbrev pub of_list : List Sort → Likeness
of_list [] = fresh
of_list (x ∷ xs) = record { first = Some x; alike = are_alike (x ∷ xs) }

pub behind_fresh : (xs : List Sort) → behind fresh xs ≡ of_list xs
behind_fresh [] = refl
behind_fresh (x ∷ xs) = behind_known x (is_value x) xs

abbrev by_list : List Sort → Returned
by_list xs = typed (are_alike xs) (first_of xs)

abbrev by_known : Likeness → Returned
by_known k = typed k.alike (first_known k.first)

known_list : (xs : List Sort) → by_known (behind fresh xs) ≡ by_list xs
known_list [] = refl
known_list (x ∷ xs) = ap by_known (behind_fresh (x ∷ xs))

-- ---- IN and COALESCE

pub listed_is : (subject : Returned) (x : Sort) (n l : Likeness) (xs : Result (List Sort) PlanFault) (k : Result Likeness PlanFault) (r : Returned)
    → subject ≡ Ok x → n ≡ fresh → l ≡ added n x → k ≡ map_ok (behind l) xs → r ≡ and_then k (λ known. typed known.alike Truth)
    → r ≡ and_then subject (λ y. and_then xs (λ ys. typed (are_alike (y ∷ ys)) Truth))
listed_is subject x n l xs k r s_is n_is l_is k_is r_is =
    r_is
    ∙ ap (λ (z : Result Likeness PlanFault). and_then z (λ known. typed known.alike Truth)) (k_is ∙ ap (λ (z : Likeness). map_ok (behind z) xs) (l_is ∙ ap (λ (z : Likeness). added z x) n_is))
    ∙ by_cases xs
    ∙ ap (λ (z : Returned). and_then z (λ y. and_then xs (λ ys. typed (are_alike (y ∷ ys)) Truth))) (sym s_is)
  where
    by_cases : (xs : Result (List Sort) PlanFault) → and_then (map_ok (behind (added fresh x)) xs) (λ known. typed known.alike Truth) ≡ and_then xs (λ ys. typed (are_alike (x ∷ ys)) Truth)
    by_cases (Ok ys) = ap (λ (k : Likeness). typed k.alike Truth) (behind_fresh (x ∷ ys))
    by_cases (Err e) = refl

pub coalesced_is : (n : Likeness) (xs : Result (List Sort) PlanFault) (k : Result Likeness PlanFault) (r : Returned)
    → n ≡ fresh → k ≡ map_ok (behind n) xs → r ≡ and_then k (λ known. typed known.alike (first_known known.first)) → r ≡ and_then xs (λ ys. typed (are_alike ys) (first_of ys))
coalesced_is n xs k r n_is k_is r_is =
    r_is ∙ ap (λ (z : Result Likeness PlanFault). and_then z by_known) (k_is ∙ ap (λ (z : Likeness). map_ok (behind z) xs) n_is) ∙ by_cases xs
  where
    by_cases : (xs : Result (List Sort) PlanFault) → and_then (map_ok (behind fresh) xs) by_known ≡ and_then xs by_list
    by_cases (Ok ys) = known_list ys
    by_cases (Err e) = refl

-- ---- CASE

abbrev no_arms : ArmSorts
no_arms = record { truths = true; values = fresh }

arms_known : (b : Bool) (l : Likeness) (ps : List (Sort × Sort)) → with_arms (record { truths = b; values = l }) ps
    ≡ record { truths = b && list_all (λ p. same_sort Truth p.0) ps; values = behind l (map (λ p. p.1) ps) }
arms_known b l [] = ap (λ (x : Bool). record { truths = x; values = l }) (sym (and_true b))
arms_known b l (p ∷ ps) =
    arms_known (b && same_sort Truth p.0) (added l p.1) ps
    ∙ ap (λ (x : Bool). record { truths = x; values = behind (added l p.1) (map (λ (q : Sort × Sort). q.1) ps) }) (and_assoc b (same_sort Truth p.0) (list_all (λ q. same_sort Truth q.0) ps))

behind_one : (l : Likeness) (xs : List Sort) (s : Sort) → added (behind l xs) s ≡ behind l (xs ++ s ∷ [])
behind_one l [] s = refl
behind_one l (x ∷ xs) s = behind_one (added l x) xs s

abbrev truths_of : List (Sort × Sort) → Bool
truths_of ps = list_all (λ p. same_sort Truth p.0) ps

abbrev by_arms : Bool → Likeness → Returned
by_arms b k = typed (b && k.alike) (first_known k.first)

of_results : (b : Bool) (xs : List Sort) → by_arms b (behind fresh xs) ≡ typed (b && are_alike xs) (first_of xs)
of_results b [] = refl
of_results b (x ∷ xs) = ap (by_arms b) (behind_fresh (x ∷ xs))

abbrev case_of : List (Sort × Sort) → Option Sort → Returned
case_of ps o = by_arms (truths_of ps) (behind fresh (results ps o))

case_known : (ps : List (Sort × Sort)) (o : Option Sort) → case_of ps o ≡ case_sort ps o
case_known ps o = of_results (truths_of ps) (results ps o)

pub without_is : (arms : Result (List (Sort × Sort)) PlanFault) (k : Result ArmSorts PlanFault) (found : ArmSorts) (r : Returned)
    → k ≡ map_ok (with_arms no_arms) arms → k ≡ Ok found → r ≡ typed (found.truths && found.values.alike) (first_known found.values.first)
    → r ≡ and_then arms (λ ps. case_sort ps None)
without_is (Err e) k found r k_is ok r_is = absurd cc
without_is (Ok ps) k found r k_is ok r_is =
    let same : found ≡ with_arms no_arms ps = cc in
    r_is
    ∙ ap (λ (f : ArmSorts). typed (f.truths && f.values.alike) (first_known f.values.first)) (same ∙ arms_known true fresh ps)
    ∙ ap (λ (xs : List Sort). by_arms (truths_of ps) (behind fresh xs)) (sym (append-nil (map (λ (q : Sort × Sort). q.1) ps)))
    ∙ case_known ps None

with_found : (arms : Result (List (Sort × Sort)) PlanFault) (k : Result ArmSorts PlanFault) (found : ArmSorts) (otherwise r : Returned)
    → k ≡ map_ok (with_arms no_arms) arms → k ≡ Ok found
    → r ≡ and_then otherwise (λ s. typed (found.truths && (added found.values s).alike) (first_known (added found.values s).first))
    → r ≡ and_then arms (λ ps. and_then (map_ok (λ x. Some x) otherwise) (case_sort ps))
with_found (Err e) k found otherwise r k_is ok r_is = absurd cc
with_found (Ok ps) k found (Err e) r k_is ok r_is = r_is
with_found (Ok ps) k found (Ok s) r k_is ok r_is =
    let same : found ≡ with_arms no_arms ps = cc in
    r_is
    ∙ ap (λ (f : ArmSorts). by_arms f.truths (added f.values s)) (same ∙ arms_known true fresh ps)
    ∙ ap (by_arms (truths_of ps)) (behind_one fresh (map (λ (q : Sort × Sort). q.1) ps) s)
    ∙ case_known ps (Some s)

case_node : (s : Scope) (arms : List Arm) (o : Option Expr) (b : Bool) → judged s (tree.Case arms o) b
    ≡ and_then (all_ok (each_arm b (map (judged_arm s) arms))) (λ ps. and_then (else_sort b (option_map (judged s) o)) (case_sort ps))
case_node s arms o b = search (rules, the_lemmas)

pub with_is : (s : Scope) (b : Bool) (e x : Expr) (arms arms' : List Arm) (o : Option Expr) (k : Result ArmSorts PlanFault) (found : ArmSorts) (otherwise r : Returned)
    → e ≡ tree.Case arms o → o ≡ Some x → arms' ≡ arms → otherwise ≡ judged s x b
    → k ≡ map_ok (with_arms no_arms) (all_ok (each_arm b (map (judged_arm s) arms'))) → k ≡ Ok found
    → r ≡ and_then otherwise (λ s. typed (found.truths && (added found.values s).alike) (first_known (added found.values s).first))
    → r ≡ judged s e b
with_is s b e x arms arms' o k found otherwise r e_is o_is arms_is f_is k_is ok r_is =
    with_found (all_ok (each_arm b (map (judged_arm s) arms'))) k found otherwise r k_is ok r_is
    ∙ ap₂ (λ (z : Returned) (ys : List Arm). and_then (all_ok (each_arm b (map (judged_arm s) ys))) (λ ps. and_then (map_ok (λ x. Some x) z) (case_sort ps))) f_is arms_is
    ∙ sym (case_node s arms (Some x) b)
    ∙ ap (λ (e : Expr). judged s e b) (sym (e_is ∙ ap (tree.Case arms) o_is))
