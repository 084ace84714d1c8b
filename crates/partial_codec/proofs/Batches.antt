-- Groups that are put a few at a time.
use Rattle.std.proofs.Common.{◌≡◌, ℕ, List, ◌++◌, take, drop, ap, sym, ◌∙◌, append_assoc}
use Rattle.std.specs.List.{flat_map}
use Rattle.std.proofs.lemmas.List.{take-append-drop}
use Rattle.std.proofs.lemmas.List.Concat.{flat_map-append}
use Rattle.meaning.specs.declared.answer.Group.{Group}

-- the first of those that are left are put, and the others stay
pub batch_put : (spell : Group → List ℕ) (n : ℕ) (out new before : List ℕ) (left rest all : List Group) → new ≡ out ++ flat_map spell (take n left) → rest ≡ drop n left
    → out ++ flat_map spell left ≡ before ++ flat_map spell all → new ++ flat_map spell rest ≡ before ++ flat_map spell all
batch_put spell n out new before left rest all put others so_far =
    ap (λ (bs : List ℕ). bs ++ flat_map spell rest) put ∙ ap (λ (gs : List Group). (out ++ flat_map spell (take n left)) ++ flat_map spell gs) others
    ∙ append_assoc out (flat_map spell (take n left)) (flat_map spell (drop n left))
    ∙ ap (λ (bs : List ℕ). out ++ bs) (sym (flat_map-append spell (take n left) (drop n left)) ∙ ap (flat_map spell) (take-append-drop n left)) ∙ so_far
