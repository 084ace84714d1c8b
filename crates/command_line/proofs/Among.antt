-- Options by certain names alone.
use Rattle.std.proofs.Common.{◌≡◌, ℕ, Bor, Bool, true, false, List, ◌∷◌, ◌∙◌, ap, nat_eq, map, sym}
use Rattle.std.proofs.lemmas.List.Folds.{list_all-map}
use Rattle.std.specs.Cmp.Lexicographic.{pointwise}
use Rattle.std.specs.List.{list_all, list_any}
use Rattle.std.specs.Vec.{vec_items}
use Rattle.command_line.specs.Steps.{given_of}
use Rattle.command_line.specs.Words.{Word, are_among, named_of}
use Rattle.command_line.specs.declared.parts.Parts.{Parts}

pub all_among : (names : List Word) (parts : Parts) → list_all (λ g. list_any (pointwise nat_eq g.name.now) names) (vec_items parts.given) ≡ true → are_among names (given_of parts) ≡ true
all_among names parts all = list_all-map (λ n. list_any (pointwise nat_eq n.0) names) named_of (vec_items parts.given) ∙ all

-- the folder and the files behind it
pub folder_and_files : (folder : Word) (files : List Word) (first : Bor (List ℕ)) (rest all plain : List (Bor (List ℕ))) → folder ≡ first.now → files ≡ map (λ w. w.now) rest → all ≡ first ∷ rest → all ≡ plain → folder ∷ files ≡ map (λ w. w.now) plain
folder_and_files folder files first rest all plain folder_is files_are parts same =
    ap (λ w. w ∷ files) folder_is ∙ ap (λ ws. first.now ∷ ws) files_are ∙ ap (map (λ w. w.now)) (sym parts ∙ same)

-- another option stands there
pub not_among : (names : List Word) (parts : Parts) (answer : Bool) → answer ≡ list_all (λ g. list_any (pointwise nat_eq g.name.now) names) (vec_items parts.given) → answer ≡ false → are_among names (given_of parts) ≡ true → ⊥
not_among names parts answer is other among =
    let all = sym (list_all-map (λ n. list_any (pointwise nat_eq n.0) names) named_of (vec_items parts.given)) ∙ among in
    let both : true ≡ false = sym all ∙ sym is ∙ other in cc
