-- Proofs of the goals of `name_one_each` (`header`).
use Rattle.std.proofs.Common.{Bor, ℕ, List, ◌≡◌, ◌==◌, ◌∙◌, ap, sym, map, length, count_by}
use Rattle.std.proofs.lemmas.List.{length-map}
use Rattle.loader.specs.Steps.{names_one}
use Rattle.loader.proofs.HeaderColumns.{all_counted}
use Rattle.loader.proofs.header.name_one_each.Goals as goal

pub returns : goal.returns
returns c =
    let fields : List (List ℕ) = map (λ (field : Bor (List ℕ)). field.now) c.args.header.now in
    let long : length fields ≡ length c.args.header.now = length-map c.args.header.now (λ (field : Bor (List ℕ)). field.now) in
    ap (λ n. n == length c.args.header.now) c.single_names.ensures ∙ ap (λ n. count_by (names_one c.args.columns.now) fields == n) (sym long)
    ∙ all_counted (names_one c.args.columns.now) fields
