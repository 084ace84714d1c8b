-- Proofs of the goals of `kept_groups_merge` (`laws`).
use Rattle.std.proofs.Common.{◌≡◌, List, [], ◌∷◌, ◌++◌, sym, ap, ◌∙◌}
use Rattle.std.proofs.lemmas.List.{append-nil}
use Rattle.meaning.specs.declared.plan.Plan.{Plan}
use Rattle.meaning.specs.Order.{Row}
use Rattle.meaning.specs.Group.{kept_groups, merged_groups}
use Rattle.meaning_laws.proofs.Combine.{kept_rows-append}
use Rattle.meaning.proofs.Groups.{group_of-append, merged_groups-known}
use Rattle.meaning_laws.proofs.laws.kept_groups_merge.Goals as goal

two : (plan : Plan) (xs ys : List (Row × Row)) → kept_groups plan (xs ++ ys)
    ≡ merged_groups plan (kept_groups plan xs ++ kept_groups plan ys)
two plan xs ys =
    ap (λ zs. kept_groups plan (xs ++ zs)) (sym (append-nil ys)) ∙ sym (merged_groups-known plan (xs ∷ ys ∷ []))
    ∙ ap (λ gs. merged_groups plan (kept_groups plan xs ++ gs)) (append-nil (kept_groups plan ys))

pub returns : goal.returns
returns c = λ plan. record {
  kept = kept_rows-append plan;
  one = group_of-append plan;
  two = two plan;
  many =
      λ parts. sym (merged_groups-known plan parts);
}
