-- Proofs of the goals of `order_of` (`comparing`).
use Rattle.std.proofs.Common.{rules, ◌≡◌, ◌∙◌, ap, sym}
use Rattle.std.proofs.lemmas.Cmp.{tied_itself}
use Rattle.meaning.specs.Order.{value_cmp, value_in, value_total}
use Rattle.key_columns.proofs.comparing.order_of.Goals as goal

pub returns-then-is_same : goal.returns-then-is_same
returns-then-is_same c =
    let same : value_in c.args.one ≡ value_in c.args.other = search rules in
    sym (ap (value_cmp (value_in c.args.one)) (sym same) ∙ tied_itself value_total (value_in c.args.one))
