-- Proofs of the goals of `sort` (`handing_out`).
use Rattle.std.proofs.Common.{rules}
use Rattle.std.specs.Ordering.{is_lt}
use Rattle.std.proofs.lemmas.List.Sorted.{answers_always, ranks_by}
use Rattle.meaning.specs.declared.answer.Group.{Group}
use Rattle.meaning.specs.Order.{row_cmp}
use Rattle.meaning.proofs.Orders.{row_total}
use Rattle.group_by.proofs.Combining.{beside_from, rises_from}
use Rattle.group_by.proofs.handing_out.sort.Goals as goal

pub returns-clause-beside : goal.returns-clause-beside
returns-clause-beside c =
    beside_from c.args.groups.now.items c.sort_by.new.self.items
    (c.in_ok-sort_by.ensures.stable (λ (x y : Group). is_lt (row_cmp x.key y.key)) (ranks_by row_total (λ (g : Group). g.key)) (answers_always _ _ _ (λ f a r g h. search rules)))

pub returns-clause-sorted : goal.returns-clause-sorted
returns-clause-sorted c =
    rises_from c.sort_by.new.self.items
    (c.in_ok-sort_by.ensures.sorted (λ (x y : Group). is_lt (row_cmp x.key y.key)) (ranks_by row_total (λ (g : Group). g.key)) (answers_always _ _ _ (λ f a r g h. search rules)))
