-- Proofs of the goals of `sort_once` (`entries`).
use Rattle.std.proofs.Common.{rules}
use Rattle.std.specs.Ordering.{eq_by_cmp, is_lt}
use Rattle.std.proofs.lemmas.List.Filters.{dedup_is}
use Rattle.std.proofs.lemmas.List.Sorted.{answers_always, ranks_by}
use Rattle.meaning.specs.declared.value.Value.{Value}
use Rattle.meaning.specs.Order.{value_cmp}
use Rattle.meaning.proofs.Orders.{value_total, value_exact}
use Rattle.aggregate_states.proofs.Once.{set_once}
use Rattle.aggregate_states.proofs.entries.sort_once.Goals as goal

pub returns-clause-ok : goal.returns-clause-ok
returns-clause-ok c =
    set_once value_total value_exact c.args.values.now.items c.sort_by.new.self.items c.dedup.new.self.items c.sort_by.ensures.permutation
    (c.in_ok-sort_by.ensures.sorted (λ (v w : Value). is_lt (value_cmp v w)) (ranks_by value_total (λ (v : Value). v)) (answers_always _ _ _ (λ f a r g h. search rules)))
    (dedup_is (eq_by_cmp value_cmp) c.sort_by.new.self.items c.dedup.new.self.items c.dedup.ensures.filtered)
