-- Proofs of the goals of `from_group` (`ordered_sets`).
use Rattle.std.specs.Borrow.{Bor}
use Rattle.std.proofs.Common.{List, ap, subst, sym, rules, ◌∙◌}
use Rattle.std.proofs.Math.Dec.{ltb}
use Rattle.std.proofs.lemmas.List.Sorted.{IsPartitionedBy-ltb, IsPartitionPoint-from_clause}
use Rattle.distinct_sets.specs.declared.entry.Entry.{Entry}
use Rattle.distinct_sets.specs.Sets.{in_group, lent, AreFrom}
use Rattle.distinct_sets.proofs.ByGroup.{are_from, behind_all, from_there}
use Rattle.distinct_sets.proofs.ordered_sets.from_group.Goals as goal

pub returns-clause-same : goal.returns-clause-same
returns-clause-same c =
    let g = c.args.group_index in
    let all = c.args.entries.now in
    let i = c.partition_point-before.result in
    ap (λ (bs : List (Bor Entry)). in_group g (lent bs)) (behind_all all i)
    ∙ from_there g all i c.partition_point-before.ensures.bound
    (IsPartitionPoint-from_clause (λ (b : Bor Entry). ltb b.now.group_index g) all i c.partition_point-before.ensures.partitioned
    (IsPartitionedBy-ltb (λ (b : Bor Entry). b.now.group_index) all g c.requires) (λ a r f called. search rules))

pub returns-clause-from : goal.returns-clause-from
returns-clause-from c =
    let g = c.args.group_index in
    let all = c.args.entries.now in
    let i = c.partition_point-before.result in
    subst (AreFrom g) (sym (behind_all all i))
    (are_from g all i c.partition_point-before.ensures.bound
    (IsPartitionPoint-from_clause (λ (b : Bor Entry). ltb b.now.group_index g) all i c.partition_point-before.ensures.partitioned
    (IsPartitionedBy-ltb (λ (b : Bor Entry). b.now.group_index) all g c.requires) (λ a r f called. search rules)))
