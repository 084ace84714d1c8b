-- Proofs of the goals of `up_to_group` (`ordered_sets`).
use Rattle.std.specs.Borrow.{Bor}
use Rattle.std.proofs.Common.{rules}
use Rattle.std.proofs.Math.Dec.{leb}
use Rattle.std.proofs.lemmas.List.Sorted.{IsPartitionedBy-leb, IsPartitionPoint-from_clause}
use Rattle.distinct_sets.specs.declared.entry.Entry.{Entry}
use Rattle.distinct_sets.proofs.ByGroup.{up_to}
use Rattle.distinct_sets.proofs.ordered_sets.up_to_group.Goals as goal

pub returns : goal.returns
returns c =
    let g = c.args.group_index in
    let all = c.args.entries.now in
    let i = c.partition_point-many.result in
    up_to g all i c.partition_point-many.ensures.bound c.requires.from
    (IsPartitionPoint-from_clause (λ (b : Bor Entry). leb b.now.group_index g) all i c.partition_point-many.ensures.partitioned
    (IsPartitionedBy-leb (λ (b : Bor Entry). b.now.group_index) all g c.requires.rises) (λ a r f called. search rules))
