-- Loop invariants of `mark_conditions` (`marked`).
use Rattle.std.proofs.Common.{take}
use Rattle.std.specs.List.{AllZip}
use Rattle.fragment_file.specs.Lent.{blocks_in}
use Rattle.scan_select.specs.OnBlocks.{AreMarkedOn, IsMarkedWhere}
use Rattle.scan_select.proofs.marked.mark_conditions.Given as goal

abbrev pub invariant-loop-condition : goal.invariant-loop-condition
invariant-loop-condition l =
    AreMarkedOn (blocks_in l.group) (take l.condition-index l.conditions) l.marks.items
    × AllZip (IsMarkedWhere (blocks_in l.group) l.most) (take l.condition-index l.conditions) l.marks.items
