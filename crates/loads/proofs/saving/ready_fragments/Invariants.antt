-- Loop invariants of `ready_fragments` (`saving`).
use Rattle.std.proofs.Common.{◌≡◌, ◌+◌, length, take, drop}
use Rattle.std.specs.List.{enumerate_from}
use Rattle.folders.specs.Each.{AreEach}
use Rattle.loads.specs.Loading.{IsReadyUnder}
use Rattle.loads.proofs.saving.ready_fragments.Given as goal

abbrev pub invariant-loop-file : goal.invariant-loop-file
invariant-loop-file g l =
    let all = l.fn.files.items in
    (l.files.items ≡ drop l.fragment all) × (l.fragment + length l.files.items ≡ length all)
    × AreEach (IsReadyUnder l.target.directory.now l.target.catalog.now.fact) (enumerate_from 0 (take l.fragment all)) l.ready.items

abbrev pub decreases-loop-file : goal.decreases-loop-file
decreases-loop-file g l = length l.files.items
