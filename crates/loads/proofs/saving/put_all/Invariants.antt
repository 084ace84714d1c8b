-- Loop invariants of `put_all` (`saving`).
use Rattle.std.proofs.Common.{◌≡◌, ◌+◌, ℕ, length, map, take, drop}
use Rattle.folders.specs.Folder.{AsksOf, Writes}
use Rattle.loads.specs.Loading.{AreKnown, put}
use Rattle.loads.proofs.saving.put_all.Given as goal

abbrev pub invariant-loop-ready : goal.invariant-loop-ready
invariant-loop-ready g l =
    let F = g.F.Folder in
    let all = l.fn.files.items in
    (n : ℕ) × (l.files.items ≡ drop n all) × (n + length l.files.items ≡ length all)
    × (AreKnown F.enclosed all → Writes (λ changes. changes ≡ take n (map (put F.enclosed) all)) (F.wrote l.fn.folder) (F.wrote l.folder))
    × AsksOf (F.tries l.fn.folder) (F.tries l.folder)

abbrev pub decreases-loop-ready : goal.decreases-loop-ready
decreases-loop-ready g l = length l.files.items
