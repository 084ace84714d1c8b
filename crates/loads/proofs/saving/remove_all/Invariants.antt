-- Loop invariants of `remove_all` (`saving`).
use Rattle.std.proofs.Common.{◌≡◌, map, take}
use Rattle.folders.specs.Folder.{AsksOf, Writes}
use Rattle.loads.specs.Loading.{gone}
use Rattle.loads.proofs.saving.remove_all.Given as goal

abbrev pub invariant-loop-path : goal.invariant-loop-path
invariant-loop-path g l =
    let F = g.F.Folder in
    Writes (λ changes. changes ≡ take l.path-index (map gone l.fn.paths)) (F.wrote l.fn.folder) (F.wrote l.folder)
    × AsksOf (F.tries l.fn.folder) (F.tries l.folder)
