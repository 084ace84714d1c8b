-- Loop invariants of `removal_paths` (`saving`).
use Rattle.std.proofs.Common.{◌≡◌, ◌≤◌, ◌-◌, length, map}
use Rattle.std.specs.List.{range_with_len}
use Rattle.meaning.specs.Limits.{max_fragments}
use Rattle.folders.specs.Folder.{fragment_path}
use Rattle.loads.proofs.saving.removal_paths.Given as goal

abbrev pub invariant-loop-fragment : goal.invariant-loop-fragment
invariant-loop-fragment l =
    (length l.cut ≤ l.fragment) × (l.fragment ≤ max_fragments)
    × (l.paths.items ≡ map (fragment_path l.target.directory.now l.target.catalog.now.fact.name) (range_with_len (length l.cut) (l.fragment - length l.cut)))
