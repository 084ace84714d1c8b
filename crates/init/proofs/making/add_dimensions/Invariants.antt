-- Loop invariants of `add_dimensions` (`making`).
use Rattle.std.proofs.Common.{◌≡◌, List, [], map, take, ℕ}
use Rattle.std.specs.Io.KnownBytes.{Appends}
use Rattle.init.specs.Guessed.{AreDimensionsOf, others}
use Rattle.init.specs.Saying.{AreSaid}
use Rattle.init.proofs.making.add_dimensions.Given as goal

abbrev pub invariant-loop-file : goal.invariant-loop-file
invariant-loop-file g l = (l.fn.dims.items ≡ [])
    → AreDimensionsOf (g.F.Folder.holds l.fn.folder) l.fn.directory (others l.fn.fact (take l.file-index l.fn.files)) (map (λ keyed. keyed.dimension) l.dims.items)
    × (text : List ℕ) × AreSaid (g.F.Folder.holds l.fn.folder) l.fn.directory (map (λ keyed. keyed.dimension) l.dims.items) text × Appends (g.E.Write.contents l.fn.err) (g.E.Write.contents l.err) text
