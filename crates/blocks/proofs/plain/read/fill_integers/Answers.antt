-- Proofs of the goals of `fill_integers` (`plain::read`).
use Rattle.std.proofs.Common.{◌≡◌, ℕ, ◌+◌, ◌<◌, List, [], length, drop, map, sym, ◌∙◌, arith, ℤ, pos}
use Rattle.std.proofs.lemmas.List.{length-map, length-drop, get_or-drop, get_or-map}
use Rattle.bit_packing.specs.Bytes.{integer_of}
use Rattle.bit_packing.proofs.Ranges.{stored}
use Rattle.blocks.proofs.ReadLists.{step-list}
use Rattle.blocks.proofs.plain.read.fill_integers.Goals as goal

pub loop-i-preserved : goal.loop-i-preserved
loop-i-preserved c =
    let cells = c.args.cells.now in
    let from : ℕ = c.args.from in
    let i : ℕ = c.loop-i.i in
    let ints : List ℤ = map integer_of cells in
    let l : length ints ≡ length cells = length-map cells integer_of in
    let k : i < length (drop from ints) = omega (arith, l, length-drop from ints) in
    step-list c.loop-i.out (drop from ints) i _ (pos 0) (omega arith) k c.loop-i.invariant
    (stored c.from_le_bytes.result c.from_le_bytes.type_inv ∙ c.from_le_bytes.ensures
    ∙ sym (get_or-map integer_of cells (from + i) [] (pos 0) (omega arith)) ∙ sym (get_or-drop from ints i (pos 0)))
