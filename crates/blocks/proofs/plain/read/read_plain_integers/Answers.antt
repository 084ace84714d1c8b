-- Proofs of the goals of `read_plain_integers` (`plain::read`).
use Rattle.std.proofs.Common.{ℕ, length, take, drop, map, ap, ◌∙◌}
use Rattle.meaning.specs.declared.value.Value.TheVariants.{Int}
use Rattle.bit_packing.specs.Bytes.{integer_of}
use Rattle.blocks.proofs.ReadBodies.{part-map}
use Rattle.blocks.proofs.plain.read.read_plain_integers.Goals as goal

pub returns : goal.returns
returns c =
    let body = c.args.body.now in
    let rows : ℕ = c.args.rows in
    let from : ℕ = c.args.from in
    let n : ℕ = length c.args.out.now in
    ap (map Int) c.fill_integers.ensures
    ∙ part-map Int n from (map integer_of c.chunks.result.now)
    ∙ ap (λ cells. take n (drop from (map Int (map integer_of cells)))) c.chunks.ensures.value
