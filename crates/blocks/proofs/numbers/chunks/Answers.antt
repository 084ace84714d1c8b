-- Proofs of the goals of `chunks` (`numbers`).
use Rattle.std.proofs.Common.{◌≡◌, ◌/◌, length, take, ap, ◌∙◌}
use Rattle.std.specs.Simd.{first_chunks}
use Rattle.std.proofs.lemmas.Nat.{le-div}
use Rattle.blocks.proofs.ReadLists.{take-first_chunks, length-first_chunks}
use Rattle.blocks.proofs.numbers.chunks.Goals as goal

pub returns : goal.returns
returns g c =
    let e : take c.args.count c.as_chunks.result.0.now ≡ first_chunks g.row.N c.args.count c.args.bytes.now
    = ap (take c.args.count) c.as_chunks.ensures.front
    ∙ take-first_chunks g.row.N c.args.count (length c.args.bytes.now / g.row.N) c.args.bytes.now
    (le-div c.args.count (length c.args.bytes.now) g.row.N c.requires.size c.requires.within) in
    record { value = e; len = ap length e ∙ length-first_chunks g.row.N c.args.count c.args.bytes.now }
