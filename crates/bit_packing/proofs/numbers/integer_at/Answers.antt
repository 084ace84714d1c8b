-- Proofs of the goals of `integer_at` (`numbers`).
use Rattle.std.proofs.Common.{◌∙◌, ap, get_or, [], rules}
use Rattle.std.specs.Int.{w64}
use Rattle.std.specs.Int.RustNames.{FitsSigned}
use Rattle.std.proofs.lemmas.Int.{to_z-of_z}
use Rattle.bit_packing.specs.Bytes.{integer_of}
use Rattle.bit_packing.proofs.Chunks.{get_or-first_chunks}
use Rattle.bit_packing.proofs.numbers.integer_at.Goals as goal

pub returns : goal.returns
returns c =
    let fits : FitsSigned w64 c.from_le_bytes.result = search rules in
    let same = ap (λ xs. get_or xs c.args.i []) c.as_chunks.ensures.front ∙ get_or-first_chunks 8 _ c.args.i c.args.bytes.now c.requires in
    to_z-of_z w64 c.from_le_bytes.result fits ∙ c.from_le_bytes.ensures ∙ ap integer_of same
