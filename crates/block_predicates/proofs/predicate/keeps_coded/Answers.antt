-- Proofs of the goals of `keeps_coded` (`predicate`).
use Rattle.std.proofs.Common.{◌∙◌, ◌-◌, ◌*◌, false, length, drop, get_or, ap, refl, arith}
use Rattle.bit_packing.proofs.Chunks.{length-shorts}
use Rattle.blocks.specs.Block.{body_of, nulls_of}
use Rattle.blocks.specs.DictionaryView.{DictionarySpec}
use Rattle.block_predicates.proofs.RowMarks.{coded_kept}
use Rattle.block_predicates.proofs.predicate.keeps_coded.Goals as goal

pub code-requires : goal.code-requires
code-requires c =
    let b = c.args.block.now in
    let long = ap (λ (d : DictionarySpec). length d.codes) c.requires.dictionary ∙ length-shorts b.rows (drop (length (body_of b) - 2 * b.rows) (body_of b)) in
    let within = c.requires.within in
    omega (arith, long, within)

pub returns : goal.returns
returns c =
    let b = c.args.block.now in
    coded_kept b c.args.marks.now c.args.row c.code.result (get_or (nulls_of b) c.args.row false) c.keeps.result c.requires.within c.requires.kind refl
    (c.code.ensures.value ∙ ap (λ (d : DictionarySpec). get_or d.codes c.args.row 0) c.requires.dictionary) c.keeps.ensures
