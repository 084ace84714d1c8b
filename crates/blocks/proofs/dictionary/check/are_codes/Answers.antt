-- Proofs of the goals of `are_codes` (`dictionary::check`).
use Rattle.std.proofs.Common.{nat_lt, refl, sym, ap, ◌∙◌, arith}
use Rattle.std.specs.List.{list_all}
use Rattle.std.proofs.lemmas.List.{take_all}
use Rattle.bit_packing.specs.Bytes.{shorts}
use Rattle.bit_packing.proofs.Chunks.{get_or-shorts, length-shorts}
use Rattle.blocks.proofs.Frames.{all_more}
use Rattle.blocks.proofs.dictionary.check.are_codes.Goals as goal

pub loop-i-preserved : goal.loop-i-preserved
loop-i-preserved c =
    let codes = shorts c.args.rows c.args.bytes.now in
    let long = length-shorts c.args.rows c.args.bytes.now in
    all_more (λ code. nat_lt code c.args.count) codes c.loop-i.i c.short_at.result _ _ (omega arith) (c.short_at.ensures ∙ sym (get_or-shorts c.args.rows c.loop-i.i c.args.bytes.now c.loop-i-test.true)) c.loop-i.invariant refl

pub returns : goal.returns
returns c =
    let codes = shorts c.args.rows c.args.bytes.now in
    let long = length-shorts c.args.rows c.args.bytes.now in
    c.loop-i.invariant ∙ ap (list_all (λ code. nat_lt code c.args.count)) (take_all c.loop-i.i codes (omega arith))
