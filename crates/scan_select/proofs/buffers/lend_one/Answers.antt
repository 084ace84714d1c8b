-- Proofs of the goals of `lend_one` (`buffers`).
use Rattle.std.proofs.Common.{◌≤◌, ◌+◌, ◌∙◌, ℕ, length, take, drop, ap, sym, subst}
use Rattle.std.proofs.lemmas.List.{length-map}
use Rattle.meaning.specs.declared.outcome.Outcome.TheVariants as gives
use Rattle.blocks.specs.Block.{values_of}
use Rattle.fragment_file.specs.Lent.{blocks_in}
use Rattle.scan_select.specs.Buffers.{block_of}
use Rattle.scan_select.proofs.Masks.{length-window}
use Rattle.scan_select.proofs.buffers.lend_one.Goals as goal

pub push-requires : goal.push-requires
push-requires c =
    let block = block_of (blocks_in c.args.group.now) c.args.buffer.now.column in
    let within = subst (λ (n : ℕ). c.args.first + n ≤ block.rows) (sym c.rows.ensures) c.requires.within in
    ap length c.in_ok-lanes.ensures.values ∙ length-map (take c.rows.result (drop c.args.first (values_of block))) gives.Value ∙ length-window block c.args.first c.rows.result c.requires.sound within
    ∙ c.rows.ensures
