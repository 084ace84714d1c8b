-- Proofs of the goals of `behind_block` (`blocks`).
use Rattle.std.proofs.Common.{◌∙◌, sym}
use Rattle.loader.specs.Counting.{state_at}
use Rattle.loader.proofs.EndedRecords.{behind_all}
use Rattle.loader.proofs.blocks.behind_block.Goals as goal

pub returns-in-Some : goal.returns-in-Some
returns-in-Some c = c.behind_plain.ensures ∙ sym (behind_all c.args.block.now (state_at c.args.state) c.in-Some.byte.now c.requires.plain c.requires.unquoted (sym c.in-Some.ensures.value))
