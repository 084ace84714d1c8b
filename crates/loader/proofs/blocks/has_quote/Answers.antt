-- Proofs of the goals of `has_quote` (`blocks`).
use Rattle.std.proofs.Common.{◌∙◌}
use Rattle.loader.specs.Counting.{is_quote}
use Rattle.loader.proofs.Lines.{is_found_any}
use Rattle.loader.proofs.blocks.has_quote.Goals as goal

pub returns : goal.returns
returns c = c.is_some.ensures ∙ is_found_any is_quote c.args.block.now c.memchr.result c.memchr.ensures
