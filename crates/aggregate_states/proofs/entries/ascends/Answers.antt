-- Proofs of the goals of `ascends` (`entries`).
use Rattle.std.proofs.Common.{◌-◌, sym, ◌∙◌, arith}
use Rattle.aggregate_states.proofs.Once.{ascends_end}
use Rattle.aggregate_states.proofs.entries.ascends.Goals as goal

pub returns : goal.returns
returns c = sym (c.loop-i.invariant ∙ ascends_end c.args.values.now (c.loop-i.i - 1) (omega arith))
