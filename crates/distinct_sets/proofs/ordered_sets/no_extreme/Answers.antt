-- Proofs of the goals of `no_extreme` (`ordered_sets`).
use Rattle.std.specs.List.{range_with_len}
use Rattle.distinct_sets.proofs.Extremes.{keep_none}
use Rattle.distinct_sets.proofs.ordered_sets.no_extreme.Goals as goal

pub returns : goal.returns
returns c = λ entries groups group_index. keep_none c.args.end entries (range_with_len 0 groups) group_index
