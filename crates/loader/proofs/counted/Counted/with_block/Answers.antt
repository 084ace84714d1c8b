-- Proofs of the goals of `Counted::with_block` (`counted`).
use Rattle.std.proofs.Common.{◌+◌, ◌∙◌, ap, arith}
use Rattle.csv.specs.declared.parser.State.{State}
use Rattle.loader.specs.Counting.{records_left, state_at}
use Rattle.loader.proofs.EndedRecords.{left_append}
use Rattle.loader.proofs.counted.Counted.with_block.Goals as goal

pub returns-in-Some-clause-counted : goal.returns-in-Some-clause-counted
returns-in-Some-clause-counted c rest =
    let whole = left_append c.args.block.now rest (state_at c.args.self.state) in
    ap (λ (s : State). c.in-Some.records + records_left s rest) c.count_block-ended.ensures.state
    ∙ omega (arith, whole, c.in-Some.ensures, c.from.ensures, c.count_block-ended.ensures.records)
