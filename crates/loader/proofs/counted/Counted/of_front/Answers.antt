-- Proofs of the goals of `Counted::of_front` (`counted`).
use Rattle.std.proofs.Common.{◌+◌, ◌∙◌, ap, arith}
use Rattle.csv.specs.declared.parser.State.{State}
use Rattle.csv.specs.declared.parser.State.TheVariants as st
use Rattle.loader.specs.Counting.{records_left}
use Rattle.loader.proofs.EndedRecords.{left_append}
use Rattle.loader.proofs.counted.Counted.of_front.Goals as goal

pub returns : goal.returns
returns c rest =
    let whole = left_append c.args.front.now rest st.StartRecord in
    ap (λ (s : State). c.from.result + records_left s rest) c.count_block-ended.ensures.state
    ∙ omega (arith, whole, c.from.ensures, c.count_block-ended.ensures.records)
