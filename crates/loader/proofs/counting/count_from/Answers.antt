-- Proofs of the goals of `count_from` (`counting`).
use Rattle.std.proofs.Common.{◌≡◌, ◌∙◌, ℕ, subst, take}
use Rattle.std.specs.Prelude.{IfOk}
use Rattle.loader.proofs.Marks.{all_read, block_counted, none_in_front}
use Rattle.loader.proofs.counting.count_from.Goals as goal

pub returns-then-filled-eq0-clause-counted : goal.returns-then-filled-eq0-clause-counted
returns-then-filled-eq0-clause-counted g c all start =
    let filled = c.in_ok-filled.filled in
    let block = c.read_block.new.block in
    let done = all_read g.R.Read.remaining c.loop.reader c.read_block.new.reader all c.loop.counted (take filled block) c.in_ok-filled.ensures.read (none_in_front filled block c.if-filled-eq0.true) (c.loop.invariant.1 all start) in
    subst (λ (n : ℕ). IfOk c.at_end.result (λ m. m ≡ n)) done c.at_end.ensures.counted

pub loop-preserved : goal.loop-preserved
loop-preserved g c =
    let filled = c.in_ok-filled.filled in
    let block = c.read_block.new.block in (
      c.read_block.ensures.length ∙ c.loop.invariant.0,
      λ all start. block_counted g.R.Read.remaining c.loop.reader c.read_block.new.reader all c.loop.counted c.in_ok-counted.counted (take filled block) c.in_ok-filled.ensures.read c.in_ok-counted.ensures.counted (c.loop.invariant.1 all start),
    )
