-- Proofs of the goals of `count_plain` (`blocks`).
use Rattle.std.proofs.Common.{◌+◌, ◌||◌, arith, sym, subst}
use Rattle.loader.specs.Counting.{state_at}
use Rattle.loader.proofs.EndedRecords.{from_bool_few}
use Rattle.loader.proofs.Lines.{IsCounted, all_counted, line_more, line_shorter, none_counted}
use Rattle.loader.proofs.blocks.count_plain.Goals as goal

pub loop-has_bytes-init : goal.loop-has_bytes-init
loop-has_bytes-init c =
    subst (λ within. IsCounted (state_at c.args.state) c.args.block.now within 0 c.args.block.now) (sym c.is_open-within.ensures)
    (none_counted (state_at c.args.state) c.args.block.now c.requires.unquoted c.requires.plain)

pub overflow_add-records : goal.overflow_add-records
overflow_add-records c =
    let few = c.loop-has_bytes.invariant.few in
    let shorter = line_shorter (state_at c.args.state) c.args.block.now c.loop-has_bytes.within c.loop-has_bytes.records c.loop-has_bytes.rest.now c.loop-has_bytes.invariant c.in-Some.has_bytes c.in-Some.others.now c.in-Some.ensures.split in
    let one = from_bool_few (c.loop-has_bytes.within || c.in-Some.has_bytes) in
    omega (arith, few, shorter, one, c.requires.few, c.from-records.ensures)

pub loop-has_bytes-smaller : goal.loop-has_bytes-smaller
loop-has_bytes-smaller c = line_shorter (state_at c.args.state) c.args.block.now c.loop-has_bytes.within c.loop-has_bytes.records c.loop-has_bytes.rest.now c.loop-has_bytes.invariant c.in-Some.has_bytes c.in-Some.others.now c.in-Some.ensures.split

pub loop-has_bytes-preserved : goal.loop-has_bytes-preserved
loop-has_bytes-preserved c =
    subst (λ n. IsCounted (state_at c.args.state) c.args.block.now _ (c.loop-has_bytes.records + n) c.in-Some.others.now) (sym c.from-records.ensures)
    (line_more (state_at c.args.state) c.args.block.now c.loop-has_bytes.within c.loop-has_bytes.records c.loop-has_bytes.rest.now c.loop-has_bytes.invariant c.in-Some.has_bytes c.in-Some.others.now c.in-Some.ensures.split)

pub returns : goal.returns
returns c = all_counted (state_at c.args.state) c.args.block.now c.loop-has_bytes.within c.loop-has_bytes.records c.loop-has_bytes.rest.now c.loop-has_bytes.invariant (c.behind_line.ensures.none c.in_default.is)
