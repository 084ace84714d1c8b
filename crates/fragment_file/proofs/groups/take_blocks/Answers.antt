-- Proofs of the goals of `take_blocks` (`groups`).
use Rattle.std.proofs.Common.{sym, map}
use Rattle.std.proofs.lemmas.Result.{err_from_is_err_and}
use Rattle.fragment_file.specs.FragmentReading.{blocks_at}
use Rattle.fragment_file.specs.View.{block_in}
use Rattle.fragment_file.proofs.Loops.{blocks_go_on, blocks_fail, blocks_finish}
use Rattle.fragment_file.proofs.Locations.{mapped_push, taken_push}
use Rattle.fragment_file.proofs.groups.take_blocks.Goals as goal

pub returns-in_err-block-clause-read : goal.returns-in_err-block-clause-read
returns-in_err-block-clause-read c =
    let blocks = map (block_in c.args.bytes.now) c.loop-column.locations.items in
    let all = blocks_at c.args.group 0 c.args.columns.now c.args.rows c.args.rest.now in
    let p = err_from_is_err_and c.from_residual.result c.from_residual.ensures.1 in
    rw (p.1, p.2) (λ not_memory. blocks_fail blocks c.args.group c.args.columns.now c.args.rows c.loop-column.column c.loop-column.rest.now c.index-columns-column.result c.in_err-block.field-0.0 all
    c.loop-column-test.true (sym c.index-columns-column.is) c.in_err-block.ensures.read c.loop-column.invariant.0)

pub loop-column-preserved : goal.loop-column-preserved
loop-column-preserved c =
    let blocks = map (block_in c.args.bytes.now) c.loop-column.locations.items in
    let all = blocks_at c.args.group 0 c.args.columns.now c.args.rows c.args.rest.now in
    let goes_on = blocks_go_on blocks c.args.group c.args.columns.now c.args.rows c.loop-column.column c.loop-column.rest.now c.index-columns-column.result c.in_ok-block.block c.in_ok-block.behind.now all
    c.loop-column-test.true (sym c.index-columns-column.is) c.in_ok-block.ensures.read c.loop-column.invariant.0 in
    let end = c.in_ok-block.ensures.behind c.args.bytes.now c.loop-column.invariant.1.end in
    rw c.in_ok-push.ensures.items (
      rw (mapped_push (block_in c.args.bytes.now) c.loop-column.locations.items c.location_of.result c.in_ok-block.block c.location_of.ensures.value) goes_on,
      taken_push c.args.bytes.now c.loop-column.locations.items c.location_of.result c.loop-column.rest.now c.in_ok-block.block.payload c.in_ok-block.behind.now c.loop-column.invariant.1 c.location_of.ensures.within end,
    )

pub returns-clause-read : goal.returns-clause-read
returns-clause-read c =
    let blocks = map (block_in c.args.bytes.now) c.loop-column.locations.items in
    let all = blocks_at c.args.group 0 c.args.columns.now c.args.rows c.args.rest.now in
    blocks_finish blocks c.args.group c.args.columns.now c.args.rows c.loop-column.column c.loop-column.rest.now all c.loop-column-test.false c.loop-column.invariant.0
