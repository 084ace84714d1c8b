-- Proofs of the goals of `block_lanes` (`marks`).
use Rattle.std.proofs.Common.{subst}
use Rattle.wire.proofs.Numbers.{IsBytes}
use Rattle.block_predicates.proofs.TypedEntries.{lanes_typed, lent_typed}
use Rattle.block_predicates.proofs.marks.block_lanes.Goals as goal

pub entry_lanes-requires : goal.entry_lanes-requires
entry_lanes-requires c =
    lent_typed c.args.block.now c.args.entries.now c.args.count c.col_type.result c.len-rows.ensures.sound (subst IsBytes c.payload.ensures c.are_bytes.ensures) c.requires c.col_type.ensures

pub returns-clause-fits : goal.returns-clause-fits
returns-clause-fits c = lanes_typed c.args.block.now c.args.count c.len-rows.ensures.sound (subst IsBytes c.payload.ensures c.are_bytes.ensures)
