-- Loop invariants of `are_marked_blank` (`cells`).
use Rattle.std.proofs.Common.{◌≡◌, ◌+◌, ◌-◌, ◌*◌, ◌/◌, ◌^◌, ◌≤◌}
use Rattle.blocks.specs.Block.{body_cells}
use Rattle.blocks.specs.Block.{are_blank_from}
use Rattle.bit_packing.proofs.MaskWindows.{window}
use Rattle.blocks.proofs.cells.are_marked_blank.Given as goal

abbrev pub invariant-loop-marks : goal.invariant-loop-marks
invariant-loop-marks l = record {
  behind : are_blank_from l.row l.rows l.mask (body_cells l.kind l.col_type l.rows l.body) ≡ are_blank_from (8 * l.byte) l.rows l.mask (body_cells l.kind l.col_type l.rows l.body);
  shifted : l.marks ≡ window l.byte l.mask / 2 ^ (l.row - 8 * l.byte);
  low : 8 * l.byte ≤ l.row;
  high : l.row ≤ 8 * l.byte + 64;
}

abbrev pub decreases-loop-marks : goal.decreases-loop-marks
decreases-loop-marks l = 8 * l.byte + 64 - l.row
