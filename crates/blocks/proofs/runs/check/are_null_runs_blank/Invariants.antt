-- Loop invariants of `are_null_runs_blank` (`runs::check`).
use Rattle.std.proofs.Common.{◌≡◌, ◌+◌, ◌-◌, drop, map, zip, sum}
use Rattle.std.specs.List.{list_all, range_with_len}
use Rattle.bit_packing.specs.Bits.{bit_at}
use Rattle.blocks.specs.Runs.{repeated, run_cells, run_lengths, run_values}
use Rattle.blocks.proofs.NullRuns.{is_unmasked_or_blank}
use Rattle.blocks.proofs.runs.check.are_null_runs_blank.Given as goal

abbrev pub invariant-loop-run : goal.invariant-loop-run
invariant-loop-run l = record {
  rows : l.start + sum (drop l.run (run_lengths l.body)) ≡ l.rows;
  blank : list_all is_unmasked_or_blank (zip (map (bit_at l.mask) (range_with_len l.start (l.rows - l.start))) (repeated (drop l.run (zip (run_values l.fn.col_type l.body) (run_lengths l.body))))) ≡ list_all is_unmasked_or_blank (zip (map (bit_at l.mask) (range_with_len 0 l.rows)) (run_cells l.fn.col_type l.body));
}
