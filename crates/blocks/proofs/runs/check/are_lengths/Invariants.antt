-- Loop invariants of `are_lengths` (`runs::check`).
use Rattle.std.proofs.Common.{◌≡◌, ◌+◌, ◌*◌, ◌≤◌, drop, nat_le, sum}
use Rattle.std.specs.List.{list_all}
use Rattle.bit_packing.specs.Bytes.{shorts}
use Rattle.blocks.proofs.runs.check.are_lengths.Given as goal

abbrev pub invariant-loop-i : goal.invariant-loop-i
invariant-loop-i l =
    let lengths = shorts l.count l.bytes in record {
      long : list_all (λ n. nat_le 1 n) (drop l.i lengths) ≡ list_all (λ n. nat_le 1 n) lengths;
      total : l.total + sum (drop l.i lengths) ≡ sum lengths;
      small : l.total ≤ 65535 * l.i;
    }
