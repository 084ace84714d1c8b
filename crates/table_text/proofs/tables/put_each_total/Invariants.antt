-- Loop invariants of `put_each_total` (`tables`).
use Rattle.std.proofs.Common.{◌≡◌, ◌++◌, map, string_bytes, take}
use Rattle.table_text.specs.TableText.{each_total_text}
use Rattle.table_text.proofs.tables.put_each_total.Given as goal

abbrev pub invariant-loop-number : goal.invariant-loop-number
invariant-loop-number l = string_bytes l.out ≡ string_bytes l.fn.out ++ each_total_text l.rows (map (λ g. g.items) l.groups) (take l.number l.columns)
