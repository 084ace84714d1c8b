-- Loop invariants of `fields_in` (`header`).
use Rattle.std.proofs.Common.{◌≡◌, map, take}
use Rattle.csv.specs.Records.{fields_of}
use Rattle.loader.proofs.header.fields_in.Given as goal

abbrev pub invariant-loop-i : goal.invariant-loop-i
invariant-loop-i l = map (λ field. field.now) l.fields.items ≡ take l.i (fields_of l.row)
