-- Loop invariants of `names_of` (`writing`).
use Rattle.std.proofs.Common.{◌≡◌, ◌++◌, codes, drop, string_bytes}
use Rattle.std.specs.Prelude.{flat_map}
use Rattle.init.specs.Saying.{column_name, names_text}
use Rattle.init.proofs.writing.names_of.Given as goal

abbrev pub invariant-loop-index : goal.invariant-loop-index
invariant-loop-index l = string_bytes l.names ++ flat_map (λ i. codes ", " ++ column_name l.table i) (drop l.index-index l.others) ≡ names_text l.table l.columns
