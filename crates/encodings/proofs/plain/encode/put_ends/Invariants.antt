-- Loop invariants of `put_ends` (`plain::encode`).
use Rattle.std.proofs.Common.{◌≡◌, ◌++◌, ◌-◌, ◌≤◌, ◌*◌, take, drop, length}
use Rattle.std.specs.List.{flat_map, concat}
use Rattle.meaning.specs.Limits.{max_text_bytes}
use Rattle.columns.specs.Texts.{ends_from}
use Rattle.blocks.specs.Numbers.{word_bytes}
use Rattle.encodings.proofs.plain.encode.put_ends.Given as goal

abbrev pub invariant-loop-row : goal.invariant-loop-row
invariant-loop-row l = record {
  end_is : l.end ≡ length (concat (take (l.row - l.from) (drop l.from l.texts)));
  bound : l.end ≤ max_text_bytes * (l.row - l.from);
  written : l.out.items ≡ l.initial.out.items ++ flat_map word_bytes (ends_from 0 (take (l.row - l.from) (drop l.from l.texts)));
}
