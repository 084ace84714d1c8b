-- Loop invariants of `put_ends_at` (`plain::encode`).
use Rattle.std.proofs.Common.{◌≡◌, ◌++◌, ◌≤◌, ◌*◌, ◌-◌, take, drop, length}
use Rattle.std.specs.List.{flat_map, concat}
use Rattle.meaning.specs.Limits.{max_text_bytes}
use Rattle.columns.specs.Texts.{ends_from}
use Rattle.blocks.specs.Numbers.{word_bytes}
use Rattle.blocks.specs.Plain.{texts_at}
use Rattle.encodings.proofs.plain.encode.put_ends_at.Given as goal

abbrev pub invariant-loop-row : goal.invariant-loop-row
invariant-loop-row l = record {
  end_is : l.end ≡ length (concat (texts_at (take (l.to - l.from) (drop l.from l.texts)) (take l.row-index l.rows)));
  bound : l.end ≤ max_text_bytes * l.row-index;
  written : l.out.items ≡ l.initial.out.items ++ flat_map word_bytes (ends_from 0 (texts_at (take (l.to - l.from) (drop l.from l.texts)) (take l.row-index l.rows)));
}
