-- Loop invariants of `text_size_at` (`dictionary::within`).
use Rattle.std.proofs.Common.{◌≡◌, ◌≤◌, ◌*◌, ◌-◌, map, take, drop}
use Rattle.meaning.specs.declared.value.ColType.TheVariants as of_type
use Rattle.meaning.specs.declared.value.Value.TheVariants.{Text}
use Rattle.blocks.specs.Plain.{form_size}
use Rattle.blocks.specs.Plain.{cells_at}
use Rattle.encodings.proofs.dictionary.within.text_size_at.Given as goal

abbrev pub invariant-loop-row : goal.invariant-loop-row
invariant-loop-row l = record {
  value : l.total ≡ form_size of_type.Text (cells_at (map Text (take (l.to - l.from) (drop l.from l.texts))) (take l.row-index l.rows));
  bound : l.total ≤ 65539 * l.row-index;
}
