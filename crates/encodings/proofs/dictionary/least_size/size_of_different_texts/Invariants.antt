-- Loop invariants of `size_of_different_texts` (`dictionary::least_size`).
use Rattle.std.proofs.Common.{◌≡◌, ◌-◌, ◌*◌, ◌≤◌, length, map, take, drop}
use Rattle.meaning.specs.declared.value.ColType.TheVariants as of_type
use Rattle.meaning.specs.declared.value.Value.TheVariants.{Text}
use Rattle.meaning.specs.Order.{value_cmp, ascending_set}
use Rattle.blocks.specs.Plain.{form_size}
use Rattle.encodings.proofs.Marks.{AreMarked}
use Rattle.encodings.proofs.dictionary.least_size.size_of_different_texts.Given as goal

abbrev pub invariant-loop-row : goal.invariant-loop-row
invariant-loop-row l =
    let cells = map Text (take (l.to - l.from) (drop l.from l.texts)) in record {
      within : l.row ≤ l.to - l.from;
      slots : length l.marks ≡ 32768;
      marked : AreMarked l.marks cells l.row;
      size : l.size ≤ form_size of_type.Text (ascending_set value_cmp (drop l.row cells));
      few : l.size ≤ 65539 * (l.to - l.from - l.row);
    }
