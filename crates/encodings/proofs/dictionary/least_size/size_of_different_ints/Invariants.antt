-- Loop invariants of `size_of_different_ints` (`dictionary::least_size`).
use Rattle.std.proofs.Common.{◌≡◌, ◌-◌, ◌*◌, ◌≤◌, length, map, drop}
use Rattle.meaning.specs.declared.value.ColType.TheVariants as of_type
use Rattle.meaning.specs.declared.value.Value.TheVariants.{Int}
use Rattle.meaning.specs.Order.{value_cmp, ascending_set}
use Rattle.blocks.specs.Plain.{form_size}
use Rattle.encodings.proofs.Marks.{AreMarked}
use Rattle.encodings.proofs.dictionary.least_size.size_of_different_ints.Given as goal

abbrev pub invariant-loop-row : goal.invariant-loop-row
invariant-loop-row l =
    let cells = map Int l.ints in record {
      within : l.row ≤ length l.ints;
      slots : length l.marks ≡ 32768;
      marked : AreMarked l.marks cells l.row;
      size : l.size ≤ form_size of_type.Int (ascending_set value_cmp (drop l.row cells));
      few : l.size ≤ 65539 * (length l.ints - l.row);
    }
