-- Loop invariants of `are_texts` (`plain::check`).
use Rattle.std.proofs.Common.{◌≡◌, drop, length, true}
use Rattle.std.specs.List.{list_all}
use Rattle.std.specs.Str.{IsCharBoundary}
use Rattle.columns.specs.Column.{is_text}
use Rattle.blocks.specs.Plain.{are_ends}
use Rattle.bit_packing.specs.Bytes.{words}
use Rattle.columns.specs.Texts.{texts_from}
use Rattle.blocks.proofs.plain.check.are_texts.Given as goal

abbrev pub invariant-loop-i : goal.invariant-loop-i
invariant-loop-i l =
    let ends = words l.count l.bytes in record {
      texts : list_all is_text (texts_from l.start (drop l.i ends) l.joined) ≡ list_all is_text (texts_from 0 ends l.joined);
      ends : are_ends l.start (drop l.i ends) (length l.joined) ≡ true;
      cut : IsCharBoundary l.joined l.start;
    }
