-- Proofs of the goals of `Fragments::put` (`states`).
use Rattle.std.proofs.Common.{string_bytes}
use Rattle.answer_text.proofs.Cells.{all_put}
use Rattle.answer_text.proofs.states.Fragments.put.Goals as goal

pub returns : goal.returns
returns c =
    all_put c.args.self.now c.put_ranges-3.result (string_bytes c.args.out.now) (string_bytes c.put_ranges.new.out) (string_bytes c.put_ranges-2.new.out) (string_bytes c.put_ranges-3.new.out) c.as_slice.result.now c.as_slice-2.result.now c.as_slice-3.result.now
    c.as_slice.ensures.value c.as_slice-2.ensures.value c.as_slice-3.ensures.value c.in_ok-put_ranges.ensures c.in_ok-put_ranges-2.ensures c.put_ranges-3.ensures
