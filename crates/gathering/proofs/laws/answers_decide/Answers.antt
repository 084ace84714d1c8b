-- Proofs of the goals of `answers_decide` (`laws`).
use Rattle.std.proofs.Common.{List, ap}
use Rattle.meaning.specs.Said.{Cell}
use Rattle.meaning.specs.Gather.{report}
use Rattle.meaning.specs.Print.{report_text}
use Rattle.meaning_laws.proofs.Cells.{same_state}
use Rattle.partial_codec.specs.State.{state_bytes}
use Rattle.gathering.proofs.laws.answers_decide.Goals as goal

pub returns : goal.returns
returns c = λ job xs ys same.
    let states = same_state job.cut xs ys same in
    record {
      state = states;
      bytes = ap (λ (cells : List Cell). state_bytes job cells) states;
      print = ap (λ (cells : List Cell). report_text job.plan (report job.plan cells)) states;
    }
