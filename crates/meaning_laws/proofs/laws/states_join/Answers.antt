-- Proofs of the goals of `states_join` (`laws`).
use Rattle.meaning_laws.proofs.Cells.{same_state, joined-append}
use Rattle.meaning_laws.proofs.Absorb.{joined-push}
use Rattle.meaning_laws.proofs.laws.states_join.Goals as goal

pub returns : goal.returns
returns c = record {
  same = same_state;
  together = joined-append;
  one_more =
      λ cut answers a. joined-push answers a cut;
}
