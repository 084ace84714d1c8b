-- Proofs of the goals of `CountAcc::add_ints` (`count_acc`).
use Rattle.std.proofs.Common.{ap, sym, ◌∙◌}
use Rattle.meaning.specs.declared.answer.Statistics.{Statistics}
use Rattle.meaning.specs.Aggregate.{merge}
use Rattle.aggregate_states.proofs.Growing.{count_of_ints}
use Rattle.accumulators.proofs.count_acc.CountAcc.add_ints.Goals as goal

pub returns : goal.returns
returns c = c.add_many.ensures ∙ ap (λ (s : Statistics). merge c.args.self.now s) (sym (count_of_ints c.args.ints.now))
