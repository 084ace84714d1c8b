-- Proofs of the goals of `Totals::add_groups` (`totals`).
use Rattle.std.proofs.Common.{refl, sym}
use Rattle.meaning.specs.Judge.{fault_cmp}
use Rattle.meaning.proofs.Least.{lesser_none}
use Rattle.gathering.proofs.LiveTotals.{table_more}
use Rattle.gathering.proofs.totals.Totals.add_groups.Goals as goal

pub returns-clause-added : goal.returns-clause-added
returns-clause-added c = record {
  table = table_more c.args.self.now.table _ c.args.groups.now c.in_ok-take.ensures.taken;
  least = sym (lesser_none fault_cmp c.args.self.now.least);
  earlier = refl;
}
