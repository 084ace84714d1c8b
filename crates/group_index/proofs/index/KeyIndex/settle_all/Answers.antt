-- Proofs of the goals of `settle_all` (`index`).
use Rattle.group_index.proofs.SettledInts.{one_settled}
use Rattle.group_index.proofs.index.KeyIndex.settle_all.Goals as goal

pub loop-k-preserved : goal.loop-k-preserved
loop-k-preserved c =
    one_settled c.args.ints.now c.args.self.now.keys c.loop-k.k c.loop-k.group_indexes.items c.loop-k.self.keys c.settle.new.self.keys c.in_ok-group_indexes.field-0
    c.loop-k-test.true c.in_ok-group_indexes.ensures c.loop-k.invariant
