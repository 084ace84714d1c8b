-- Proofs of the goals of `row_at` (`showing`).
use Rattle.last_step.proofs.ShownRows.{spelled_at}
use Rattle.last_step.proofs.showing.row_at.Goals as goal

pub owned_value-requires : goal.owned_value-requires
owned_value-requires c = spelled_at c.args.items.now c.args.lane c.loop-item.item-index c.item-item.result c.loop-item-test.true c.item-item.is c.requires
