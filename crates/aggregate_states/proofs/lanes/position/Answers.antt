-- Proofs of the goals of `position` (`lanes`).
use Rattle.std.proofs.Common.{refl}
use Rattle.aggregate_states.proofs.Selected.{all_within, all_at}
use Rattle.aggregate_states.proofs.lanes.position.Goals as goal

pub returns-in-None-clause-value : goal.returns-in-None-clause-value
returns-in-None-clause-value c = all_at c.args.selection.now (c.in-None.ensures.all refl) c.args.k c.requires

pub returns-in-None-clause-within : goal.returns-in-None-clause-within
returns-in-None-clause-within c = all_within c.args.selection.now (c.in-None.ensures.all refl) c.args.k c.requires
