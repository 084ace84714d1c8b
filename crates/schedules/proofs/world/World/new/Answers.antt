-- Proofs of the goals of `new` (`world`).
use Rattle.schedules.proofs.Worlds.{all_new}
use Rattle.schedules.proofs.world.World.new.Goals as goal

pub returns : goal.returns
returns c = all_new c.args.job.now _ _ _ c.args.n c.in_ok-new_gathers.ensures.each c.in_ok-new_gathers.ensures.as_many c.new.ensures.items c.in_ok-nothing_saved.ensures
