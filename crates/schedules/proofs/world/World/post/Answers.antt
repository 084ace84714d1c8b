-- Proofs of the goals of `post` (`world`).
use Rattle.std.proofs.Common.{refl}
use Rattle.schedules.specs.declared.world.Packet.TheVariants.{Posted}
use Rattle.schedules.proofs.Worlds.{sent_more}
use Rattle.schedules.proofs.world.World.post.Goals as goal

pub returns : goal.returns
returns c = λ job w stands. sent_more job c.args.self.now w stands c.push.new.self (Posted c.args.bytes) _ c.in_ok-push.ensures.items refl
