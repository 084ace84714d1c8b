-- Proofs of the goals of `take_packet` (`taking`).
use Rattle.schedules.proofs.Taken.{of_state}
use Rattle.schedules.proofs.taking.take_packet.Goals as goal

pub returns-in-State : goal.returns-in-State
returns-in-State c = of_state c.take_state.result c.args.packet.now c.in-State.bytes c.deref.result.now c.args.gather.now c.take_state.new.gather c.in-State.is c.deref.ensures.value c.take_state.ensures
