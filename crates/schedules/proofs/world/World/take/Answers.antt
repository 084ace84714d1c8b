-- Proofs of the goals of `take` (`world`).
use Rattle.std.proofs.Common.{List, ◌≤◌, ◌<◌, length, subst, ◌≡◌, refl, arith}
use Rattle.std.specs.Prelude.{slice_index_or}
use Rattle.schedules.specs.declared.world.Packet.{Packet}
use Rattle.schedules.proofs.Worlds.{nobody_hears, nothing_heard, takes_packet}
use Rattle.schedules.proofs.world.World.take.Goals as goal

pub returns-then-to-len : goal.returns-then-to-len
returns-then-to-len c = λ job w stands. nobody_hears job c.args.self.now w stands c.args.to _ (omega (arith, c.if-to-len.true, c.len.ensures))

pub returns-in_default : goal.returns-in_default
returns-in_default c = λ job w stands.
    nothing_heard job c.args.self.now w stands c.args.to c.args.packet (subst (λ (xs : List Packet). length xs ≤ c.args.packet) c.deref.ensures.value c.in_default.ensures.lookup.3)

pub returns : goal.returns
returns c =
    let sent = subst (λ (xs : List Packet). c.args.packet < length xs) c.deref.ensures.value c.in-Some.ensures.lookup.3.0 in
    let is = subst (λ (xs : List Packet). c.in-Some.packet.now ≡ slice_index_or xs c.args.packet c.in-Some.packet.now) c.deref.ensures.value c.in-Some.ensures.lookup.1 in
    takes_packet c.take_packet.result c.args.self.now _ c.args.to c.args.packet c.index_mut.result.now c.take_packet.new.gather c.in-Some.packet.now (omega (arith, c.if-to-len.false, c.len.ensures)) c.index_mut.ensures.value sent is refl c.take_packet.ensures
