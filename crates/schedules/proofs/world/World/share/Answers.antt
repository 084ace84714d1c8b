-- Proofs of the goals of `share` (`world`).
use Rattle.std.proofs.Common.{List, Option, ◌≤◌, ◌<◌, length, sym, subst, ◌≡◌}
use Rattle.std.specs.Prelude.{slice_index_or}
use Rattle.meaning_laws.specs.Heard.{Answers}
use Rattle.meaning_laws.specs.Heard as heard
use Rattle.gathering.specs.Gathering.{GatherSpec}
use Rattle.schedules.specs.World.{Stands}
use Rattle.schedules.specs.declared.world.Packet.TheVariants.{State}
use Rattle.schedules.proofs.Worlds.{holds_at, nobody_shares, sent_more, shared}
use Rattle.schedules.proofs.world.World.share.Goals as goal

pub returns-in_default : goal.returns-in_default
returns-in_default c = λ job w stands.
    let past = subst (λ (xs : List GatherSpec). length xs ≤ c.args.i) c.deref.ensures.value c.in_default.ensures.lookup.3 in
    subst (λ (o : Option Answers). Stands job c.args.self.now (heard.sent w o)) (sym (nobody_shares job c.args.self.now w stands c.args.i past)) stands

pub returns : goal.returns
returns c = λ job w stands.
    let below = subst (λ (xs : List GatherSpec). c.args.i < length xs) c.deref.ensures.value c.in-Some.ensures.lookup.3.0 in
    let is = subst (λ (xs : List GatherSpec). c.in-Some.gather.now ≡ slice_index_or xs c.args.i c.in-Some.gather.now) c.deref.ensures.value c.in-Some.ensures.lookup.1 in
    subst (λ (o : Option Answers). Stands job (record { gathers = c.args.self.now.gathers; packets = c.push.new.self; saved = c.args.self.now.saved }) (heard.sent w o)) (sym (shared job c.args.self.now w stands c.args.i below))
    (sent_more job c.args.self.now w stands c.push.new.self (State c.in_ok-bytes.bytes) _ c.in_ok-push.ensures.items (c.in_ok-bytes.ensures job _ (holds_at job c.args.self.now w stands c.args.i c.in-Some.gather.now below is)))
