-- Proofs of the goals of `save` (`world`).
use Rattle.std.proofs.Common.{List, Some, ◌≤◌, ◌<◌, length, subst, ◌≡◌, refl, arith}
use Rattle.std.specs.Prelude.{slice_index_or}
use Rattle.gathering.specs.Gathering.{GatherSpec}
use Rattle.schedules.proofs.Worlds.{holds_at, nobody_saves, nowhere_saved, saved_set}
use Rattle.schedules.proofs.world.World.save.Goals as goal

pub returns-in_default : goal.returns-in_default
returns-in_default c = λ job w stands.
    nobody_saves job c.args.self.now w stands c.args.i _ (subst (λ (xs : List GatherSpec). length xs ≤ c.args.i) c.deref.ensures.value c.in_default.ensures.lookup.3)

pub returns-then-i-len : goal.returns-then-i-len
returns-then-i-len c = λ job w stands.
    let below = subst (λ (xs : List GatherSpec). c.args.i < length xs) c.deref.ensures.value c.in-Some.ensures.lookup.3.0 in
    let is = subst (λ (xs : List GatherSpec). c.in-Some.gather.now ≡ slice_index_or xs c.args.i c.in-Some.gather.now) c.deref.ensures.value c.in-Some.ensures.lookup.1 in
    saved_set job c.args.self.now w stands _ c.args.i (Some c.in_ok-bytes.bytes) _ refl (c.in_ok-bytes.ensures job _ (holds_at job c.args.self.now w stands c.args.i c.in-Some.gather.now below is))

pub returns-else-i-len : goal.returns-else-i-len
returns-else-i-len c = λ job w stands. nowhere_saved job c.args.self.now w stands c.args.i _ (omega (arith, c.if-i-len.false, c.len.ensures))
