-- Proofs of the goals of `restart` (`world`).
use Rattle.std.proofs.Common.{List, Option, ℕ, ◌≤◌, ◌<◌, length, subst, ap, ◌≡◌, arith}
use Rattle.std.specs.Prelude.{Vec, slice_index_or, slice_set}
use Rattle.std.specs.Vec.{vec_items}
use Rattle.std.specs.declared.alloc.Global.{Global}
use Rattle.schedules.proofs.Worlds.{held_set, nobody_hears, nobody_saved, saved_at}
use Rattle.schedules.proofs.world.World.restart.Goals as goal

pub returns-in_default : goal.returns-in_default
returns-in_default c = λ w stands.
    nobody_saved c.args.job.now c.args.self.now w stands c.args.i _ (subst (λ (xs : List (Option (Vec ℕ Global))). length xs ≤ c.args.i) c.deref.ensures.value c.in_default.ensures.lookup.3)

pub returns-then-i-len : goal.returns-then-i-len
returns-then-i-len c = λ w stands.
    let below = subst (λ (xs : List (Option (Vec ℕ Global))). c.args.i < length xs) c.deref.ensures.value c.in-Some.ensures.lookup.3.0 in
    let is = subst (λ (xs : List (Option (Vec ℕ Global))). c.in-Some.saved.now ≡ slice_index_or xs c.args.i c.in-Some.saved.now) c.deref.ensures.value c.in-Some.ensures.lookup.1 in
    held_set c.args.job.now c.args.self.now w stands _ c.args.i c.in_ok-gather.gather _ (ap (slice_set (vec_items c.args.self.now.gathers) c.args.i) c.put.ensures) (c.in_ok-gather.ensures _ (saved_at c.args.job.now c.args.self.now w stands c.args.i c.in-Some.saved.now below is))

pub returns-else-i-len : goal.returns-else-i-len
returns-else-i-len c = λ w stands. nobody_hears c.args.job.now c.args.self.now w stands c.args.i _ (omega (arith, c.if-i-len.false, c.len.ensures))
