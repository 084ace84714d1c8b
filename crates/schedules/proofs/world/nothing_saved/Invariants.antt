-- Loop invariants of `nothing_saved` (`world`).
use Rattle.std.proofs.Common.{◌≡◌, None}
use Rattle.std.specs.Prelude.{replicate}
use Rattle.std.specs.Vec.{vec_items}
use Rattle.schedules.proofs.world.nothing_saved.Given as goal

abbrev pub invariant-loop : goal.invariant-loop
invariant-loop l = vec_items l.saved ≡ replicate l.counter None
