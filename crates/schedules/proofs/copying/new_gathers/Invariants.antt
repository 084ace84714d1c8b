-- Loop invariants of `new_gathers` (`copying`).
use Rattle.std.proofs.Common.{◌≡◌, [], length}
use Rattle.std.specs.Prelude.{All}
use Rattle.std.specs.Vec.{vec_items}
use Rattle.schedules.specs.World.{Holds}
use Rattle.schedules.proofs.copying.new_gathers.Given as goal

abbrev pub invariant-loop : goal.invariant-loop
invariant-loop l = All (λ g. Holds l.job g []) (vec_items l.gathers) × (length (vec_items l.gathers) ≡ l.counter)
