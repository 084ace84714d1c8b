-- Cells that contracts see as their states.
use Rattle.std.specs.Prelude.{◌≡◌, List, map}
use Rattle.std.proofs.lemmas.List.{map-id}
use Rattle.std.proofs.Common.{sym}
use Rattle.meaning.specs.declared.answer.Statistics.{Statistics}

-- the states are read off the cells one by one
pub each_itself : (states : List Statistics) → states ≡ map (λ s. s) states
each_itself states = sym (map-id states)
