-- Proofs of the goals of `Gather::state_bytes` (`gather`).
use Rattle.std.proofs.Common.{sym, subst}
use Rattle.partial_codec.specs.State.{FitsState}
use Rattle.gathering.specs.Totals.{merges_of}
use Rattle.gathering.proofs.StateFiles.{fits_state}
use Rattle.gathering.proofs.gather.Gather.state_bytes.Goals as goal

pub encode_state-requires : goal.encode_state-requires
encode_state-requires c =
    let held = fits_state (record { job = c.self.inside.job; cells = c.self.inside.cells.items; merges = merges_of c.self.inside.totals }) c.self.invariant.gather in
    subst (FitsState c.self.inside.job) (sym c.deref.ensures.value) held
