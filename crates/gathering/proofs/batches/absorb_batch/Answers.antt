-- Proofs of the goals of `absorb_batch` (`batches`).
use Rattle.std.proofs.Common.{◌∙◌}
use Rattle.gathering.proofs.InBatches.{takes_batch}
use Rattle.gathering.proofs.batches.absorb_batch.Goals as goal

pub absorb_groups-requires-clause-handed : goal.absorb_groups-requires-clause-handed
absorb_groups-requires-clause-handed c =
    (takes_batch c.args.table 256 c.args.rest.now c.as_slice.result.now c.requires (c.as_slice.ensures.value ∙ c.in-Ok.ensures.taken)).handed

pub absorb_groups-requires-clause-few : goal.absorb_groups-requires-clause-few
absorb_groups-requires-clause-few c =
    (takes_batch c.args.table 256 c.args.rest.now c.as_slice.result.now c.requires (c.as_slice.ensures.value ∙ c.in-Ok.ensures.taken)).few
