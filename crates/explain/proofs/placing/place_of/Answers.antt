-- Proofs of the goals of `place_of` (`placing`).
use Rattle.std.proofs.Common.{refl}
use Rattle.explain.proofs.placing.place_of.Goals as goal

pub returns-in-None-fact_column_of : goal.returns-in-None-fact_column_of
returns-in-None-fact_column_of c =
    (c.in-None-fact_column_of.ensures.none refl, c.in-None.ensures.none refl)
