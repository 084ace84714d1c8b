-- Selections that are narrowed by masks.
use Rattle.std.specs.Prelude.{◌≡◌, Bool, false, List, filter, get_or}
use Rattle.std.proofs.Common.{refl, sym, ◌∙◌, ap, subst}
use Rattle.vectors.specs.Selection.{Positions}
use Rattle.lane_loops.specs.Lanes.{null_at}
use Rattle.vector_operators.specs.Given.{AreNarrowed}
use Rattle.vector_operators.proofs.Among.{filter_stays, filter_stood}

pub narrowed : (s t new : Positions) (mask : List Bool) → t ≡ s → new ≡ record { below = t.below; list = filter (λ p. get_or mask p false) t.list } → AreNarrowed (λ i. null_at mask i) s new
narrowed s t new mask copy is = subst (λ (r : Positions). AreNarrowed (λ i. null_at mask i) s r) (sym (is ∙ ap (λ (u : Positions). record { below = u.below; list = filter (λ p. get_or mask p false) u.list }) copy)) there where
  there : AreNarrowed (λ i. null_at mask i) s (record { below = s.below; list = filter (λ p. get_or mask p false) s.list })
  there = record {
    below = refl;
    stays = λ i w passes. (w.0, filter_stays (λ p. get_or mask p false) s.list i w.1 passes);
    stood = λ i w. (let u = filter_stood (λ p. get_or mask p false) s.list i w.1 in ((w.0, u.0), u.1));
  }
