-- Proofs of the goals of `Job::new` (`job`).
use Rattle.std.proofs.Common.{◌≡◌, ℕ, List, true, subst}
use Rattle.std.specs.Str.{is_utf8}
use Rattle.std.proofs.lemmas.Str.{is_utf8-from_IsUtf8}
use Rattle.partial_codec.proofs.job.Job.new.Goals as goal

pub invariant_of-result : goal.invariant_of-result
invariant_of-result c = record {
  load = c.ranges.load.fits;
  is_text = subst (λ (t : List ℕ). is_utf8 t ≡ true) c.as_str-text.ensures (is_utf8-from_IsUtf8 c.as_str-text.result.now c.as_str-text.utf8);
  plan = c.requires;
  cut = c.lengths-lengths.ensures.within_limits;
}
