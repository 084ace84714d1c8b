-- What answers are for.
use Rattle.std.specs.Prelude.{◌≡◌, ℕ, ◌<◌, ◌^◌, true, List}
use Rattle.std.specs.Str.{is_utf8}
use Rattle.meaning.specs.declared.plan.Plan.{Plan}
use Rattle.meaning.specs.Cut.{IsCut}
use Rattle.meaning.specs.SoundPlan.{IsWithinLimits}

-- the number of the load, the query's plan, and how many rows each fragment has
pub record JobSpec : Type 0 where
  pub load : ℕ
  pub plan : Plan
  pub cut : List ℕ

-- the plan and the cut are within the limits, and the text is UTF-8
pub record IsJob (job : JobSpec) : Type 0 where
  pub load : job.load < 2 ^ 64
  pub is_text : is_utf8 job.plan.text ≡ true
  pub plan : IsWithinLimits job.plan
  pub cut : IsCut job.cut
