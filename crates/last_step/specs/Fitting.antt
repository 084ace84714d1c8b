-- Groups that fit a plan.
use Rattle.std.specs.Prelude.{◌≡◌, true, List, All}
use Rattle.meaning.specs.declared.answer.Group.{Group}
use Rattle.meaning.specs.declared.plan.Plan.{Plan}
use Rattle.meaning.specs.Fitting.{is_group_of}
use Rattle.meaning.specs.SoundPlan.{IsTypedOverGroups}

-- groups of a plan that has types over them: a key of the plan's keys, and a state of each of its aggregates
pub record AreGroupsOf (plan : Plan) (groups : List Group) : Type 0 where
  pub typed : IsTypedOverGroups plan
  pub shaped : All (λ g. is_group_of plan g ≡ true) groups
