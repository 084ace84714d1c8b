-- What is known of a plan from the query's text.
use Rattle.std.specs.Prelude.{◌≡◌, ℕ, List, Result, Ok, Err, IfOk, IfErr}
use Rattle.meaning.specs.SoundPlan.{IsSoundPlan}
use Rattle.meaning.specs.declared.catalog.Catalog.{Catalog}
use Rattle.meaning.specs.declared.plan.Plan.{Plan}
use Rattle.sql_syntax.specs.declared.tree.Query.{Query}
use Rattle.sql_reader.specs.Grammar.{IsWithin}
use Rattle.sql_reader.proofs.FittingLiterals.{literals_fit, items_there}
use Rattle.planner.specs.Planned.{planned}
use Rattle.planner.specs.Sound.{IsSoundQuery}
use Rattle.planner.specs.QueryText.{IsPlanned, IsTreeRefused, IsTextRefused}
use Rattle.planner.specs.declared.query_fault.QueryFault.{QueryFault}
use Rattle.planner.specs.declared.query_fault.QueryFault.TheVariants as fault
use Rattle.planner.proofs.SoundPlans.{plans_are_sound}

-- the refusal of a text by that of its tree
text_refused : (catalog : Catalog) (bytes : List ℕ) (q : Query) → IsWithin bytes q → (e : QueryFault) → IsTreeRefused catalog q e → IsTextRefused catalog bytes e
text_refused catalog bytes q read fault.Memory refused = tt
text_refused catalog bytes q read (fault.Plan e) refused = record { tree = q; within = read; gives = refused }
text_refused catalog bytes q read (fault.Sql e) refused = absurd refused

-- what planning a tree gave, of its text
pub planned_of_text : (catalog : Catalog) (bytes : List ℕ) (q : Query) → IsWithin bytes q → (r : Result Plan QueryFault)
    → IfOk r (λ plan. planned catalog q ≡ Ok plan) → IfOk r (λ plan. IsPlanned catalog bytes (Ok plan))
planned_of_text catalog bytes q read (Ok plan) is = record { tree = q; within = read; gives = is }
planned_of_text catalog bytes q read (Err e) is = tt

pub refused_of_text : (catalog : Catalog) (bytes : List ℕ) (q : Query) → IsWithin bytes q → (r : Result Plan QueryFault) → IfErr r (IsTreeRefused catalog q) → IfErr r (IsTextRefused catalog bytes)
refused_of_text catalog bytes q read (Ok plan) refused = tt
refused_of_text catalog bytes q read (Err e) refused = text_refused catalog bytes q read e refused

-- ---- its plan

-- a tree that was read is such as sound plans ask for
sound_query : (bytes : List ℕ) (q : Query) → IsWithin bytes q → IsSoundQuery q
sound_query bytes q is = record {
  shown = items_there bytes q is.tree;
  literals = literals_fit bytes q is.tree is.short.text;
  short = is.short.printed;
}

pub sound_if_planned : (catalog : Catalog) (bytes : List ℕ) (plan : Plan) → IsPlanned catalog bytes (Ok plan) → IsSoundPlan plan
sound_if_planned catalog bytes plan is = plans_are_sound catalog is.tree plan is.gives (sound_query bytes is.tree is.within)

pub sound_as_planned : (catalog : Catalog) (bytes : List ℕ) (r : Result Plan QueryFault) → IfOk r (λ plan. IsPlanned catalog bytes (Ok plan)) → IfOk r IsSoundPlan
sound_as_planned catalog bytes (Ok plan) is = sound_if_planned catalog bytes plan is
sound_as_planned catalog bytes (Err e) is = tt
