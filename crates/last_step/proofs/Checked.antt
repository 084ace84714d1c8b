-- The aggregates of one group, judged one after the other.
use Rattle.std.proofs.Common.{◌≡◌, ℕ, ◌+◌, true, List, [], ◌∷◌, ◌++◌, drop, map, Ok, Err, refl}
use Rattle.std.specs.Prelude.{Result, zip}
use Rattle.std.specs.List.{list_all}
use Rattle.meaning.specs.declared.answer.Statistics.{Statistics}
use Rattle.meaning.specs.declared.plan.Aggregate.{Aggregate}
use Rattle.meaning.specs.declared.value.Value.{Value}
use Rattle.meaning.specs.declared.value.ValueRef.{ValueRef}
use Rattle.meaning.specs.Aggregate.{value}
use Rattle.meaning.specs.Order.{Row, value_in}
use Rattle.meaning.specs.Results.{all_ok}
use Rattle.meaning.proofs.Tests.{all_append, both}
use Rattle.last_step.specs.declared.stop.Stop.{Stop}
use Rattle.last_step.specs.declared.stop.Stop.TheVariants.{Memory, Fault}
use Rattle.last_step.specs.Batches.{IsJudged, fits}
use Rattle.meaning.specs.Wanting.{ReportsIfMemory}
use Rattle.last_step.specs.Given.{fault_returned}
use Rattle.last_step.proofs.Judging.{judged_behind, starts, goes_on, stops, ends}

abbrev pub judge : Aggregate × Statistics → Result Value ℕ
judge p = value p.0.kind p.1

-- these values were found, and the aggregates from an index on are left
pub record AreJudged (aggs : List Aggregate) (states : List Statistics) (k : ℕ) : Type 0 where
  pub before : Row
  pub fit : list_all fits before ≡ true
  pub so_far : judged_behind judge before (zip (drop k aggs) (drop k states)) ≡ all_ok (map judge (zip aggs states))

pub judged_start : (aggs : List Aggregate) (states : List Statistics) → AreJudged aggs states 0
judged_start aggs states = record { before = []; fit = refl; so_far = starts judge (zip aggs states) }

module _ (aggs : List Aggregate) (states : List Statistics) (k : ℕ) (a : Aggregate) (s : Statistics)
    (here : zip (drop k aggs) (drop k states) ≡ (a, s) ∷ zip (drop (k + 1) aggs) (drop (k + 1) states)) (judged : AreJudged aggs states k) where
  pub judged_more : (v : ValueRef) → value a.kind s ≡ Ok (value_in v) → fits (value_in v) ≡ true → AreJudged aggs states (k + 1)
  judged_more v is fit = record {
    before = judged.before ++ value_in v ∷ [];
    fit = all_append fits judged.before (value_in v ∷ []) judged.fit (both _ _ fit refl);
    so_far = goes_on judge judged.before _ _ (a, s) (value_in v) _ here is judged.so_far;
  }

  pub judged_stops : (e : Stop) → ReportsIfMemory fault_returned value_in (Err e) (value a.kind s) → IsJudged (map judge (zip aggs states)) (Err e)
  judged_stops Memory bad = tt
  judged_stops (Fault c) bad = stops judge judged.before _ _ (a, s) (Fault c) _ here bad judged.so_far

pub judged_ends : (aggs : List Aggregate) (states : List Statistics) (k : ℕ) → zip (drop k aggs) (drop k states) ≡ [] → AreJudged aggs states k → IsJudged (map judge (zip aggs states)) (Ok tt)
judged_ends aggs states k none judged = (judged.before, ends judge judged.before _ _ none judged.so_far, judged.fit)
