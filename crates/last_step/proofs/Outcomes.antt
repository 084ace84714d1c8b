-- What the last step gives of groups, as rows and as text.
use Rattle.std.proofs.Common.{◌≡◌, ℕ, List, [], map, None, Some, Ok, Err, refl, sym, ap, ◌∙◌}
use Rattle.std.specs.Prelude.{Option, Result}
use Rattle.meaning.specs.declared.answer.Group.{Group}
use Rattle.meaning.specs.declared.plan.Plan.{Plan}
use Rattle.meaning.specs.Answer.{read_off}
use Rattle.meaning.specs.Finish.{finished, rows_of}
use Rattle.meaning.specs.Finish as the
use Rattle.meaning.specs.Order.{Row}
use Rattle.meaning.specs.Results.{all_ok, and_then}
use Rattle.last_step.specs.Batches.{ended}
use Rattle.last_step.specs.Best.{best_of}
use Rattle.last_step.specs.Printing.{best_text, text_of, text_or}
use Rattle.last_step.specs.Runs.{rows_after}
use Rattle.last_step.proofs.BestRows.{finished_best}

module _ (plan : Plan) where
  -- the outcome, read off what is shown of all rows
  pub given : (groups : List Group) (all : Result (List Row) ℕ) → best_of plan (rows_after plan [] groups) ≡ all → finished all ≡ the.finish plan (map (read_off plan) groups)
  given groups all is = sym (ap finished is) ∙ finished_best plan (all_ok (map (rows_of plan) (map (read_off plan) groups)))

  text_finished : (rows : Result (List Row) ℕ) → best_text plan rows ≡ text_of plan (finished (best_of plan rows))
  text_finished (Ok rows) = refl
  text_finished (Err code) = refl

  -- the outcome's text
  pub text_given : (groups : List Group) → best_text plan (rows_after plan [] groups) ≡ text_of plan (the.finish plan (map (read_off plan) groups))
  text_given groups = text_finished (rows_after plan [] groups) ∙ ap (text_of plan) (given groups _ refl)

  -- a text, or the fault that comes behind what it is of
  pub text_then : (rows : Result (List Row) ℕ) (fault : Option ℕ) (text : List ℕ) → best_text plan rows ≡ Ok text → best_text plan (and_then rows (ended fault)) ≡ text_or fault text
  text_then (Ok rows) None text is = is
  text_then (Ok rows) (Some code) text is = refl
  text_then (Err code) fault text is = absurd cc

  -- a fault, whatever comes behind it
  pub fault_stays : (rows : Result (List Row) ℕ) (fault : Option ℕ) (code : ℕ) → best_text plan rows ≡ Err code → best_text plan (and_then rows (ended fault)) ≡ Err code
  fault_stays (Ok rows) fault code is = absurd cc
  fault_stays (Err other) fault code is = is
