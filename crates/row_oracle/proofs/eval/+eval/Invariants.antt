-- Loop invariants of `+eval` (`eval`).
use Rattle.std.proofs.Common.{◌≡◌, ◌≢◌, map, drop}
use Rattle.meaning.specs.declared.outcome.Truth.TheVariants.{True}
use Rattle.meaning.specs.declared.outcome.Outcome.TheVariants as gives
use Rattle.meaning.specs.declared.outcome.Outcome.{Outcome}
use Rattle.meaning.specs.Expr.{eval_arm, arms_at, outcomes}
use Rattle.meaning.specs.Operators.{or_of, one_of, first_of, cases_of}
use Rattle.row_oracle.proofs.eval.+eval.Given as goal

-- what is left decides
abbrev pub invariant-eval_arms-loop-arm : goal.invariant-eval_arms-loop-arm
invariant-eval_arms-loop-arm l = (otherwise : Outcome) →
    cases_of (arms_at l.row (map eval_arm (drop l.arm-index l.arms))) otherwise
    ≡ cases_of (arms_at l.row (map eval_arm l.arms)) otherwise

abbrev pub invariant-eval_coalesce-loop-item : goal.invariant-eval_coalesce-loop-item
invariant-eval_coalesce-loop-item l =
    first_of (outcomes (drop l.item-index l.list) l.row) ≡ first_of (outcomes l.list l.row)

abbrev pub invariant-find_in-loop-item : goal.invariant-find_in-loop-item
invariant-find_in-loop-item l = record {
  going : l.found ≢ True;
  rest : or_of (gives.Truth l.found) (one_of l.subject (outcomes (drop l.item-index l.list) l.row))
      ≡ one_of l.subject (outcomes l.list l.row);
}
