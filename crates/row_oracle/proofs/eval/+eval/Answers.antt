-- Proofs of the goals of `+eval` (`eval`).
use Rattle.std.proofs.Common.{rules}
use Rattle.std.proofs.Common.{◌≡◌, IfOk, map}
use Rattle.meaning.specs.declared.expr.Expr.TheFolds.{the_lemmas}
use Rattle.meaning.specs.Expr.{eval, eval_arm, arms_at, outcomes}
use Rattle.meaning.specs.Operators.{is_null_of}
use Rattle.meaning.proofs.EvalLemmas.{one_of-truth, no_arm}
use Rattle.row_oracle.proofs.eval.+eval.Goals as goal

pub find_in-loop-item-init : goal.find_in-loop-item-init
find_in-loop-item-init t c = record {
  going = search rules;
  rest =
      one_of-truth c.args.subject.now (outcomes c.args.list.now c.args.row.now);
}

pub eval_row-returns-in-Arithmetic : goal.eval_row-returns-in-Arithmetic
eval_row-returns-in-Arithmetic t c =
    search (rules, the_lemmas, c.arith_if_known.ensures _ _ c.eval_row-left.ensures c.eval_row-in-Arithmetic.ensures)

pub eval_row-returns-in-Compare : goal.eval_row-returns-in-Compare
eval_row-returns-in-Compare t c =
    search
    (rules, the_lemmas, c.compare_if_known.ensures _ _ c.eval_row-left-in-Compare.ensures c.eval_row-in-Compare.ensures)

pub eval_row-returns-in-And : goal.eval_row-returns-in-And
eval_row-returns-in-And t c = search (rules, the_lemmas, c.eval_and.ensures _ c.eval_row-left-in-And.ensures)

pub eval_row-returns-in-Or : goal.eval_row-returns-in-Or
eval_row-returns-in-Or t c = search (rules, the_lemmas, c.eval_or.ensures _ c.eval_row-left-in-Or.ensures)

pub eval_row-returns-in-IsNull : goal.eval_row-returns-in-IsNull
eval_row-returns-in-IsNull t c =
    let found : IfOk c.map-in-IsNull.result (λ o. o ≡ is_null_of (eval c.get-in-IsNull.result.now c.args.row.now)) =
    search rules in
    search (rules, the_lemmas, c.not_if.ensures _ found)

pub eval_row-returns-in-Between : goal.eval_row-returns-in-Between
eval_row-returns-in-Between t c =
    search (
      rules,
      the_lemmas,
      c.not_if-in-Between.ensures _
          (c.eval_between.ensures _ _ c.eval_row-subject-in-Between.ensures c.eval_row-low.ensures),
    )

pub eval_row-returns-in-In : goal.eval_row-returns-in-In
eval_row-returns-in-In t c = search
    (rules, the_lemmas, c.not_if-in-In.ensures _ (c.eval_in.ensures _ c.eval_row-subject-in-In.ensures))

pub eval_row-returns-in-Like : goal.eval_row-returns-in-Like
eval_row-returns-in-Like t c = search
    (rules, the_lemmas, c.not_if-in-Like.ensures _ (c.like_if_known.ensures _ c.eval_row-subject-in-Like.ensures))

pub eval_row-returns-in-Ok-None : goal.eval_row-returns-in-Ok-None
eval_row-returns-in-Ok-None t c =
    search (
      rules,
      the_lemmas,
      no_arm c.eval_arms.result c.in-Ok-None.field-0
          (arms_at c.args.row.now (map eval_arm c.as_slice-in-Case.result.now))
          (eval c.get-in-Ok-None.result.now c.args.row.now) c.in-Ok-None.is c.in-Ok-None.field-0-is c.eval_arms.ensures,
    )
