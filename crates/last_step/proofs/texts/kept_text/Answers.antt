-- Proofs of the goals of `kept_text` (`texts`).
use Rattle.std.proofs.Common.{◌≢◌, ℕ, List, [], ap, map, sym, subst, ◌∙◌}
use Rattle.std.specs.Prelude.{All}
use Rattle.std.proofs.lemmas.Result.{IfOk-weaker}
use Rattle.meaning.specs.Order.{Row}
use Rattle.meaning.specs.Print.{rows_text}
use Rattle.last_step.specs.Batches.{lane_row}
use Rattle.last_step.proofs.BestRows.{all_best}
use Rattle.last_step.proofs.texts.kept_text.Goals as goal

pub lanes_text-requires : goal.lanes_text-requires
lanes_text-requires c =
    let row = lane_row c.args.items.now in
    record {
      header = c.requires.fields.header;
      rows = subst (λ (ps : List ℕ). All (λ (r : Row). r ≢ []) (map row ps)) (sym c.as_slice.ensures.value)
          (subst (All (λ (r : Row). r ≢ [])) (sym c.in_ok-positions.ensures) (all_best c.args.plan.now (λ (r : Row). r ≢ []) (map row c.args.kept.now.list) c.requires.fields.rows));
    }

pub returns : goal.returns
returns c =
    let row = lane_row c.args.items.now in
    IfOk-weaker c.lanes_text.result _ _ (λ text is. is ∙ ap (λ (ps : List ℕ). rows_text c.args.plan.now (map row ps)) c.as_slice.ensures.value ∙ ap (rows_text c.args.plan.now) c.in_ok-positions.ensures) c.lanes_text.ensures
