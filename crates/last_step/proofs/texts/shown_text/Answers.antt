-- Proofs of the goals of `shown_text` (`texts`).
use Rattle.std.proofs.Common.{List, [], length, map, Ok, Err, ap, sym, subst, ◌∙◌}
use Rattle.vectors.specs.declared.vector.Vector.{Vector}
use Rattle.vector_operators.specs.Evaluated.{Held}
use Rattle.last_step.specs.Batches.{Shows, lane_row}
use Rattle.last_step.specs.Printing.{HasFields, best_text}
use Rattle.last_step.proofs.ShownFields.{shown_has_fields}
use Rattle.last_step.proofs.ShownRows.{fault_shown, rows_shown}
use Rattle.last_step.proofs.texts.shown_text.Goals as goal

pub returns-in-Some : goal.returns-in-Some
returns-in-Some c = λ rows is.
    let shown = c.in_ok-shown.shown in
    ap (best_text c.args.plan.now)
    (fault_shown c.args.plan.now rows shown.kept.list shown.fault.held shown.items.items (c.in_ok-shown.ensures.shows rows is) [] c.in-Some.faulted c.in-Some.is
    ∙ ap Err (sym c.code.ensures))

pub kept_text-requires-clause-fields : goal.kept_text-requires-clause-fields
kept_text-requires-clause-fields c =
    let shown = c.in_ok-shown.shown in
    let (rows, is) = c.requires.rows in
    subst (λ (vs : List Vector). HasFields c.args.plan.now (map (lane_row vs) shown.kept.list)) (sym c.as_slice.ensures.value)
    (shown_has_fields c.args.plan.now rows (map (lane_row shown.items.items) shown.kept.list) c.requires.items
    (rows_shown c.args.plan.now [] rows shown.kept shown.items.items c.in_ok-shown.ensures.sound (c.in_ok-shown.ensures.below ∙ sym is.typed.are_rows.counted)
    (subst (λ (h : Held). Shows c.args.plan.now rows (length c.args.plan.now.items) shown.kept.list h shown.items.items) c.in-None.is (c.in_ok-shown.ensures.shows rows is))))

pub returns : goal.returns
returns c = λ rows is.
    let shown = c.in_ok-shown.shown in
    ap (best_text c.args.plan.now)
    (rows_shown c.args.plan.now [] rows shown.kept shown.items.items c.in_ok-shown.ensures.sound (c.in_ok-shown.ensures.below ∙ sym is.typed.are_rows.counted)
    (subst (λ (h : Held). Shows c.args.plan.now rows (length c.args.plan.now.items) shown.kept.list h shown.items.items) c.in-None.is (c.in_ok-shown.ensures.shows rows is))
    ∙ ap (λ (vs : List Vector). Ok (map (lane_row vs) shown.kept.list)) (sym c.as_slice.ensures.value))
    ∙ ap Ok (sym c.in_ok-kept_text-in-None.ensures)
