-- Proofs of the goals of `push_shown` (`showing`).
use Rattle.std.proofs.Common.{List, length, map, ◌++◌, Ok, Err, ap, sym, subst, ◌∙◌}
use Rattle.std.specs.Prelude.{All}
use Rattle.vectors.specs.declared.vector.Vector.{Vector}
use Rattle.vector_operators.specs.Evaluated.{Held}
use Rattle.last_step.specs.Batches.{IsReadable, Shows, lane_row}
use Rattle.last_step.specs.Best.{best_of}
use Rattle.last_step.specs.Runs.{expanded}
use Rattle.last_step.proofs.ShownRows.{fault_shown, readable, rows_shown}
use Rattle.last_step.proofs.showing.push_shown.Goals as goal

pub returns-in-Some : goal.returns-in-Some
returns-in-Some c = λ rows is.
    let shown = c.in_ok-shown.shown in
    ap (best_of c.args.plan.now)
    (fault_shown c.args.plan.now rows shown.kept.list shown.fault.held shown.items.items (c.in_ok-shown.ensures.shows rows is) (expanded c.args.runs.now.items) c.in-Some.faulted c.in-Some.is
    ∙ ap Err (sym c.code.ensures))

pub push_best-requires-clause-readable : goal.push_best-requires-clause-readable
push_best-requires-clause-readable c =
    let shown = c.in_ok-shown.shown in
    let (rows, is) = c.requires.rows in
    subst (λ (vs : List Vector). All IsReadable (map (lane_row vs) shown.kept.list)) (sym c.as_slice.ensures.value)
    (readable c.args.plan.now rows c.args.batch.now shown.kept shown.items.items is c.in_ok-shown.ensures.sound c.in_ok-shown.ensures.below
    (subst (λ (h : Held). Shows c.args.plan.now rows (length c.args.plan.now.items) shown.kept.list h shown.items.items) c.in-None.is (c.in_ok-shown.ensures.shows rows is)))

pub returns : goal.returns
returns c = λ rows is.
    let shown = c.in_ok-shown.shown in
    let before = expanded c.args.runs.now.items in
    ap (best_of c.args.plan.now)
    (rows_shown c.args.plan.now before rows shown.kept shown.items.items c.in_ok-shown.ensures.sound (c.in_ok-shown.ensures.below ∙ sym is.typed.are_rows.counted)
    (subst (λ (h : Held). Shows c.args.plan.now rows (length c.args.plan.now.items) shown.kept.list h shown.items.items) c.in-None.is (c.in_ok-shown.ensures.shows rows is))
    ∙ ap (λ (vs : List Vector). Ok (before ++ map (lane_row vs) shown.kept.list)) (sym c.as_slice.ensures.value))
    ∙ ap Ok (sym c.in_ok-push_best-in-None.ensures)
