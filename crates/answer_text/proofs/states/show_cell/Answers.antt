-- Proofs of the goals of `show_cell` (`states`).
use Rattle.std.proofs.Common.{ℕ, Ok, ap, refl, string_bytes, ◌∙◌}
use Rattle.answer_fields.specs.Fields.{shape_in}
use Rattle.meaning.specs.declared.answer.Cell.TheVariants.{Nothing, One, Conflict}
use Rattle.answer_text.proofs.Cells.{answer_shown, conflict_shown, missing_shown}
use Rattle.answer_text.proofs.CellRead.{answer_held, conflict_held, nothing_held}
use Rattle.answer_text.proofs.states.show_cell.Goals as goal

pub returns-in_ok-push-in-0-clause-shown : goal.returns-in_ok-push-in-0-clause-shown
returns-in_ok-push-in-0-clause-shown c =
    let between = c.take_u8.new.self.rest.now in
    let shape = shape_in c.args.shape.now in (
      Nothing,
      nothing_held shape c.args.cursor.now.rest.now between (c.in_ok-take_u8.ensures.read ∙ ap (λ (n : ℕ). Ok (n, between)) c.in-0.is),
      missing_shown c.args.detail shape c.args.fragment c.args.fragments.now _ (string_bytes c.args.out.now) refl c.in_ok-push-in-0.ensures.items refl,
    )

pub returns-in_ok-push-in-1-clause-shown : goal.returns-in_ok-push-in-1-clause-shown
returns-in_ok-push-in-1-clause-shown c =
    let between = c.take_u8.new.self.rest.now in
    let shape = shape_in c.args.shape.now in
    let (body, read, more) = c.in_ok-show_held-in-1.ensures.shown in (
      One body,
      answer_held shape c.args.cursor.now.rest.now between (c.in_ok-take_u8.ensures.read ∙ ap (λ (n : ℕ). Ok (n, between)) c.in-1.is) body c.show_held.new.cursor.rest.now read,
      answer_shown c.args.detail shape c.args.fragment c.args.fragments.now _ body (string_bytes c.args.out.now) (string_bytes c.show_held.new.out) more c.in_ok-push-in-1.ensures.items refl refl,
    )

pub returns-in_ok-push-in-2-clause-shown : goal.returns-in_ok-push-in-2-clause-shown
returns-in_ok-push-in-2-clause-shown c =
    let between = c.take_u8.new.self.rest.now in
    let shape = shape_in c.args.shape.now in (
      Conflict,
      conflict_held shape c.args.cursor.now.rest.now between (c.in_ok-take_u8.ensures.read ∙ ap (λ (n : ℕ). Ok (n, between)) c.in-2.is),
      conflict_shown c.args.detail shape c.args.fragment c.args.fragments.now _ (string_bytes c.args.out.now) refl refl c.in_ok-push-in-2.ensures.items,
    )
