-- Proofs of the goals of `show_parts` (`showing`).
use Rattle.std.proofs.Common.{ℕ, ◌∙◌, length, subst}
use Rattle.std.specs.Prelude.{string_bytes}
use Rattle.answer_text.specs.Journals.{journal_at, journal_text}
use Rattle.answer_text.specs.Reading.{Shows, answer_at, state_at}
use Rattle.answer_text.specs.StateTexts.{held_state_text}
use Rattle.answer_text.specs.Texts.{answer_text}
use Rattle.table_text.specs.CutText.{cut_at, cut_text}
use Rattle.table_text.specs.TableText.{table_at, table_text}
use Rattle.show.specs.declared.file_kind.FileKind.TheVariants as kind
use Rattle.show.proofs.Parts.{behind_magic, of_kind, read_parts}
use Rattle.show.proofs.showing.show_parts.Goals as goal

pub returns-in-Answer : goal.returns-in-Answer
returns-in-Answer c =
    let bytes = c.args.bytes.now in
    let detail = c.args.detail in
    let taken = c.in_ok-take_bytes in
    let new = string_bytes c.show_answer.new.out in
    of_kind bytes detail c.args.kind (kind.Answer c.in-Answer.format) c.in-Answer.is c.show_answer.result new
    (read_parts (answer_at c.in-Answer.format) (answer_text detail (length bytes)) bytes c.show_answer.result (string_bytes c.args.out.now) new c.take_bytes.new.self.bytes.now c.take_bytes.new.self.rest.now
    c.show_answer.new.cursor.rest.now c.requires (taken.ensures.part.1 ∙ c.new-cursor.ensures.bytes) (behind_magic bytes c.new-cursor.result.rest.now taken.field-0.now c.take_bytes.new.self.rest.now c.new-cursor.ensures.rest taken.ensures.read)
    c.show_answer.ensures.shown)

pub returns-in-Cut : goal.returns-in-Cut
returns-in-Cut c =
    let bytes = c.args.bytes.now in
    let taken = c.in_ok-take_bytes in
    let new = string_bytes c.show_cut_file.new.out in
    of_kind bytes c.args.detail c.args.kind kind.Cut c.in-Cut.is c.show_cut_file.result new
    (read_parts cut_at cut_text bytes c.show_cut_file.result (string_bytes c.args.out.now) new c.take_bytes.new.self.bytes.now c.take_bytes.new.self.rest.now
    c.show_cut_file.new.cursor.rest.now c.requires (taken.ensures.part.1 ∙ c.new-cursor.ensures.bytes) (behind_magic bytes c.new-cursor.result.rest.now taken.field-0.now c.take_bytes.new.self.rest.now c.new-cursor.ensures.rest taken.ensures.read)
    c.show_cut_file.ensures.shown)

pub returns-in-Table : goal.returns-in-Table
returns-in-Table c =
    let bytes = c.args.bytes.now in
    let detail = c.args.detail in
    let taken = c.in_ok-take_bytes in
    let whole = c.take_bytes.new.self.bytes.now in
    let behind = c.take_bytes.new.self.rest.now in
    let old = string_bytes c.args.out.now in
    let new = string_bytes c.show_table_file.new.out in
    let rest = c.show_table_file.new.cursor.rest.now in
    of_kind bytes detail c.args.kind kind.Table c.in-Table.is c.show_table_file.result new
    (read_parts table_at (table_text 0 (length bytes)) bytes c.show_table_file.result old new whole behind rest c.requires (taken.ensures.part.1 ∙ c.new-cursor.ensures.bytes)
    (behind_magic bytes c.new-cursor.result.rest.now taken.field-0.now behind c.new-cursor.ensures.rest taken.ensures.read)
    (subst (λ (first : ℕ). Shows (table_text first (length bytes)) c.show_table_file.result old new rest (table_at whole behind)) (taken.ensures.part.0 ∙ c.new-cursor.ensures.first) c.show_table_file.ensures.shown))

pub returns-in-State : goal.returns-in-State
returns-in-State c =
    let bytes = c.args.bytes.now in
    let detail = c.args.detail in
    let taken = c.in_ok-take_bytes in
    let new = string_bytes c.show_state.new.out in
    of_kind bytes detail c.args.kind (kind.State c.in-State.format) c.in-State.is c.show_state.result new
    (read_parts (state_at c.in-State.format) (held_state_text detail (length bytes)) bytes c.show_state.result (string_bytes c.args.out.now) new c.take_bytes.new.self.bytes.now c.take_bytes.new.self.rest.now
    c.show_state.new.cursor.rest.now c.requires (taken.ensures.part.1 ∙ c.new-cursor.ensures.bytes) (behind_magic bytes c.new-cursor.result.rest.now taken.field-0.now c.take_bytes.new.self.rest.now c.new-cursor.ensures.rest taken.ensures.read)
    c.show_state.ensures.shown)

pub returns-in-Journal : goal.returns-in-Journal
returns-in-Journal c =
    let bytes = c.args.bytes.now in
    let detail = c.args.detail in
    let taken = c.in_ok-take_bytes in
    let whole = c.take_bytes.new.self.bytes.now in
    let behind = c.take_bytes.new.self.rest.now in
    let old = string_bytes c.args.out.now in
    let new = string_bytes c.show_journal.new.out in
    let rest = c.show_journal.new.cursor.rest.now in
    of_kind bytes detail c.args.kind kind.Journal c.in-Journal.is c.show_journal.result new
    (read_parts journal_at (journal_text detail 0 (length bytes)) bytes c.show_journal.result old new whole behind rest c.requires (taken.ensures.part.1 ∙ c.new-cursor.ensures.bytes)
    (behind_magic bytes c.new-cursor.result.rest.now taken.field-0.now behind c.new-cursor.ensures.rest taken.ensures.read)
    (subst (λ (first : ℕ). Shows (journal_text detail first (length bytes)) c.show_journal.result old new rest (journal_at whole behind)) (taken.ensures.part.0 ∙ c.new-cursor.ensures.first) c.show_journal.ensures.shown))
