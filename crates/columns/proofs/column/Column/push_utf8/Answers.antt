-- Proofs of the goals of `Column::push_utf8` (`column`).
use Rattle.meaning.specs.declared.value.Value.TheVariants.{Text}
use Rattle.columns.proofs.CellLaws.{column_pushed, text_fits}
use Rattle.columns.proofs.column.Column.push_utf8.Goals as goal

pub invariant_of-self-2 : goal.invariant_of-self-2
invariant_of-self-2 c =
    (column_pushed c.args.self.now c.self.inside.cells c.push_text.new.self _ _ _ _ (Text c.args.text.now) c.self.invariant c.self.view_is c.push_text.ensures.col_type (text_fits _ _ _ c.in_ok-push_text.ensures.taken c.requires) c.make_room.ensures.same c.mark.ensures c.in_ok-push_text.ensures.ok).0

pub returns-clause-ok : goal.returns-clause-ok
returns-clause-ok c =
    (column_pushed c.args.self.now c.self.inside.cells c.push_text.new.self _ _ _ _ (Text c.args.text.now) c.self.invariant c.self.view_is c.push_text.ensures.col_type (text_fits _ _ _ c.in_ok-push_text.ensures.taken c.requires) c.make_room.ensures.same c.mark.ensures c.in_ok-push_text.ensures.ok).1
