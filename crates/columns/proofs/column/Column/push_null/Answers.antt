-- Proofs of the goals of `Column::push_null` (`column`).
use Rattle.std.proofs.Common.{rules}
use Rattle.meaning.specs.declared.value.Value.TheVariants.{Null}
use Rattle.columns.proofs.CellLaws.{column_pushed}
use Rattle.columns.proofs.column.Column.push_null.Goals as goal

pub invariant_of-self-2 : goal.invariant_of-self-2
invariant_of-self-2 c =
    (column_pushed c.args.self.now c.self.inside.cells c.push_blank.new.self _ _ _ _ (Null) c.self.invariant c.self.view_is c.push_blank.ensures.col_type (search rules) c.make_room.ensures.same c.mark.ensures c.in_ok-push_blank.ensures.ok).0

pub returns-clause-ok : goal.returns-clause-ok
returns-clause-ok c =
    (column_pushed c.args.self.now c.self.inside.cells c.push_blank.new.self _ _ _ _ (Null) c.self.invariant c.self.view_is c.push_blank.ensures.col_type (search rules) c.make_room.ensures.same c.mark.ensures c.in_ok-push_blank.ensures.ok).1
