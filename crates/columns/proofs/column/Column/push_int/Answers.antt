-- Proofs of the goals of `Column::push_int` (`column`).
use Rattle.std.proofs.Common.{◌≡◌, None, true, ◌∷◌, [], ◌++◌}
use mir.Syntax.{w64}
use Rattle.std.proofs.lemmas.Int.{to_z-of_z}
use Rattle.meaning.specs.declared.value.Value.TheVariants.{Int}
use Rattle.columns.specs.Cells.{type_of, cells_in}
use Rattle.columns.specs.Column.{refusal}
use Rattle.columns.proofs.CellLaws.{column_pushed, int_fits, word_fits}
use Rattle.columns.proofs.column.Column.push_int.Goals as goal

pub invariant_of-self-2 : goal.invariant_of-self-2
invariant_of-self-2 c =
    let same = to_z-of_z w64 c.args.n c.ranges.n in
    let taken : refusal (type_of c.self.inside.cells) true (Int c.args.n) ≡ None = simp same at c.in_ok-push_int.ensures.taken in
    let pushed : cells_in c.push_int.new.self ≡ cells_in c.self.inside.cells ++ Int c.args.n ∷ [] = simp same at c.in_ok-push_int.ensures.ok in
    (column_pushed c.args.self.now c.self.inside.cells c.push_int.new.self _ _ _ _ (Int c.args.n) c.self.invariant c.self.view_is c.push_int.ensures.col_type (int_fits _ _ c.args.n taken (word_fits c.args.n c.ranges.n)) c.make_room.ensures.same c.mark.ensures pushed).0

pub returns-clause-ok : goal.returns-clause-ok
returns-clause-ok c =
    let same = to_z-of_z w64 c.args.n c.ranges.n in
    let taken : refusal (type_of c.self.inside.cells) true (Int c.args.n) ≡ None = simp same at c.in_ok-push_int.ensures.taken in
    let pushed : cells_in c.push_int.new.self ≡ cells_in c.self.inside.cells ++ Int c.args.n ∷ [] = simp same at c.in_ok-push_int.ensures.ok in
    (column_pushed c.args.self.now c.self.inside.cells c.push_int.new.self _ _ _ _ (Int c.args.n) c.self.invariant c.self.view_is c.push_int.ensures.col_type (int_fits _ _ c.args.n taken (word_fits c.args.n c.ranges.n)) c.make_room.ensures.same c.mark.ensures pushed).1
