-- Proofs of the goals of `print_column` (`noting`).
use Rattle.std.proofs.lemmas.Result.{on_ok_weaker}
use Rattle.init.proofs.Saying.{note_said, notes_more}
use Rattle.init.proofs.noting.print_column.Goals as goal

pub returns : goal.returns
returns g c = on_ok_weaker c.print_looks.result (λ more.
    notes_more (g.E.Write.contents c.args.err.now) (g.E.Write.contents c.print_text.new.err) (g.E.Write.contents c.print_looks.new.err) (note_said _ _ _ c.in_ok-print_text.ensures) more) c.print_looks.ensures
