-- Proofs of the goals of `show_kind` (`showing`).
use Rattle.std.specs.Prelude.{string_bytes}
use Rattle.show.proofs.Printed.{ended_so, printed}
use Rattle.show.proofs.showing.show_kind.Goals as goal

pub returns-in-Ok-clause-printed : goal.returns-in-Ok-clause-printed
returns-in-Ok-clause-printed g c =
    let shown = c.shown_of-shown.result in
    λ whole begins. let said = c.in_ok-whole.ensures.printed whole in
    printed c.args.bytes.now (string_bytes shown.front) shown.bytes.items (g.O.Write.contents c.args.out.now) (g.O.Write.contents c.print.new.out) said.1 c.args.kind c.args.options c.args.options.rows (λ i. (c.type_inv.bytes i).fits) begins
    (ended_so shown.ended said.0 c.shown_of-shown.ensures) c.in-Ok.ensures
