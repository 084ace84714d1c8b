-- Proofs of the goals of `print_all` (`printing`).
use Rattle.std.proofs.Common.{rules, sym, ⊎_elim}
use Rattle.last_step.proofs.Loans.{gave_back}
use Rattle.last_step.proofs.printing.print_all.Goals as goal

pub returns-in-Ok-into_inner : goal.returns-in-Ok-into_inner
returns-in-Ok-into_inner g c =
    let fresh = c.from_writer-writer.ensures in
    ⊎_elim (λ unknown. rw unknown tt) (λ known. let loan = sym known.0 in let bytes = known.1 in search rules)
    (gave_back g.W.Write.contents c.from_writer-writer.result c.write_rows.new.writer _ c.in-Ok-into_inner.field-0 _ fresh.wtr fresh.empty c.in-Ok.ensures c.in-Ok-into_inner.ensures.ok)
