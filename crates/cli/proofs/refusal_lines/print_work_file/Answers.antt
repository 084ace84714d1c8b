-- Proofs of the goals of `print_work_file` (`refusal_lines`).
use Rattle.std.proofs.Common.{[], ◌∷◌, OnOk, codes, decimal, refl, sym, ap, ◌∙◌, subst}
use Rattle.std.specs.Io.KnownBytes.{Appends}
use Rattle.cli.specs.Lines.{file_details}
use Rattle.cli.proofs.RefusalDetails.{line_from, no_details}
use Rattle.fragment_file.specs.Fault.{number_of}
use Rattle.cli.proofs.refusal_lines.print_work_file.Goals as goal

pub returns-in-Block : goal.returns-in-Block
returns-in-Block g c =
    subst (λ line. OnOk c.print_block.result (Appends (g.E.Write.contents c.args.err.now) (g.E.Write.contents c.print_block.new.err) line))
    (line_from (codes "work") 3 3 (decimal c.number-number.result ∷ decimal c.in-Block.group ∷ decimal c.in-Block.column ∷ []) (decimal (number_of c.args.fault.now) ∷ file_details c.args.fault.now) refl
    (λ i. decimal (c.number-number.ensures i) ∷ sym (ap file_details c.in-Block.is) i))
    c.print_block.ensures

pub returns-in_default : goal.returns-in_default
returns-in_default g c =
    subst (λ line. OnOk c.print_detail.result (Appends (g.E.Write.contents c.args.err.now) (g.E.Write.contents c.print_detail.new.err) line))
    (line_from (codes "work") 3 3 (decimal c.from.result ∷ []) (decimal (number_of c.args.fault.now) ∷ file_details c.args.fault.now) refl
    (λ i. decimal ((c.from.ensures ∙ c.number-number.ensures) i) ∷ no_details c.args.fault.now c.in_default.not-Block i))
    c.print_detail.ensures
