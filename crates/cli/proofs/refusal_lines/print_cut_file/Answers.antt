-- Proofs of the goals of `print_cut_file` (`refusal_lines`).
use Rattle.std.proofs.Common.{[], ◌∷◌, OnOk, codes, decimal, sym, ap, subst}
use Rattle.std.specs.Io.KnownBytes.{Appends}
use Rattle.cli.specs.Lines.{file_details}
use Rattle.cli.proofs.RefusalDetails.{line_from, no_details}
use Rattle.fragment_file.specs.Fault.{number_of}
use Rattle.cli.proofs.refusal_lines.print_cut_file.Goals as goal

pub returns-in-Block : goal.returns-in-Block
returns-in-Block g c =
    subst (λ line. OnOk c.print_field.result (Appends (g.E.Write.contents c.args.err.now) (g.E.Write.contents c.print_field.new.err) line))
    (line_from (codes "file") c.number-number.result (number_of c.args.fault.now) (decimal c.in-Block.group ∷ decimal c.in-Block.column ∷ []) (file_details c.args.fault.now)
    c.number-number.ensures (sym (ap file_details c.in-Block.is)))
    c.print_field.ensures

pub returns-in_default : goal.returns-in_default
returns-in_default g c =
    subst (λ line. OnOk c.print_number.result (Appends (g.E.Write.contents c.args.err.now) (g.E.Write.contents c.print_number.new.err) line))
    (line_from (codes "file") c.number-number.result (number_of c.args.fault.now) [] (file_details c.args.fault.now)
    c.number-number.ensures (no_details c.args.fault.now c.in_default.not-Block))
    c.print_number.ensures
