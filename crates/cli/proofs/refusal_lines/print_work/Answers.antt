-- Proofs of the goals of `print_work` (`refusal_lines`).
use Rattle.std.proofs.Common.{[], OnOk, codes, subst}
use Rattle.std.specs.Io.KnownBytes.{Appends}
use Rattle.job_files.specs.Fault.{number_of}
use Rattle.cli.specs.Lines.{work_details}
use Rattle.cli.proofs.RefusalDetails.{line_from, no_work_details}
use Rattle.cli.proofs.refusal_lines.print_work.Goals as goal

pub returns-in_default : goal.returns-in_default
returns-in_default g c =
    subst (λ line. OnOk c.print_number.result (Appends (g.E.Write.contents c.args.err.now) (g.E.Write.contents c.print_number.new.err) line))
    (line_from (codes "work") c.number.result (number_of c.args.fault.now) [] (work_details c.args.fault.now)
    c.number.ensures (no_work_details c.args.fault.now c.in_default.not-File))
    c.print_number.ensures
