-- Proofs of the goals of `print_table` (`refusal_lines`).
use Rattle.std.proofs.Common.{[], ◌∷◌, OnOk, decimal, ap, subst, inl, inr}
use Rattle.std.specs.Io.KnownBytes.{Appends}
use Rattle.cli.specs.Lines.{table_details}
use Rattle.cli.proofs.RefusalDetails.{table_line_from}
use Rattle.cli.proofs.refusal_lines.print_table.Goals as goal

pub returns-in-Header : goal.returns-in-Header
returns-in-Header g c =
    subst (λ line. OnOk c.print_number.result (Appends (g.E.Write.contents c.args.err.now) (g.E.Write.contents c.print_number.new.err) line))
    (table_line_from c.args.fault.now c.number-number.result [] c.number-number.ensures (elim c.in-Header.is [
      | inl is ↦ ap table_details is
      | inr others ↦ elim others [ inl is ↦ ap table_details is | inr is ↦ ap table_details is ]
    ]))
    c.print_number.ensures

pub returns-in-FieldCount : goal.returns-in-FieldCount
returns-in-FieldCount g c =
    let row = c.in-FieldCount.row in
    subst (λ line. OnOk c.print_detail.result (Appends (g.E.Write.contents c.args.err.now) (g.E.Write.contents c.print_detail.new.err) line))
    (table_line_from c.args.fault.now c.number-number.result (decimal row ∷ []) c.number-number.ensures
    (elim c.in-FieldCount.is [ inl is ↦ ap table_details is | inr is ↦ ap table_details is ]))
    c.print_detail.ensures

pub returns-in-NotAnInteger : goal.returns-in-NotAnInteger
returns-in-NotAnInteger g c =
    let row = c.in-NotAnInteger.row in
    let column = c.in-NotAnInteger.column in
    subst (λ line. OnOk c.print_field.result (Appends (g.E.Write.contents c.args.err.now) (g.E.Write.contents c.print_field.new.err) line))
    (table_line_from c.args.fault.now c.number-number.result (decimal row ∷ decimal column ∷ []) c.number-number.ensures (elim c.in-NotAnInteger.is [
      | inl is ↦ ap table_details is
      | inr others ↦ elim others [
        | inl is ↦ ap table_details is
        | inr last ↦ elim last [ inl is ↦ ap table_details is | inr is ↦ ap table_details is ]
      ]
    ]))
    c.print_field.ensures
