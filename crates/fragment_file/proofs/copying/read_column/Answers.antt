-- Proofs of the goals of `read_column` (`copying`).
use Rattle.std.proofs.Common.{get_or, ap, ◌∙◌, List}
use Rattle.meaning.specs.declared.catalog.Column.{Column}
use Rattle.columns.specs.Column.{ColumnSpec}
use Rattle.fragment_file.specs.declared.header.Header.{Header}
use Rattle.fragment_file.proofs.CopiedColumns.{column_is, declared_at}
use Rattle.fragment_file.proofs.copying.read_column.Goals as goal

pub append_groups-requires-clause-col_type : goal.append_groups-requires-clause-col_type
append_groups-requires-clause-col_type c = λ d.
    let at = c.index-as_slice-index.is ∙ ap (λ (cs : List Column). get_or cs c.args.index c.index-as_slice-index.result) (c.as_slice.ensures ∙ ap (λ (h : Header). h.columns) c.header.ensures.value) in
    ap (λ (s : ColumnSpec). s.col_type) c.new-column.ensures ∙ ap (λ (x : Column). x.col_type) (declared_at c.args.view.now.header.columns c.args.index c.index-as_slice-index.result d at c.requires.within)

pub append_groups-requires-clause-nullable : goal.append_groups-requires-clause-nullable
append_groups-requires-clause-nullable c = λ d.
    let at = c.index-as_slice-index.is ∙ ap (λ (cs : List Column). get_or cs c.args.index c.index-as_slice-index.result) (c.as_slice.ensures ∙ ap (λ (h : Header). h.columns) c.header.ensures.value) in
    ap (λ (s : ColumnSpec). s.nullable) c.new-column.ensures ∙ ap (λ (x : Column). x.nullable) (declared_at c.args.view.now.header.columns c.args.index c.index-as_slice-index.result d at c.requires.within)

pub returns-in-Ok-clause-ok : goal.returns-in-Ok-clause-ok
returns-in-Ok-clause-ok c = λ d.
    let at = c.index-as_slice-index.is ∙ ap (λ (cs : List Column). get_or cs c.args.index c.index-as_slice-index.result) (c.as_slice.ensures ∙ ap (λ (h : Header). h.columns) c.header.ensures.value) in
    column_is c.new-column.result c.append_groups.new.column c.index-as_slice-index.result d c.args.view.now.header.columns c.args.view.now.groups c.args.index c.new-column.ensures at c.requires.within c.in-Ok.ensures.ok
