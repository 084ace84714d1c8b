-- Proofs of the goals of `catalog_of_text` (`reading`).
use Rattle.std.proofs.Common.{◌≡◌, ◌∙◌, ap, sym, Err, [], map}
use Rattle.std.proofs.lemmas.Result.{err_from_is_err_and}
use Rattle.std.specs.Str.Lines.{lines}
use Rattle.catalog_reader.specs.CatalogLine.{line_of}
use Rattle.catalog_reader.specs.CatalogTables.{first_line_fault, statements, tables_of}
use Rattle.catalog_reader.specs.CatalogText.{catalog_from, catalog_unless, lines_of}
use Rattle.catalog_reader.proofs.reading.catalog_of_text.Goals as goal

pub returns-in_err-tables : goal.returns-in_err-tables
returns-in_err-tables c =
    let p = err_from_is_err_and c.from_residual-in_err-tables.result c.from_residual-in_err-tables.ensures.1 in
    let said : map line_of (map (λ line. line.now) c.deref-2.result.now) ≡ lines_of c.args.text.now =
    ap (λ xs. map line_of (map (λ line. line.now) xs)) c.deref-2.ensures.value
    ∙ ap (map line_of) (c.in_ok-lines.ensures ∙ ap lines (c.deref.ensures ∙ c.in_ok-folded.ensures.ok)) in
    rw (p.1, p.2) (λ given. sym (ap (λ fault. catalog_unless fault (lines_of c.args.text.now))
    (ap (first_line_fault []) (sym said) ∙ c.in_err-tables.ensures.err (λ e. given (ap Err e)))))

pub returns : goal.returns
returns c =
    let said : map line_of (map (λ line. line.now) c.deref-2.result.now) ≡ lines_of c.args.text.now =
    ap (λ xs. map line_of (map (λ line. line.now) xs)) c.deref-2.ensures.value
    ∙ ap (map line_of) (c.in_ok-lines.ensures ∙ ap lines (c.deref.ensures ∙ c.in_ok-folded.ensures.ok)) in
    λ given.
    c.catalog_from.ensures given
    ∙ ap catalog_from (c.in_ok-tables.ensures.tables ∙ ap (λ ls. tables_of (statements ls)) said)
    ∙ sym (ap (λ fault. catalog_unless fault (lines_of c.args.text.now))
    (ap (first_line_fault []) (sym said) ∙ c.in_ok-tables.ensures.ok))
