-- Proofs of the goals of `checked_text` (`making`).
use Rattle.std.proofs.Common.{inl, inr, subst}
use Rattle.std.specs.Prelude.{string_bytes}
use Rattle.std.proofs.lemmas.Result.{err_from_is_err_and}
use Rattle.init.specs.Refusing.{IsCatalogRefused}
use Rattle.init.proofs.making.checked_text.Goals as goal

pub returns-in_err-check_catalog-clause-refused : goal.returns-in_err-check_catalog-clause-refused
returns-in_err-check_catalog-clause-refused g c =
    let e = c.in_err-check_catalog.field-0.0 in
    let refused = subst (λ text. IsCatalogRefused (g.F.Folder.holds c.args.folder.now) c.args.directory.now text e) c.as_bytes.ensures.value c.in_err-check_catalog.ensures.refused in
    let p = err_from_is_err_and c.from_residual-in_err-check_catalog.result c.from_residual-in_err-check_catalog.ensures.1 in
    rw (p.1, p.2) (inr (string_bytes c.in_ok-text.text, c.in_ok-text.ensures.guess, refused))

pub returns-in_err-text-clause-refused : goal.returns-in_err-text-clause-refused
returns-in_err-text-clause-refused g c =
    let p = err_from_is_err_and c.from_residual.result c.from_residual.ensures.1 in
    rw (p.1, p.2) (inl c.in_err-text.ensures.refused)
