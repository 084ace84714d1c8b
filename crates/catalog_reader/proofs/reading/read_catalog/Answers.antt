-- Proofs of the goals of `read_catalog` (`reading`).
use Rattle.std.proofs.Common.{◌≡◌, ◌≢◌, refl, ◌∙◌, ap, sym, true, false, if◌then◌else◌, Err}
use Rattle.std.specs.Str.{is_utf8}
use Rattle.std.proofs.lemmas.Str.{IsUtf8-from_is_utf8, is_utf8-from_IsUtf8}
use Rattle.catalog_reader.specs.CatalogText.{catalog_of, catalog_of_text}
use Rattle.meaning.specs.declared.catalog.CatalogFault.TheVariants.{Memory, NotUtf8}
use Rattle.catalog_reader.proofs.WellFormedCatalog.{if_ok-well_formed}
use Rattle.catalog_reader.proofs.reading.read_catalog.Goals as goal

pub returns-in-Ok : goal.returns-in-Ok
returns-in-Ok c =
    let valid : is_utf8 c.args.bytes.now ≡ true = is_utf8-from_IsUtf8 _ c.in-Ok.ensures.cases.1 in
    let value : c.catalog_of_text.result ≢ Err Memory → c.catalog_of_text.result ≡ catalog_of c.args.bytes.now =
    λ given. c.catalog_of_text.ensures given ∙ ap catalog_of_text c.in-Ok.ensures.cases.0
    ∙ sym (ap (λ b. (if b then catalog_of_text c.args.bytes.now else Err NotUtf8)) valid) in
    record { value = value; well_formed = if_ok-well_formed c.args.bytes.now c.catalog_of_text.result value }

pub returns-in-Err : goal.returns-in-Err
returns-in-Err c = record {
  value = λ _.
      elim (is_utf8 c.args.bytes.now) as
      (λ b. is_utf8 c.args.bytes.now ≡ b → Err NotUtf8
      ≡ (if b then catalog_of_text c.args.bytes.now else Err NotUtf8)) [
        | true ↦ λ valid. absurd (c.in-Err.ensures.cases.0 (IsUtf8-from_is_utf8 _ valid))
        | false ↦ λ _. refl
      ] refl;
  well_formed = tt;
}
