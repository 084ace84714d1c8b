-- Proofs of the goals of `name_of` (`catalog_line`).
use Rattle.std.proofs.Common.{◌≡◌, true}
use Rattle.std.proofs.lemmas.Str.{IsUtf8-from_ascii}
use Rattle.meaning.specs.Catalog.{is_name}
use Rattle.meaning.proofs.NameForms.{is_name-ascii}
use Rattle.catalog_reader.proofs.catalog_line.name_of.Goals as goal

pub returns-in_default : goal.returns-in_default
returns-in_default c =
    let named : is_name c.args.word.now ≡ true = cc in
    absurd (c.in_default.ensures.cases.0 (IsUtf8-from_ascii _ (is_name-ascii _ named)))
