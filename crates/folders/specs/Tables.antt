-- The tables that a folder's catalogue declares, and why there are none.
use Rattle.std.specs.Prelude.{◌≡◌, ◌⊎◌, List, ℕ, Ok, Err}
use Rattle.catalog_reader.specs.CatalogText.{catalog_of}
use Rattle.meaning.specs.declared.catalog.Catalog.{Catalog}
use Rattle.meaning.specs.declared.catalog.CatalogFault.{CatalogFault}
use Rattle.folders.specs.Folder.{AreHeld, Holds, catalog_path}
use Rattle.folders.specs.Refused.{IsUnread}
use Rattle.folders.specs.declared.refusal.Refusal.{Refusal}
use Rattle.folders.specs.declared.refusal.Refusal.TheVariants as refusal

-- the catalogue that the folder's file declares
pub record IsCatalogThere (holds : Holds) (folder : List ℕ) (catalog : Catalog) : Type 0 where
  pub bytes : List ℕ
  pub held : AreHeld (holds (catalog_path folder)) bytes
  pub declared : catalog_of bytes ≡ Ok catalog

-- the catalogue can't be read, or it declares no tables
abbrev pub IsCatalogRefused : Holds → List ℕ → Refusal → Type 0
IsCatalogRefused holds folder e = IsUnread (catalog_path folder) e
    ⊎ ((bytes : List ℕ) × (fault : CatalogFault) × AreHeld (holds (catalog_path folder)) bytes × (catalog_of bytes ≡ Err fault) × (e ≡ refusal.Catalog fault))
