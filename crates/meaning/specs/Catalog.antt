-- Declared tables within the limits.
use Rattle.std.specs.Prelude.{◌≡◌, ◌≢◌, ℕ, ◌≤◌, ◌<◌, nat_le, ◌==◌, Bool, false, ◌&&◌, ◌||◌, not, IsTrue, List, [], ◌∷◌, length, map, All, AllPairs, HoldsAt}
use Rattle.std.specs.List.{list_all}
use Rattle.meaning.specs.Limits.{max_name_bytes, max_columns, max_dimensions}
use Rattle.meaning.specs.declared.catalog.Table.{Table}
use Rattle.meaning.specs.declared.catalog.Dimension.{Dimension}
use Rattle.meaning.specs.declared.catalog.Catalog.{Catalog}
use Rattle.meaning.specs.declared.catalog.CatalogFault.{CatalogFault}
use Rattle.meaning.specs.declared.catalog.CatalogFault.TheVariants.{Memory, NotUtf8, UnknownLine, NameTwice, NotOneFact, UnfitKey, OverLimit}
use Rattle.meaning.specs.Reserved.{is_reserved}

-- a lower-case letter or an underscore
abbrev pub begins_name : ℕ → Bool
begins_name b = (nat_le 97 b && nat_le b 122) || b == 95

-- such a byte or a digit
abbrev pub continues_name : ℕ → Bool
continues_name b = begins_name b || (nat_le 48 b && nat_le b 57)

-- letters, digits and underscores, and no digit in front
abbrev pub has_name_form : List ℕ → Bool
has_name_form [] = false
has_name_form (b ∷ bs) = begins_name b && list_all continues_name bs

-- the error code of a refusal
abbrev pub number_of : CatalogFault → ℕ
number_of Memory = 0
number_of NotUtf8 = 1
number_of (UnknownLine line) = 2
number_of (NameTwice line) = 3
number_of NotOneFact = 4
number_of UnfitKey = 5
number_of OverLimit = 6

-- a word that can be a name, of any length
abbrev pub is_name : List ℕ → Bool
is_name word = has_name_form word && not (is_reserved word)

-- a name of 1 to 64 bytes that isn't reserved
pub record IsName (name : List ℕ) : Type 0 where
  pub word : IsTrue (is_name name)
  pub short : length name ≤ max_name_bytes

-- 1 to 64 columns with names that differ
pub record IsWellFormedTable (table : Table) : Type 0 where
  pub name : IsName table.name
  pub some : 1 ≤ length table.columns
  pub few : length table.columns ≤ max_columns
  pub columns : All (λ column. IsName column.name) table.columns
  pub distinct : AllPairs (λ a b. a ≢ b) (map (λ column. column.name) table.columns)

-- the key is one of the columns, and isn't nullable
pub record HasKey (dimension : Dimension) : Type 0 where
  pub within : dimension.key < length dimension.table.columns
  pub filled : HoldsAt (λ column. column.nullable ≡ false) dimension.table.columns dimension.key

-- well-formed tables with names that differ, at most 16 of them dimensions, and these with their keys
pub record IsWellFormed (catalog : Catalog) : Type 0 where
  pub fact : IsWellFormedTable catalog.fact
  pub dims : All (λ dimension. IsWellFormedTable dimension.table) catalog.dims
  pub keys : All HasKey catalog.dims
  pub few : length catalog.dims ≤ max_dimensions
  pub distinct : AllPairs (λ a b. a ≢ b) (catalog.fact.name ∷ map (λ dimension. dimension.table.name) catalog.dims)
