-- The keys of a table, from column to column.
use Rattle.std.proofs.Common.{◌≡◌, ℕ, zero, suc, ◌+◌, Bool, true, false, cond, not, List, [], ◌∷◌, ◌++◌, ⊎_elim, ap, subst, sym, ◌∙◌, arith, append-nil, zero-add}
use Rattle.std.specs.Prelude.{◌&&◌, Some, filter, is_ok, slice_get}
use Rattle.std.specs.List.{range_with_len}
use Rattle.std.proofs.lemmas.Bool.{cases_eq}
use Rattle.std.proofs.lemmas.List.Elements.{filter-append}
use Rattle.meaning.specs.declared.catalog.Table.{Table}
use Rattle.meaning.specs.Records.{Record, dimension_of}
use Rattle.loader.specs.Source.{csv_records}
use Rattle.folders.specs.Folder.{Holds}
use Rattle.init.specs.declared.fault.InitFault.{InitFault}
use Rattle.init.specs.Guessing.{IsFirstFault, IsOtherFault}
use Rattle.init.specs.Keys.{ArePassed, is_key, is_nullable, is_passed}
use Rattle.init.specs.Refusing.{IsDimensionRefused}

counted : (a n : ℕ) → range_with_len a (suc n) ≡ range_with_len a n ++ (a + n) ∷ []
counted a zero = let same : a ≡ a + 0 = omega arith in ap (λ k. k ∷ []) same
counted a (suc n) = let same : (a + 1) + n ≡ a + suc n = omega arith in ap (λ ks. a ∷ ks) (counted (a + 1) n ∙ ap (λ k. range_with_len (a + 1) n ++ k ∷ []) same)

more : (n : ℕ) → range_with_len 0 (n + 1) ≡ range_with_len 0 n ++ n ∷ []
more n = let on : n + 1 ≡ suc n = omega arith in ap (range_with_len 0) on ∙ counted 0 n ∙ ap (λ k. range_with_len 0 n ++ k ∷ []) (zero-add n)

module _ (table : Table) (records : List Record) where
  tried : (index : ℕ) (b : Bool) → is_key table records index ≡ b → filter (is_key table records) (range_with_len 0 (index + 1)) ≡ filter (is_key table records) (range_with_len 0 index) ++ cond b (index ∷ []) []
  tried index b is = ap (filter (is_key table records)) (more index) ∙ filter-append (is_key table records) (range_with_len 0 index) (index ∷ []) ∙ ap (λ (t : Bool). filter (is_key table records) (range_with_len 0 index) ++ cond t (index ∷ []) []) is

  pub key_more : (keys : List ℕ) (index : ℕ) → keys ≡ filter (is_key table records) (range_with_len 0 index) → is_key table records index ≡ true → keys ++ index ∷ [] ≡ filter (is_key table records) (range_with_len 0 (index + 1))
  key_more keys index so_far is = ap (λ ks. ks ++ index ∷ []) so_far ∙ sym (tried index true is)

  pub no_key_more : (keys : List ℕ) (index : ℕ) → keys ≡ filter (is_key table records) (range_with_len 0 index) → is_key table records index ≡ false → keys ≡ filter (is_key table records) (range_with_len 0 (index + 1))
  no_key_more keys index so_far is = so_far ∙ sym (tried index false is ∙ append-nil (filter (is_key table records) (range_with_len 0 index)))

  pub null_is_no_key : (tried_table : Table) (index : ℕ) (nullable : Bool) → tried_table ≡ table → nullable ≡ is_nullable (slice_get tried_table.columns index) → nullable ≡ true → is_key table records index ≡ false
  null_is_no_key tried_table index nullable same is null =
      ap (λ (b : Bool). not b && is_ok (dimension_of (record { table = table; key = index }) records)) ((λ k. is_nullable (slice_get (sym same k).columns index)) ∙ sym is ∙ null)

  pub found_is_key : (tried_table : Table) (index : ℕ) (nullable found : Bool) → tried_table ≡ table → nullable ≡ is_nullable (slice_get tried_table.columns index) → nullable ≡ false
      → found ≡ is_ok (dimension_of (record { table = tried_table; key = index }) records) → is_key table records index ≡ found
  found_is_key tried_table index nullable found same is filled has =
      ap (λ (b : Bool). not b && is_ok (dimension_of (record { table = table; key = index }) records)) ((λ k. is_nullable (slice_get (sym same k).columns index)) ∙ sym is ∙ filled)
      ∙ (λ k. is_ok (dimension_of (record { table = sym same k; key = index }) records)) ∙ sym has

  pub none_passed : ArePassed table records 0
  none_passed earlier below filled = absurd (omega (arith, below))

  pub passed_more : (index : ℕ) → ArePassed table records index → (is_nullable (slice_get table.columns index) ≡ false → is_passed (dimension_of (record { table = table; key = index }) records) ≡ true) → ArePassed table records (index + 1)
  passed_more index so_far here earlier below filled =
      ⊎_elim (λ (same : earlier ≡ index). subst (λ k. is_nullable (slice_get table.columns k) ≡ false → is_passed (dimension_of (record { table = table; key = k }) records) ≡ true) (sym same) here filled)
      (λ apart. so_far earlier (omega (arith, below, apart)) filled) (cases_eq earlier index)

  pub null_is_passed : (tried_table : Table) (index : ℕ) (nullable : Bool) → tried_table ≡ table → nullable ≡ is_nullable (slice_get tried_table.columns index) → nullable ≡ true
      → is_nullable (slice_get table.columns index) ≡ false → is_passed (dimension_of (record { table = table; key = index }) records) ≡ true
  null_is_passed tried_table index nullable same is null filled =
      let bad : true ≡ false = sym null ∙ is ∙ (λ k. is_nullable (slice_get (same k).columns index)) ∙ filled in cc bad

  pub tried_is_passed : (tried_table : Table) (index : ℕ) → tried_table ≡ table → is_passed (dimension_of (record { table = tried_table; key = index }) records) ≡ true
      → is_nullable (slice_get table.columns index) ≡ false → is_passed (dimension_of (record { table = table; key = index }) records) ≡ true
  tried_is_passed tried_table index same passed filled = subst (λ (t : Table). is_passed (dimension_of (record { table = t; key = index }) records) ≡ true) same passed

-- the columns before the one under which the records are refused were passed
pub first_fault : (holds : Holds) (path : List ℕ) (table tried_table : Table) (index : ℕ) (nullable : Bool) (e : InitFault) → tried_table ≡ table → nullable ≡ is_nullable (slice_get tried_table.columns index) → nullable ≡ false
    → ((csv : List ℕ) → holds path ≡ Some csv → ArePassed table (csv_records csv) index) → IsDimensionRefused holds path (record { table = tried_table; key = index }) e → IsOtherFault e → IsFirstFault holds path table e
first_fault holds path table tried_table index nullable e same is filled passed refused other = record {
  index = index;
  takes_no_null = (λ k. is_nullable (slice_get (sym same k).columns index)) ∙ sym is ∙ filled;
  refused = subst (λ (t : Table). IsDimensionRefused holds path (record { table = t; key = index }) e) same refused;
  other = other;
  passed = passed;
}
