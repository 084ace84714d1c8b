-- A catalogue that is read is well-formed.
use Rattle.std.proofs.Common.{◌≡◌, ◌≢◌, ℕ, ◌≤◌, ◌==◌, ◌&&◌, not, nat_lt, Bool, true, false, if◌then◌else◌, Option, Some, None, is_none, option_map, Result, Ok, Err, IfOk, List, [], ◌∷◌, length, map, filter_map, AllPairs, bytes_eq, refl, ap, sym, ◌∙◌, subst, arith}
use Rattle.std.proofs.lemmas.Bool.{and_parts, or_parts}
use Rattle.std.proofs.lemmas.Bool.Decides.{nat_tests}
use Rattle.std.proofs.lemmas.List.Elements.{All-from_recursion}
use Rattle.std.proofs.lemmas.List.Kept.{AllPairs-cons}
use Rattle.std.proofs.lemmas.List.Quantifiers.{position-Some}
use Rattle.std.specs.List.{AllByRecursion, cons_option, list_any}
use Rattle.std.specs.Char.{to_ascii_lowercase}
use Rattle.std.specs.Str.{is_utf8}
use Rattle.std.specs.Str.Lines.{lines}
use Rattle.meaning.specs.declared.value.ColType.TheVariants as types
use Rattle.meaning.specs.declared.catalog.Column.{Column}
use Rattle.meaning.specs.declared.catalog.Table.{Table}
use Rattle.meaning.specs.declared.catalog.Dimension.{Dimension}
use Rattle.meaning.specs.declared.catalog.Catalog.{Catalog}
use Rattle.meaning.specs.declared.catalog.CatalogFault.{CatalogFault}
use Rattle.meaning.specs.declared.catalog.CatalogFault.TheVariants.{Memory, NotUtf8, UnfitKey, OverLimit}
use Rattle.catalog_reader.specs.declared.catalog_tables.Declared.{Declared}
use Rattle.meaning.specs.Catalog.{is_name, IsName, IsWellFormedTable, HasKey, IsWellFormed}
use Rattle.meaning.proofs.Tests.{not_true}
use Rattle.catalog_reader.specs.CatalogTables.{first_line_fault, statements, tables_of}
use Rattle.catalog_reader.specs.CatalogText.{key_column, declared_fact, keyed, facts, dims, lacks_key, exceeds_limits, exceed_limits, catalog_with, catalog_unless, lines_of, catalog_of_text, catalog_of}
use Rattle.catalog_reader.proofs.SoundTables.{AreApart, column_name, table_name, IsSoundTable, AreSound, lines-sound, tables_of-sound}

-- ---- lists

All-kept : {X Y : Type 0} (h : X → Option Y) (P : X → Type 0) (Q : Y → Type 0)
    → ((x : X) (y : Y) → h x ≡ Some y → P x → Q y) → (xs : List X) → AllByRecursion P xs
    → AllByRecursion Q (filter_map h xs)
All-kept h P Q each [] all = tt
All-kept h P Q each (x ∷ xs) all =
    let rest = All-kept h P Q each xs all.1 in
    elim (h x) as (λ o. h x ≡ o → AllByRecursion Q (cons_option o (filter_map h xs))) [
      | None ↦ λ _. rest
      | Some y ↦ λ is. (each x y is all.0, rest)
    ] refl

All-mapped : {X Y : Type 0} (f : X → Y) (P : Y → Type 0) (xs : List X) → AllByRecursion P (map f xs)
    → AllByRecursion (λ x. P (f x)) xs
All-mapped f P [] all = tt
All-mapped f P (x ∷ xs) all = (all.0, All-mapped f P xs all.1)

All-map_back : {X Y : Type 0} (f : X → Y) (P : Y → Type 0) (xs : List X) → AllByRecursion (λ x. P (f x)) xs
    → AllByRecursion P (map f xs)
All-map_back f P [] all = tt
All-map_back f P (x ∷ xs) all = (all.0, All-map_back f P xs all.1)

pairs-from_apart : (xs : List (List ℕ)) → AreApart xs → AllPairs (λ a b. a ≢ b) xs
pairs-from_apart [] apart = λ i j d before within. absurd (omega arith)
pairs-from_apart (x ∷ xs) apart =
    AllPairs-cons (λ a b. a ≢ b) x xs (All-from_recursion (λ y. x ≢ y) xs apart.0) (pairs-from_apart xs apart.1)

-- what no element passes
none_pass : {X : Type 0} (test : X → Bool) (xs : List X) → list_any test xs
    ≡ false → AllByRecursion (λ x. test x ≡ false) xs
none_pass test [] none = tt
none_pass test (x ∷ xs) none = let parts = or_parts _ _ none in (parts.0, none_pass test xs parts.1)

All-both : {X : Type 0} (P Q R : X → Type 0) → ((x : X) → P x → Q x → R x) → (xs : List X) → AllByRecursion P xs
    → AllByRecursion Q xs → AllByRecursion R xs
All-both P Q R both [] ps qs = tt
All-both P Q R both (x ∷ xs) ps qs = (both x ps.0 qs.0, All-both P Q R both xs ps.1 qs.1)

not_below : (m n : ℕ) → nat_lt m n ≡ false → n ≤ m
not_below m n h = grind (arith, nat_tests)

not_empty : (n : ℕ) → (n == 0) ≡ false → 1 ≤ n
not_empty n h = grind (arith, nat_tests)

-- ---- one table

well_formed_table : (d : Declared) → IsSoundTable d → exceeds_limits d.table ≡ false → IsWellFormedTable d.table
well_formed_table d sound within =
    let columns = or_parts _ _ within in
    let name = or_parts _ _ columns.0 in
    let count = or_parts _ _ name.0 in
    record {
      name = record { word = sound.name; short = not_below _ _ name.1 };
      some = not_empty _ count.0;
      few = not_below _ _ count.1;
      columns = All-from_recursion (λ column. IsName column.name) d.table.columns
          (All-both (λ c. is_name (column_name c) ≡ true) (λ c. nat_lt 64 (length c.name) ≡ false) (λ c. IsName c.name)
          (λ c word short. record { word = word; short = not_below _ _ short }) d.table.columns
          sound.columns (none_pass (λ column. nat_lt 64 (length column.name)) d.table.columns columns.1));
      distinct = pairs-from_apart (map column_name d.table.columns) sound.apart;
    }

-- ---- the tables together

-- the key column isn't nullable
has_key : (table : Table) (key : List ℕ) (k : ℕ) → key_column table.columns key
    ≡ Some k → HasKey (record { table = table; key = k })
has_key table key k is =
    let test : Column → Bool = λ column. bytes_eq column.name key && not column.nullable in
    let some_column : Column = record { name = []; col_type = types.Int; nullable = false } in
    let within = position-Some test table.columns k some_column is in
    record {
      within = within.0;
      filled = λ d. let found = position-Some test table.columns k d is in let parts = and_parts _ _ found.1 in
          not_true _ parts.1;
    }

keyed-parts : (table : Table) (key : Option (List ℕ)) (dimension : Dimension)
    → keyed (record { table = table; key = key }) ≡ Some dimension → (table ≡ dimension.table) × HasKey dimension
keyed-parts table None dimension is = cc
keyed-parts table (Some key) dimension is =
    elim (key_column table.columns key) as
    (λ p. key_column table.columns key
    ≡ p → option_map (λ k. let d : Dimension = record { table = table; key = k } in d) p
    ≡ Some dimension → (table ≡ dimension.table) × HasKey dimension) [
      | None ↦ λ _ none. cc
      | Some k ↦ λ found some.
          let made : Dimension = record { table = table; key = k } in
          let same : made ≡ dimension = cc in
          (ap (λ (d : Dimension). d.table) same, subst HasKey same (has_key table key k found))
    ] refl is

keyed-table : (d : Declared) (dimension : Dimension) → keyed d ≡ Some dimension → d.table ≡ dimension.table
keyed-table d dimension is = let parts = keyed-parts d.table d.key dimension is in parts.0

keyed-key : (d : Declared) (dimension : Dimension) → keyed d ≡ Some dimension → HasKey dimension
keyed-key d dimension is = let parts = keyed-parts d.table d.key dimension is in parts.1

declared_fact-table : (d : Declared) (table : Table) → declared_fact d ≡ Some table → d.table ≡ table
declared_fact-table d table is =
    elim (is_none d.key) as (λ b. (if b then Some d.table else None) ≡ Some table → d.table
    ≡ table) [ true ↦ λ some. cc | false ↦ λ none. cc ] is

abbrev dimension_name : Dimension → List ℕ
dimension_name dimension = dimension.table.name

-- a name that no table has, no fact table and no dimension has
facts-apart : (name : List ℕ) (tables : List Declared) → AllByRecursion (λ y. name ≢ y) (map table_name tables)
    → AllByRecursion (λ (t : Table). name ≢ t.name) (facts tables)
facts-apart name tables apart =
    All-kept declared_fact (λ d. name ≢ d.table.name) (λ t. name ≢ t.name)
    (λ d t is ne same. ne (same ∙ ap (λ (u : Table). u.name) (sym (declared_fact-table d t is)))) tables
    (All-mapped table_name (λ y. name ≢ y) tables apart)

dims-apart : (name : List ℕ) (tables : List Declared) → AllByRecursion (λ y. name ≢ y) (map table_name tables)
    → AllByRecursion (λ y. name ≢ y) (map dimension_name (dims tables))
dims-apart name tables apart =
    All-map_back dimension_name (λ y. name ≢ y) (dims tables)
    (All-kept keyed (λ d. name ≢ d.table.name) (λ dimension. name ≢ dimension.table.name)
    (λ d dimension is ne same. ne (same ∙ ap (λ (u : Table). u.name) (sym (keyed-table d dimension is)))) tables
    (All-mapped table_name (λ y. name ≢ y) tables apart))

dims-AreApart : (tables : List Declared) → AreApart (map table_name tables)
    → AreApart (map dimension_name (dims tables))
dims-AreApart [] apart = tt
dims-AreApart (d ∷ tables) apart =
    let rest = dims-AreApart tables apart.1 in
    elim (keyed d) as (λ o. keyed d ≡ o → AreApart (map dimension_name (cons_option o (dims tables)))) [
      | None ↦ λ _. rest
      | Some dimension ↦ λ is.
          let name : d.table.name ≡ dimension.table.name = ap (λ (u : Table). u.name) (keyed-table d dimension is) in (
            dims-apart dimension.table.name tables
                (subst (λ n. AllByRecursion (λ y. n ≢ y) (map table_name tables)) name apart.0),
            rest,
          )
    ] refl

-- the one fact table's name is no dimension's
fact-apart : (tables : List Declared) (fact : Table) → facts tables
    ≡ fact ∷ [] → AreApart (map table_name tables)
    → AllByRecursion (λ y. fact.name ≢ y) (map dimension_name (dims tables))
fact-apart [] fact one apart = tt
fact-apart (d ∷ tables) fact one apart =
    fact-apart-first d.table d.key tables fact one apart (λ later. fact-apart tables fact later apart.1) where
      fact-apart-first : (table : Table) (key : Option (List ℕ)) (tables : List Declared) (fact : Table)
          → let d : Declared = record { table = table; key = key } in
          facts (d ∷ tables) ≡ fact ∷ [] → AreApart (map table_name (d ∷ tables))
          → (facts tables ≡ fact ∷ [] → AllByRecursion (λ y. fact.name ≢ y) (map dimension_name (dims tables)))
          → AllByRecursion (λ y. fact.name ≢ y) (map dimension_name (dims (d ∷ tables)))
      fact-apart-first table None tables fact one apart rest =
          let same : table ≡ fact = cc in
          dims-apart fact.name tables (subst
          (λ (t : Table). AllByRecursion (λ y. t.name ≢ y) (map table_name tables)) same apart.0)
      fact-apart-first table (Some key) tables fact one apart rest =
          let d : Declared = record { table = table; key = Some key } in
          let other = facts-apart table.name tables apart.0 in
          let P : Table → Type 0 = λ t. table.name ≢ t.name in
          let among : AllByRecursion P (fact ∷ []) = subst (AllByRecursion P) one other in
          let apart_from_fact : table.name ≢ fact.name = among.0 in
          elim (keyed d) as (λ o. keyed d
          ≡ o → AllByRecursion (λ y. fact.name ≢ y) (map dimension_name (cons_option o (dims tables)))) [
            | None ↦ λ _. rest one
            | Some dimension ↦ λ is.
                let name : table.name ≡ dimension.table.name =
                ap (λ (u : Table). u.name) (keyed-table d dimension is) in
                ((λ same. apart_from_fact (name ∙ sym same)), rest one)
          ] refl

well_formed : (tables : List Declared) (fact : Table) → facts tables
    ≡ fact ∷ [] → AreSound tables → exceed_limits tables
    ≡ false → IsWellFormed (record { fact = fact; dims = dims tables })
well_formed tables fact one sound within =
    let parts = or_parts _ _ within in
    let each : AllByRecursion (λ (d : Declared). IsWellFormedTable d.table) tables =
    All-both IsSoundTable (λ d. exceeds_limits d.table ≡ false)
    (λ d. IsWellFormedTable d.table) well_formed_table tables
    sound.each (none_pass (λ d. exceeds_limits d.table) tables parts.0) in
    let facts_well : AllByRecursion IsWellFormedTable (facts tables) =
    All-kept declared_fact (λ d. IsWellFormedTable d.table) IsWellFormedTable
    (λ d t is well. subst IsWellFormedTable (declared_fact-table d t is) well) tables each in
    let fact_well : AllByRecursion IsWellFormedTable (fact ∷ []) =
    subst (AllByRecursion IsWellFormedTable) one facts_well in
    record {
      fact = fact_well.0;
      dims = All-from_recursion (λ (d : Dimension). IsWellFormedTable d.table) (dims tables)
          (All-kept keyed (λ d. IsWellFormedTable d.table) (λ d. IsWellFormedTable d.table)
          (λ d dimension is well. subst IsWellFormedTable (keyed-table d dimension is) well) tables each);
      keys = All-from_recursion HasKey (dims tables)
          (All-kept keyed (λ d. IsWellFormedTable d.table) HasKey
          (λ d dimension is _. keyed-key d dimension is) tables each);
      few = not_below _ _ parts.1;
      distinct = pairs-from_apart (fact.name ∷ map dimension_name (dims tables))
          (fact-apart tables fact one sound.apart, dims-AreApart tables sound.apart);
    }

well_formed-with : (tables : List Declared) (fs : List Table) (c : Catalog) → facts tables
    ≡ fs → AreSound tables → catalog_with fs tables ≡ Ok c → IsWellFormed c
well_formed-with tables [] c is sound made = cc
well_formed-with tables (fact ∷ next ∷ more) c is sound made = cc
well_formed-with tables (fact ∷ []) c is sound made =
    let whole : Catalog = record { fact = fact; dims = dims tables } in
    elim (list_any lacks_key tables) as
    (λ b. (if b then Err UnfitKey else if exceed_limits tables then Err OverLimit else Ok whole)
    ≡ Ok c → IsWellFormed c) [
      | true ↦ λ h. cc
      | false ↦ λ h.
          elim (exceed_limits tables) as (λ b. exceed_limits tables ≡ b → (if b then Err OverLimit else Ok whole)
          ≡ Ok c → IsWellFormed c) [
            | true ↦ λ _ k. cc
            | false ↦ λ within k. let same : whole ≡ c = cc in
                subst IsWellFormed same (well_formed tables fact is sound within)
          ] refl h
    ] made

well_formed-text : (text : List ℕ) (c : Catalog) → catalog_of_text text ≡ Ok c → IsWellFormed c
well_formed-text text c made =
    let said = lines_of text in
    elim (first_line_fault [] said) as
    (λ o. first_line_fault [] said ≡ o → catalog_unless o said ≡ Ok c → IsWellFormed c) [
      | None ↦ λ none from.
          well_formed-with (tables_of (statements said)) (facts (tables_of (statements said))) c refl
          (tables_of-sound said (lines-sound (lines (map to_ascii_lowercase text))) none) from
      | Some fault ↦ λ _ h. cc
    ] refl made

pub well_formed-catalog : (bytes : List ℕ) (c : Catalog) → catalog_of bytes ≡ Ok c → IsWellFormed c
well_formed-catalog bytes c made =
    elim (is_utf8 bytes) as (λ b. (if b then catalog_of_text bytes else Err NotUtf8) ≡ Ok c → IsWellFormed c) [
      | true ↦ λ h. well_formed-text bytes c h
      | false ↦ λ h. cc
    ] made

-- what a reader that gives the bytes' catalogue gives
pub if_ok-well_formed : (bytes : List ℕ) (r : Result Catalog CatalogFault) → (r ≢ Err Memory → r ≡ catalog_of bytes)
    → IfOk r IsWellFormed
if_ok-well_formed bytes (Err fault) value = tt
if_ok-well_formed bytes (Ok c) value = let given : Ok c ≢ Err Memory = λ e. cc in
    well_formed-catalog bytes c (sym (value given))
