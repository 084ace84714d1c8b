-- A file that `whole` can't read was asked for.
use Rattle.std.proofs.Common.{◌≡◌, ℕ, List, [], ◌∷◌, ◌++◌, map, zip, find, length, All, Contains, Option, Some, None, Result, Ok, Err, refl, sym, ap, subst, ◌∙◌, arith, inl, inr}
use Rattle.std.specs.Prelude.{◌⊎◌, true, false}
use Rattle.std.specs.List.{list_any}
use Rattle.std.specs.Str.{bytes_eq}
use Rattle.std.proofs.lemmas.Bool.{cases_Bool}
use Rattle.std.proofs.lemmas.List.Elements.{All-contains, Contains-append_right}
use Rattle.std.proofs.lemmas.Slice.Eq.{bytes_eq-Decides}
use Rattle.meaning.specs.Cut.{Cut}
use Rattle.meaning.specs.Order.{Row}
use Rattle.meaning.specs.Records.{Record, dimension_of, fact_of}
use Rattle.meaning.specs.Results.{all_ok, and_then, with_result}
use Rattle.meaning.specs.declared.catalog.Catalog.{Catalog}
use Rattle.meaning.specs.declared.catalog.CatalogFault.{CatalogFault}
use Rattle.meaning.specs.declared.catalog.Dimension.{Dimension}
use Rattle.meaning.specs.declared.plan.Join.{Join}
use Rattle.meaning.specs.declared.plan.Plan.{Plan}
use Rattle.meaning.specs.declared.plan.TableUse.{TableUse}
use Rattle.meaning.specs.declared.table.TableFault.{TableFault}
use Rattle.catalog_reader.specs.CatalogText.{catalog_of}
use Rattle.loader.specs.Source.{csv_records}
use Rattle.sql_reader.proofs.Answering.{one_tree}
use Rattle.planner.specs.Planned.{planned}
use Rattle.planner.specs.QueryText.{IsPlanned}
use Rattle.planner.proofs.TypedPlans.{parts_of_plan}
use Rattle.planner_expressions.specs.declared.fault.PlanFault.{PlanFault}
use Rattle.coordinator.specs.Whole.{Files, Input, IsRefused, csv_of, found_csv, joined_csvs, joined_table, rows_of_dimension, table_from, tables_of}
use Rattle.coordinator.specs.declared.fault.WholeFault.{WholeFault}
use Rattle.coordinator.specs.declared.fault.WholeFault.TheVariants as whole_fault
use Rattle.folders.specs.Folder.{csv_path}
use Rattle.folders.specs.Refused.{IsAskedFor, IsReturnedAs}
use Rattle.folders.specs.declared.refusal.Refusal.{Refusal}
use Rattle.folders.specs.declared.refusal.Refusal.TheVariants as refusal
use Rattle.jobs.specs.Job.{IsQueryRefused as IsUnplanned}
use Rattle.cli.specs.Refusing.{AreAsked, AreJoinedAsked, IsCsvOfPlan, IsUnreadOfPlan}
use Rattle.cli.specs.WholeRefusal.{refusal_of}
use Rattle.cli.specs.declared.tables.CsvFile.{CsvFile}

-- ---- where a fault comes from

with_missing : {X E : Type 0} (r : Result X E) (rs : Result (List X) E) (e : E) → with_result r rs ≡ Err e → (r ≡ Err e) ⊎ (rs ≡ Err e)
with_missing (Err c) rs e is = inl (cc is)
with_missing (Ok x) (Err c) e is = inr is
with_missing (Ok x) (Ok xs) e is = absurd cc

then_missing : {X Y E : Type 0} (r : Result X E) (next : X → Result Y E) (e : E) → and_then r next ≡ Err e → (r ≡ Err e) ⊎ ((x : X) × (next x ≡ Err e))
then_missing (Err c) next e is = inl (cc is)
then_missing (Ok x) next e is = inr (x, is)

-- ---- the file that is missing

found_missing : (name table : List ℕ) (found : Option (List ℕ × List ℕ)) → found_csv name found ≡ Err (whole_fault.MissingCsv table) → name ≡ table
found_missing name table None is = cc is
found_missing name table (Some file) is = absurd cc

csv_missing : (files : Files) (name table : List ℕ) → csv_of files name ≡ Err (whole_fault.MissingCsv table) → name ≡ table
csv_missing files name table is = found_missing name table (find (λ file. bytes_eq file.0 name) files) is

-- that of a dimension that is joined
abbrev IsOfJoin : List Join → List ℕ → Type 0
IsOfJoin joins table = (join : Join) × Contains joins join × (join.dim.name ≡ table)

first_join : (j : Join) (joins : List Join) → Contains (j ∷ joins) j
first_join j joins = (0, omega arith, refl)

later_join : (j : Join) (joins : List Join) (table : List ℕ) → IsOfJoin joins table → IsOfJoin (j ∷ joins) table
later_join j joins table (join, among, is) = (join, Contains-append_right (j ∷ []) joins join among, is)

joined_missing : (files : Files) (joins : List Join) (table : List ℕ) → joined_csvs files joins ≡ Err (whole_fault.MissingCsv table) → IsOfJoin joins table
joined_missing files [] table is = absurd cc
joined_missing files (j ∷ joins) table is = elim (with_missing (csv_of files j.dim.name) (joined_csvs files joins) (whole_fault.MissingCsv table) is) [
  | inl here ↦ (j, first_join j joins, csv_missing files j.dim.name table here)
  | inr there ↦ later_join j joins table (joined_missing files joins table there)
]

-- ---- no table is missing once its file was found

not_of_table : (r : Result (List Row) TableFault) (table : List ℕ) → table_from r ≡ Err (whole_fault.MissingCsv table) → ⊥
not_of_table (Ok rows) table is = cc
not_of_table (Err e) table is = cc

not_of_dimension : (d : Option Dimension) (records : List Record) (table : List ℕ) → rows_of_dimension d records ≡ Err (whole_fault.MissingCsv table) → ⊥
not_of_dimension None records table is = cc
not_of_dimension (Some d) records table is = not_of_table (dimension_of d records) table is

not_of_joined : (catalog : Catalog) (ps : List (Join × List ℕ)) (table : List ℕ) → all_ok (map (joined_table catalog) ps) ≡ Err (whole_fault.MissingCsv table) → ⊥
not_of_joined catalog [] table is = cc
not_of_joined catalog (p ∷ ps) table is = elim (with_missing (joined_table catalog p) (all_ok (map (joined_table catalog) ps)) (whole_fault.MissingCsv table) is) [
  | inl here ↦ not_of_dimension (find (λ d. bytes_eq d.table.name p.0.dim.name) catalog.dims) (csv_records p.1) table here
  | inr there ↦ not_of_joined catalog ps table there
]

-- what comes behind the files
abbrev dims_behind : Catalog → Plan → List (List ℕ) → List Row → Result (List Row × List (List Row)) WholeFault
dims_behind catalog plan csvs rows = and_then (all_ok (map (joined_table catalog) (zip plan.joins csvs))) (λ dims. Ok (rows, dims))

abbrev tables_behind : Catalog → Cut → Plan → List ℕ → List (List ℕ) → Result (List Row × List (List Row)) WholeFault
tables_behind catalog cut plan csv csvs = and_then (table_from (fact_of catalog cut (csv_records csv))) (λ rows. dims_behind catalog plan csvs rows)

not_of_dims : (catalog : Catalog) (plan : Plan) (csvs : List (List ℕ)) (rows : List Row) (table : List ℕ) → dims_behind catalog plan csvs rows ≡ Err (whole_fault.MissingCsv table) → ⊥
not_of_dims catalog plan csvs rows table is = elim (then_missing (all_ok (map (joined_table catalog) (zip plan.joins csvs))) (λ dims. Ok (rows, dims)) (whole_fault.MissingCsv table) is) [
  | inl joined ↦ not_of_joined catalog (zip plan.joins csvs) table joined
  | inr behind ↦ never_missing rows behind.0 table behind.1
]
  where
    never_missing : (rows : List Row) (dims : List (List Row)) (table : List ℕ) → ◌≡◌ {A = Result (List Row × List (List Row)) WholeFault} (Ok (rows, dims)) (Err (whole_fault.MissingCsv table)) → ⊥
    never_missing rows dims table is = cc

not_behind : (catalog : Catalog) (cut : Cut) (plan : Plan) (csv : List ℕ) (csvs : List (List ℕ)) (table : List ℕ) → tables_behind catalog cut plan csv csvs ≡ Err (whole_fault.MissingCsv table) → ⊥
not_behind catalog cut plan csv csvs table is = elim (then_missing (table_from (fact_of catalog cut (csv_records csv))) (λ rows. dims_behind catalog plan csvs rows) (whole_fault.MissingCsv table) is) [
  | inl fact ↦ not_of_table (fact_of catalog cut (csv_records csv)) table fact
  | inr behind ↦ not_of_dims catalog plan csvs behind.0 table behind.1
]

-- the name of the table that is missing
abbrev IsOfPlan : Plan → List ℕ → Type 0
IsOfPlan plan table = (plan.fact.name ≡ table) ⊎ IsOfJoin plan.joins table

dims_missing : (catalog : Catalog) (files : Files) (cut : Cut) (plan : Plan) (csv table : List ℕ)
    → and_then (joined_csvs files plan.joins) (λ csvs. tables_behind catalog cut plan csv csvs) ≡ Err (whole_fault.MissingCsv table) → IsOfPlan plan table
dims_missing catalog files cut plan csv table is = elim (then_missing (joined_csvs files plan.joins) (λ csvs. tables_behind catalog cut plan csv csvs) (whole_fault.MissingCsv table) is) [
  | inl joined ↦ inr (joined_missing files plan.joins table joined)
  | inr behind ↦ absurd (not_behind catalog cut plan csv behind.0 table behind.1)
]

table_missing : (catalog : Catalog) (files : Files) (cut : Cut) (plan : Plan) (table : List ℕ) → tables_of catalog files cut plan ≡ Err (whole_fault.MissingCsv table) → IsOfPlan plan table
table_missing catalog files cut plan table is =
    elim (then_missing (csv_of files plan.fact.name) (λ csv. and_then (joined_csvs files plan.joins) (λ csvs. tables_behind catalog cut plan csv csvs)) (whole_fault.MissingCsv table) is) [
      | inl fact ↦ inl (csv_missing files plan.fact.name table fact)
      | inr behind ↦ dims_missing catalog files cut plan behind.0 table behind.1
    ]

-- ---- the query's plan

ok_same : {X E : Type 0} (x y : X) → ◌≡◌ {A = Result X E} (Ok x) (Ok y) → x ≡ y
ok_same x y e = cc

one_plan : (catalog : Catalog) (query : List ℕ) (p q : Plan) → IsPlanned catalog query (Ok p) → IsPlanned catalog query (Ok q) → p ≡ q
one_plan catalog query p q one two =
    let trees = one_tree query one.tree two.tree one.within.tree two.within.tree in
    ok_same {E = PlanFault} p q (sym one.gives ∙ ap (planned catalog) trees ∙ two.gives)

fact_name : (catalog : Catalog) (query : List ℕ) (plan : Plan) → IsPlanned catalog query (Ok plan) → plan.fact.name ≡ catalog.fact.name
fact_name catalog query plan planned =
    let parts = parts_of_plan catalog planned.tree plan planned.gives in
    ap (λ (u : TableUse). u.name) parts.fact

module _ (folder : List ℕ) (catalog : Catalog) (input : Input) (plan : Plan) (declared : catalog_of input.catalog ≡ Ok catalog) (planned : IsPlanned catalog input.query (Ok plan)) where
  missing_from : (table : List ℕ) → IsRefused input (whole_fault.MissingCsv table) → IsOfPlan plan table
  missing_from table (inl undeclared) = absurd undeclared
  missing_from table (inr (inl (other, is, inl unplanned))) = absurd unplanned
  missing_from table (inr (inl (other, is, inr (made, so, refused)))) =
      let same : other ≡ catalog = ok_same {E = CatalogFault} other catalog (sym is ∙ declared) in
      let plans = one_plan catalog input.query made plan (subst (λ (c : Catalog). IsPlanned c input.query (Ok made)) same so) planned in
      subst (λ (p : Plan). IsOfPlan p table) plans (table_missing other input.files input.cut made table refused)
  missing_from table (inr (inr (end, runs))) = absurd end

  of_plan : (table path : List ℕ) → path ≡ csv_path folder table → IsOfPlan plan table → IsCsvOfPlan folder plan path
  of_plan table path is (inl fact) = inl (is ∙ ap (csv_path folder) (sym fact))
  of_plan table path is (inr (join, among, named)) = inr (join, among, is ∙ ap (csv_path folder) (sym named))

  -- the refusal of the command names no other file
  pub unread_of : (fault : WholeFault) (e : Refusal) → IsRefused input fault → IsReturnedAs (refusal_of folder fault) e → IsUnreadOfPlan folder plan e
  unread_of fault e refused (inl memory) = λ path is. let bad : refusal.Memory ≡ refusal.CannotRead path = sym memory ∙ is in absurd (cc bad)
  unread_of whole_fault.Memory e refused (inr returned) = λ path is. let bad : refusal.Memory ≡ refusal.CannotRead path = sym returned ∙ is in absurd (cc bad)
  unread_of (whole_fault.Catalog f) e refused (inr returned) = λ path is. let bad : refusal.Catalog f ≡ refusal.CannotRead path = sym returned ∙ is in absurd (cc bad)
  unread_of (whole_fault.Sql f) e refused (inr returned) = λ path is. let bad : refusal.Sql f ≡ refusal.CannotRead path = sym returned ∙ is in absurd (cc bad)
  unread_of (whole_fault.Plan f) e refused (inr returned) = λ path is. let bad : refusal.Plan f ≡ refusal.CannotRead path = sym returned ∙ is in absurd (cc bad)
  unread_of (whole_fault.MissingCsv table) e refused (inr returned) = λ path is.
      let same : refusal.CannotRead (csv_path folder table) ≡ refusal.CannotRead path = sym returned ∙ is in
      let named : csv_path folder table ≡ path = cc same in
      of_plan table path (sym named) (missing_from table refused)
  unread_of (whole_fault.Load f) e refused (inr returned) = λ path is. let bad : refusal.Load f ≡ refusal.CannotRead path = sym returned ∙ is in absurd (cc bad)
  unread_of whole_fault.VectorLength e refused (inr returned) = λ path is. let bad : refusal_of folder whole_fault.VectorLength ≡ refusal.CannotRead path = sym returned ∙ is in absurd (cc bad)
  unread_of whole_fault.Writer e refused (inr returned) = λ path is. let bad : refusal.CannotPrint ≡ refusal.CannotRead path = sym returned ∙ is in absurd (cc bad)

-- ---- files that were read

named_among : (files : List CsvFile) (table : List ℕ) → list_any (λ file. bytes_eq file.table table) files ≡ true → (file : CsvFile) × Contains files file × (file.table ≡ table)
named_among [] table among = absurd cc
named_among (f ∷ files) table among = elim (cases_Bool (bytes_eq f.table table)) [
  | inl same ↦ (f, (0, omega arith, refl), (bytes_eq-Decides f.table table).0 same)
  | inr other ↦
      let rest : list_any (λ file. bytes_eq file.table table) files ≡ true = rw other at among in
      let (file, has, is) = named_among files table rest in (file, Contains-append_right (f ∷ []) files file has, is)
]

-- ---- what was asked for

module _ (asks : List ℕ → Type 0) (folder : List ℕ) where
  -- the file of a table that is among those that were read
  pub asked_among : (files : List CsvFile) (table : List ℕ) → AreAsked asks folder files → list_any (λ file. bytes_eq file.table table) files ≡ true → asks (csv_path folder table)
  asked_among files table asked among =
      let (file, has, is) = named_among files table among in
      subst (λ (name : List ℕ). asks (csv_path folder name)) is (All-contains (λ (file : CsvFile). asks (csv_path folder file.table)) files file asked has)

  pub asked_of_plan : (catalog : Catalog) (query : List ℕ) (plan : Plan) (e : Refusal) → asks (csv_path folder catalog.fact.name) → AreJoinedAsked asks folder plan.joins → IsPlanned catalog query (Ok plan) → IsUnreadOfPlan folder plan e → IsAskedFor asks e
  asked_of_plan catalog query plan e fact joined planned unread = λ path is. by_table path (unread path is)
    where
      by_table : (path : List ℕ) → IsCsvOfPlan folder plan path → asks path
      by_table path (inl of_fact) = subst asks (sym (of_fact ∙ ap (csv_path folder) (fact_name catalog query plan planned))) fact
      by_table path (inr (join, among, of_join)) = subst asks (sym of_join) (All-contains (λ (join : Join). asks (csv_path folder join.dim.name)) plan.joins join joined among)

-- a query that isn't planned names no file
pub unplanned_unread : (asks : List ℕ → Type 0) (catalog : Catalog) (query : List ℕ) (e : Refusal) → IsUnplanned catalog query e → IsAskedFor asks e
unplanned_unread asks catalog query e (inl memory) = λ path is. let bad : refusal.Memory ≡ refusal.CannotRead path = sym memory ∙ is in absurd (cc bad)
unplanned_unread asks catalog query e (inr (inl (fault, other, stands, returned))) = λ path is. let bad : refusal.Sql fault ≡ refusal.CannotRead path = sym returned ∙ is in absurd (cc bad)
unplanned_unread asks catalog query e (inr (inr (fault, stands, returned))) = λ path is. let bad : refusal.Plan fault ≡ refusal.CannotRead path = sym returned ∙ is in absurd (cc bad)
