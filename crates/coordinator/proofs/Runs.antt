-- The fact's fragments, from the files to the answer.
use Rattle.std.specs.Prelude.{◌≡◌, ℕ, List, [], ◌∷◌, map, zip, sum, Option, None, true, Result, Ok, Err, IfOk, IfErr}
use Rattle.std.proofs.Common.{refl, sym, ap, inr, ◌∙◌}
use Rattle.meaning.specs.declared.catalog.Catalog.{Catalog}
use Rattle.meaning.specs.declared.plan.Join.{Join}
use Rattle.meaning.specs.declared.plan.Plan.{Plan}
use Rattle.meaning.specs.declared.table.TableFault.{TableFault}
use Rattle.meaning.specs.Results.{all_ok, and_then, with_result}
use Rattle.meaning.specs.Order.{Row}
use Rattle.meaning.specs.Cut.{Cut}
use Rattle.meaning.specs.Records.{fact_of}
use Rattle.meaning.specs.Catalog.{IsWellFormedTable}
use Rattle.catalog_reader.specs.CatalogText.{catalog_of}
use Rattle.meaning_laws.proofs.LoadedTables.{rows_typed}
use Rattle.columns.specs.Column.{ColumnSpec}
use Rattle.loader.specs.Columns.{fragments_of, fact_fragments}
use Rattle.loader.specs.Source.{csv_records}
use Rattle.gathering.specs.declared.report.Ended.{Ended}
use Rattle.coordinator.specs.declared.sources.Sources.{Sources}
use Rattle.coordinator.specs.declared.fault.WholeFault.{WholeFault}
use Rattle.coordinator.specs.declared.fault.WholeFault.TheVariants as fault
use Rattle.job_files.specs.RowFiles.{AreFilesOfTables}
use Rattle.coordinator.specs.Fragment.{AreFragments}
use Rattle.gathering.specs.Gathering.{GatherSpec}
use Rattle.meaning.specs.VectorLength.{is_vector_length}
use Rattle.coordinator.specs.Whole.{Files, files_in, input_of, csv_of, joined_csvs, joined_from, joined_table, table_from, tables_of, AreTablesLoaded, IsAnsweredOver, IsAnswered, RunsOver, IsEndRefusal, IsRefused}
use Rattle.planner.specs.QueryText.{IsPlanned}
use Rattle.loader.proofs.RowRuns.{ok_parts}
use Rattle.coordinator.proofs.CountedRows.{went_on, counted_fact}

-- ---- the joined tables

-- where each file is found, looking for it again beside loading it makes no difference
pub found_again : (catalog : Catalog) (files : Files) (joins : List Join) (csvs : List (List ℕ)) → joined_csvs files joins ≡ Ok csvs
    → all_ok (map (joined_table catalog) (zip joins csvs)) ≡ all_ok (map (joined_from catalog files) joins)
found_again catalog files [] csvs found = refl
found_again catalog files (j ∷ joins) csvs found =
    let (csv, others, first, rest, all) = ok_parts (csv_of files j.dim.name) (joined_csvs files joins) csvs found in
    let again : joined_from catalog files j ≡ joined_table catalog (j, csv) = ap (λ (r : Result (List ℕ) WholeFault). and_then r (λ csv. joined_table catalog (j, csv))) first in
    ap (λ (cs : List (List ℕ)). all_ok (map (joined_table catalog) (zip (j ∷ joins) cs))) all
    ∙ (λ i. with_result ((sym again) i) (found_again catalog files joins others rest i))

-- ---- all tables

module _ (catalog : Catalog) (files : Files) (cut : Cut) (plan : Plan) where
  -- what is made of the tables, step by step
  abbrev tables_behind : List ℕ → List (List ℕ) → Result (List Row × List (List Row)) WholeFault
  tables_behind fact_csv csvs =
      and_then (table_from (fact_of catalog cut (csv_records fact_csv))) (λ rows.
      and_then (all_ok (map (joined_table catalog) (zip plan.joins csvs))) (λ dims.
      Ok (rows, dims)))

  -- where all files are found, the tables are loaded
  tables_found : (csv : List ℕ) (csvs : List (List ℕ)) → csv_of files plan.fact.name ≡ Ok csv → joined_csvs files plan.joins ≡ Ok csvs → tables_of catalog files cut plan ≡ tables_behind csv csvs
  tables_found csv csvs there found =
      ap (λ (r : Result (List ℕ) WholeFault). and_then r (λ fact_csv. and_then (joined_csvs files plan.joins) (λ csvs. tables_behind fact_csv csvs))) there
      ∙ ap (λ (r : Result (List (List ℕ)) WholeFault). and_then r (λ csvs. tables_behind csv csvs)) found

  -- the fact isn't found, or a dimension
  pub fact_missing : (e : WholeFault) → csv_of files plan.fact.name ≡ Err e → tables_of catalog files cut plan ≡ Err e
  fact_missing e missing = ap (λ (r : Result (List ℕ) WholeFault). and_then r (λ fact_csv. and_then (joined_csvs files plan.joins) (λ csvs. tables_behind fact_csv csvs))) missing

  pub dimension_missing : (csv : List ℕ) (e : WholeFault) → csv_of files plan.fact.name ≡ Ok csv → joined_csvs files plan.joins ≡ Err e → tables_of catalog files cut plan ≡ Err e
  dimension_missing csv e there missing =
      ap (λ (r : Result (List ℕ) WholeFault). and_then r (λ fact_csv. and_then (joined_csvs files plan.joins) (λ csvs. tables_behind fact_csv csvs))) there
      ∙ ap (λ (r : Result (List (List ℕ)) WholeFault). and_then r (λ csvs. tables_behind csv csvs)) missing

  -- the fact isn't loaded
  pub fact_refused : (csv : List ℕ) (csvs : List (List ℕ)) (e : TableFault) → csv_of files plan.fact.name ≡ Ok csv → joined_csvs files plan.joins ≡ Ok csvs
      → fact_fragments catalog cut (csv_records csv) ≡ Err e → tables_of catalog files cut plan ≡ Err (fault.Load e)
  fact_refused csv csvs e there found refused =
      let bad = stops_there (fact_of catalog cut (csv_records csv)) (λ rows. fragments_of catalog.fact.columns cut rows) e refused in
      tables_found csv csvs there found
      ∙ ap (λ (r : Result (List Row) TableFault). and_then (table_from r) (λ rows. and_then (all_ok (map (joined_table catalog) (zip plan.joins csvs))) (λ dims. Ok (rows, dims)))) bad
    where
      stops_there : {X Y E : Type 0} (r : Result X E) (f : X → Y) (e : E) → and_then r (λ x. Ok (f x)) ≡ Err e → r ≡ Err e
      stops_there (Ok x) f e is = absurd cc
      stops_there (Err g) f e is = cc is

  module _ (csv : List ℕ) (csvs : List (List ℕ)) (fragments : List (List ColumnSpec)) (well : IsWellFormedTable catalog.fact) (there : csv_of files plan.fact.name ≡ Ok csv)
      (found : joined_csvs files plan.joins ≡ Ok csvs) (made : fact_fragments catalog cut (csv_records csv) ≡ Ok fragments) where
    parts : (rows : List Row) × (fact_of catalog cut (csv_records csv) ≡ Ok rows) × (fragments_of catalog.fact.columns cut rows ≡ fragments)
    parts =
        let (rows, loaded, gives) = went_on (fact_of catalog cut (csv_records csv)) (λ rows. Ok (fragments_of catalog.fact.columns cut rows)) fragments made in
        (rows, loaded, cc gives)

    joined_behind : (r : Result (List (List Row)) WholeFault) → all_ok (map (joined_from catalog files) plan.joins) ≡ r
        → tables_of catalog files cut plan ≡ and_then r (λ dims. Ok (parts.0, dims))
    joined_behind r is =
        tables_found csv csvs there found
        ∙ ap (λ (s : Result (List Row) TableFault). and_then (table_from s) (λ rows. and_then (all_ok (map (joined_table catalog) (zip plan.joins csvs))) (λ dims. Ok (rows, dims)))) parts.1
        ∙ ap (λ (s : Result (List (List Row)) WholeFault). and_then s (λ dims. Ok (parts.0, dims))) (found_again catalog files plan.joins csvs found ∙ is)

    -- a dimension isn't loaded
    pub dimension_refused : (e : WholeFault) → all_ok (map (joined_from catalog files) plan.joins) ≡ Err e → tables_of catalog files cut plan ≡ Err e
    dimension_refused e refused = joined_behind (Err e) refused

    -- the fact's file gives its fragments, and each dimension's its rows
    pub loaded : (dims : List (List Row)) (dim_files : List (List ℕ)) → all_ok (map (joined_from catalog files) plan.joins) ≡ Ok dims → AreFilesOfTables dims dim_files → AreTablesLoaded catalog files cut plan fragments dim_files
    loaded dims dim_files good are = record {
      rows = parts.0;
      dims = dims;
      tables = joined_behind (Ok dims) good;
      fragments_are = sym parts.2;
      whole = counted_fact catalog cut (csv_records csv) parts.0 parts.1;
      typed = rows_typed catalog.fact None (sum cut) (sum cut) (csv_records csv) parts.0 well parts.1;
      dims_are = are;
    }

module _ (catalog : Catalog) (sources : Sources) (plan : Plan) (fragments : List (List ColumnSpec)) (dim_files : List (List ℕ))
    (loaded_so : AreTablesLoaded catalog (files_in sources.csvs.now) sources.cut.now plan fragments dim_files) (vectors : is_vector_length sources.vector_len ≡ true) where
  pub are_fragments : AreFragments catalog.fact loaded_so.rows sources.cut.now fragments
  are_fragments = record {
    fragments_are = loaded_so.fragments_are;
    whole = loaded_so.whole;
    typed = loaded_so.typed;
  }

  runs_over : (bytes query : List ℕ) → catalog_of bytes ≡ Ok catalog → IsPlanned catalog query (Ok plan) → RunsOver (input_of bytes query sources) plan loaded_so.rows loaded_so.dims
  runs_over bytes query declared planned = record { catalog = catalog; declared = declared; planned = planned; tables = loaded_so.tables; vectors = vectors }

  -- an answer over the fragments is one over the input
  pub answered : (before after : Option (List ℕ)) (result : Result (Ended × GatherSpec) WholeFault)
      → IfOk result (λ r. (rows : List Row) (dims : List (List Row)) → AreFragments catalog.fact rows sources.cut.now fragments → AreFilesOfTables dims dim_files → IsAnsweredOver plan rows dims sources.cut.now before after r.0 r.1)
      → IfOk result (λ r. (bytes query : List ℕ) → catalog_of bytes ≡ Ok catalog → IsPlanned catalog query (Ok plan) → IsAnswered (input_of bytes query sources) before after r.0 r.1)
  answered before after (Err e) over = tt
  answered before after (Ok r) over = λ bytes query declared planned.
      let returned = over loaded_so.rows loaded_so.dims are_fragments loaded_so.dims_are in
      record {
        plan = plan;
        rows = loaded_so.rows;
        dims = loaded_so.dims;
        over = runs_over bytes query declared planned;
        printed = returned.printed;
        ends = returned.ends;
        state = returned.state;
      }

  -- a refusal at the end stands behind all that is well
  stands : (e : WholeFault) → IsEndRefusal e → (bytes query : List ℕ) → catalog_of bytes ≡ Ok catalog → IsPlanned catalog query (Ok plan) → IsRefused (input_of bytes query sources) e
  stands e end bytes query declared planned = inr (inr (end, (plan, loaded_so.rows, loaded_so.dims, runs_over bytes query declared planned)))

  pub refused_at_end : (result : Result (Ended × GatherSpec) WholeFault) → IfErr result IsEndRefusal
      → IfErr result (λ e. (bytes query : List ℕ) → catalog_of bytes ≡ Ok catalog → IsPlanned catalog query (Ok plan) → IsRefused (input_of bytes query sources) e)
  refused_at_end (Ok r) end = tt
  refused_at_end (Err e) end = stands e end
