-- What `gather` prints of what `work` answered over the files that `load` wrote.
use Rattle.std.specs.Prelude.{◌≡◌, ◌≢◌, ℕ, zero, suc, ◌<◌, nat_eq, Bool, true, false, cond, List, [], ◌∷◌, ◌++◌, length, map, sum, get_or, slice_index, slice_index_or, Option, None, Some, Result, Ok, Err, Contains}
use Rattle.std.specs.Io.KnownBytes.{Appends}
use Rattle.std.specs.List.{starts_with}
use Rattle.std.proofs.Common.{refl, sym, ap, subst, ◌∙◌, arith, append_assoc}
use Rattle.std.proofs.lemmas.List.{length-map}
use Rattle.std.proofs.lemmas.List.Elements.{All-contains, Contains-append_left, Contains-append_right, Contains-push}
use Rattle.meaning.specs.Answer.{own}
use Rattle.meaning.specs.Catalog.{IsWellFormed, IsWellFormedTable}
use Rattle.meaning.specs.Cut.{Cut, even_lengths, first_row, numbered}
use Rattle.meaning.specs.Gather.{is_conflict, fragments_where}
use Rattle.meaning.specs.Meaning.{meaning}
use Rattle.meaning.specs.Order.{Row}
use Rattle.meaning.specs.Print.{output_text, report_text}
use Rattle.meaning.specs.Records.{dimension_of, fact_of}
use Rattle.meaning.specs.Results.{and_then}
use Rattle.meaning.specs.Said.{Answer, Cell}
use Rattle.meaning.specs.declared.catalog.Catalog.{Catalog}
use Rattle.meaning.specs.declared.catalog.Dimension.{Dimension}
use Rattle.meaning.specs.declared.plan.Join.{Join}
use Rattle.meaning.specs.declared.plan.Plan.{Plan}
use Rattle.meaning.specs.declared.plan.TableUse.{TableUse}
use Rattle.meaning.specs.declared.table.TableFault.{TableFault}
use Rattle.meaning_laws.proofs.LoadedTables.{rows_typed}
use Rattle.wire.specs.Bytes.{sealed}
use Rattle.catalog_reader.specs.CatalogText.{catalog_of}
use Rattle.catalog_reader.proofs.WellFormedCatalog.{well_formed-catalog}
use Rattle.columns.specs.Column.{ColumnSpec}
use Rattle.loader.specs.Columns.{fact_fragments, fragments_of}
use Rattle.loader.specs.Source.{csv_records}
use Rattle.fragment_file.specs.CutFile.{CutFileSpec, IsCutFileOf, cut_bytes}
use Rattle.planner.proofs.TypedPlans.{parts_of_plan}
use Rattle.partial_codec.specs.Answer.{Spells, fault_in, judged}
use Rattle.partial_codec.specs.Job.{IsJob, JobSpec}
use Rattle.answer_fields.specs.declared.format.Format.{Format}
use Rattle.answer_fields.specs.declared.format.Content.TheVariants as content
use Rattle.answer_fields.specs.Format.{magic}
use Rattle.answer_fields.specs.Shape.{shape_of}
use Rattle.partial_codec.specs.Spelling.{answer_spelling, body_bytes, job_bytes, layout_bytes, layout_of, shape_bytes}
use Rattle.wire.specs.Bytes.{number_bytes, seal_of}
use Rattle.partial_codec.specs.State.{is_state}
use Rattle.answer_fields.proofs.Formats.{answers_apart}
use Rattle.answer_fields.specs.declared.fault.DecodeFault.{DecodeFault}
use Rattle.partial_codec.proofs.Answers.{spelled_reads}
use Rattle.job_files.specs.RowFiles.{rows_of_fragment}
use Rattle.job_files.proofs.RowFiles.{file_of_columns}
use Rattle.coordinator.specs.Fragment.{AreFragments}
use Rattle.coordinator.proofs.CountedRows.{counted_fact}
use Rattle.coordinator.proofs.FragmentColumns.{as_many, columns_at, count_at, typed_at}
use Rattle.gathering.specs.declared.report.Report.{Report}
use Rattle.folders.specs.Each.{AreEach}
use Rattle.folders.specs.Folder.{Change, Holds, catalog_path, csv_path, cut_path, dimension_path, fragment_path}
use Rattle.command_line.specs.declared.commands.GatherCommand.{GatherCommand}
use Rattle.jobs.specs.Gathering.{IsTaken, IsTaking, Taken, Taking, answer, gathered, has_journal, obstacle_of, passed, shown, state, takings_of}
use Rattle.jobs.specs.Job.{IsJobOf}
use Rattle.jobs.specs.Working.{HoldsDimension, HoldsFragment, HoldsRows, IsOwnSpelled}
use Rattle.jobs.proofs.OwnAnswers.{own_spelled}
use Rattle.jobs.proofs.OwnFiles.{text_gathered}
use Rattle.loads.specs.Loading.{AreFiles, IsCatalogLoaded, cut_file_of, header_of, removals}
use Rattle.program_laws.specs.Program.{AreTablesOf, IsJoinedTable, IsRun, Returns, RunsMean}
use Rattle.program_laws.proofs.LoadedFiles.{dimension_file, dimension_held, fragment_file, lies}
use Rattle.program_laws.proofs.OneJob.{made_cut, one_catalog, one_cut, one_job, cut_known}

-- ---- what becomes of an answer's bytes

begins_as_answer : (format : Format) (a b c d e : List ℕ) → is_state (((((magic content.Answer format ++ a) ++ b) ++ c) ++ d) ++ e) ≡ false
begins_as_answer format a b c d e =
    let m = magic content.Answer format in
    ap is_state (append_assoc (((m ++ a) ++ b) ++ c) d e ∙ append_assoc ((m ++ a) ++ b) c (d ++ e) ∙ append_assoc (m ++ a) b (c ++ (d ++ e)) ∙ append_assoc m a (b ++ (c ++ (d ++ e))))
    ∙ answers_apart format (a ++ (b ++ (c ++ (d ++ e))))

no_state : (format : Format) (job : JobSpec) (a : Answer) → is_state (answer_spelling format job a) ≡ false
unfolding layout_bytes
no_state format job a =
    begins_as_answer format (job_bytes job.load job.plan.text job.cut) (number_bytes 4 a.k) (shape_bytes (shape_of job.plan)) (body_bytes (shape_of job.plan) a.body)
    (seal_of (layout_bytes (layout_of format job a)))

-- bytes that are an answer for the job are taken as it
taken_as : (journaled : Bool) (job : JobSpec) (bytes : List ℕ) (a : Answer) (taking : Taking) → IsJob job → Spells job bytes a → IsTaking journaled job bytes taking → taking ≡ answer a
taken_as journaled job bytes a (answer b) is spells taken =
    let same : Ok b ≡ Ok a = sym (spelled_reads job bytes b is taken.1) ∙ spelled_reads job bytes a is spells in
    ap answer (cc same)
taken_as true job bytes a (state cells) is spells taken =
    let other : false ≡ true = taken.0 in
    cc other
taken_as false job bytes a (state cells) is spells taken =
    let other : true ≡ false = sym taken.0 ∙ ap is_state spells.spelled ∙ no_state spells.format job a in
    cc other
taken_as true job bytes a (passed fault) is spells taken =
    let well : None ≡ Some fault = sym (ap fault_in (spelled_reads job bytes a is spells)) ∙ taken in
    cc well
taken_as false job bytes a (passed fault) is spells taken =
    let test : is_state bytes ≡ false = ap is_state spells.spelled ∙ no_state spells.format job a in
    let none : fault_in (judged job bytes) ≡ Some fault = rw test at taken in
    let well : None ≡ Some fault = sym (ap fault_in (spelled_reads job bytes a is spells)) ∙ none in
    cc well

contains_map : {X Y : Type 0} (f : X → Y) (xs : List X) (x : X) → Contains xs x → Contains (map f xs) (f x)
contains_map f [] x (i, below, is) = absurd (omega (arith, below))
contains_map f (y ∷ xs) x (zero, below, is) = (0, omega arith, ap f is)
contains_map f (y ∷ xs) x (suc i, below, is) =
    let (j, within, same) = contains_map f xs x (i, omega (arith, below), is) in
    (suc j, omega (arith, within), same)

-- ---- the files of a plan's tables

joined_held : (holds : Holds) (folder : List ℕ) (catalog : Catalog) (joins : List Join) (dims : List (List Row))
    → ((d : Dimension) (csv : List ℕ) (rows : List Row) → Contains catalog.dims d → holds (csv_path folder d.table.name) ≡ Some csv → dimension_of d (csv_records csv) ≡ Ok rows → HoldsRows (holds (dimension_path folder d.table.name)) rows)
    → AreEach (IsJoinedTable holds folder catalog) joins dims → AreEach (HoldsDimension holds folder) joins dims
joined_held holds folder catalog [] [] held tables = tt
joined_held holds folder catalog [] (rows ∷ dims) held tables = absurd tables
joined_held holds folder catalog (j ∷ joins) [] held tables = absurd tables
joined_held holds folder catalog (j ∷ joins) (rows ∷ dims) held tables =
    let t = tables.0 in (
      subst (λ name. HoldsRows (holds (dimension_path folder name)) rows) t.named (held t.dimension t.csv rows t.declared t.held t.loaded),
      joined_held holds folder catalog joins dims held tables.1,
    )

fragments_are : (catalog : Catalog) (cut : Cut) (csv : List ℕ) (rows : List Row) (fragments : List (List ColumnSpec)) → fact_fragments catalog cut (csv_records csv) ≡ Ok fragments → fact_of catalog cut (csv_records csv) ≡ Ok rows
    → fragments ≡ fragments_of catalog.fact.columns cut rows
fragments_are catalog cut csv rows fragments made loaded =
    let step : fact_fragments catalog cut (csv_records csv) ≡ Ok (fragments_of catalog.fact.columns cut rows) = ap (λ r. and_then {E = TableFault} r (λ rs. Ok (fragments_of catalog.fact.columns cut rs))) loaded in
    let same : Ok fragments ≡ Ok (fragments_of catalog.fact.columns cut rows) = sym made ∙ step in
    cc same

-- ---- a run

module _ (holds : Holds) (load each : ℕ) (command : GatherCommand) (before after err_before err_after : Option (List ℕ)) (wrote_before wrote_after : Option (List Change)) (given : Report)
    (run : IsRun holds load each command before after err_before err_after wrote_before wrote_after given)
    (text : List ℕ) (catalog : Catalog) (rows : List Row) (dims : List (List Row))
    (text_held : holds (catalog_path command.folder) ≡ Some text) (declared : catalog_of text ≡ Ok catalog)
    (tables : AreTablesOf holds command.folder catalog run.gathered.gather.job.cut run.gathered.gather.job.plan rows dims) where
  abbrev folder : List ℕ
  folder = command.folder

  abbrev job : JobSpec
  job = run.gathered.gather.job

  well : IsWellFormed catalog
  well = well_formed-catalog text catalog declared

  same_catalog : run.loaded.catalog ≡ catalog
  same_catalog = one_catalog holds folder text run.loaded.catalog catalog text_held declared (record { bytes = run.loaded.catalog_bytes; held = run.loaded.held; declared = run.loaded.declared })

  loaded : IsCatalogLoaded holds folder load each catalog run.printed_before run.printed_after (Some []) (Some run.changes)
  loaded = subst (λ (c : Catalog). IsCatalogLoaded holds folder load each c run.printed_before run.printed_after (Some []) (Some run.changes)) same_catalog run.loaded.loaded

  files : AreFiles folder load catalog loaded.cut loaded.fragments loaded.dims run.changes
  files =
      let (new, reached, are) = loaded.written [] refl in
      let same : run.changes ≡ new = cc reached in
      subst (AreFiles folder load catalog loaded.cut loaded.fragments loaded.dims) (sym same) are

  abbrev cut_file : List ℕ
  cut_file = sealed (cut_bytes (record { load = load; cut = loaded.cut }))

  cut_held : holds (cut_path folder) ≡ Some cut_file
  cut_held = lies holds run.changes (cut_path folder) cut_file run.returned
      (subst (λ (changes : List Change). Contains changes (cut_file_of folder load loaded.cut)) (sym files.whole) (Contains-push _ (cut_file_of folder load loaded.cut)))

  gather_job : IsJobOf holds folder command.query job
  gather_job = run.gathered.files.is_job

  same_cut : loaded.cut ≡ job.cut
  same_cut =
      let written : IsCutFileOf cut_file (record { load = load; cut = loaded.cut }) = record { spelled = refl; load = run.numbered_load; cut = made_cut (even_lengths loaded.fact.counted each) loaded.cut loaded.fact.evenly } in
      ap (λ (f : CutFileSpec). f.cut)
      (one_cut cut_file (record { load = load; cut = loaded.cut }) (record { load = job.load; cut = job.cut }) written (cut_known holds folder cut_file job.load job.cut cut_held gather_job.over.loaded))

  fact_rows : fact_of catalog loaded.cut (csv_records tables.csv) ≡ Ok rows
  fact_rows = ap (λ (c : Cut). fact_of catalog c (csv_records tables.csv)) same_cut ∙ tables.fact

  are_fragments : AreFragments catalog.fact rows loaded.cut loaded.fragments
  are_fragments = record {
    fragments_are = fragments_are catalog loaded.cut tables.csv rows loaded.fragments (loaded.fact.loaded tables.csv tables.held) fact_rows;
    whole = counted_fact catalog loaded.cut (csv_records tables.csv) rows fact_rows;
    typed = rows_typed catalog.fact None (sum loaded.cut) (sum loaded.cut) (csv_records tables.csv) rows well.fact fact_rows;
  }

  among_all : (change : Change) → Contains (files.of_fragments ++ files.of_dims) change → Contains run.changes change
  among_all change has =
      let first = files.of_fragments ++ files.of_dims in
      let gone = removals folder catalog.fact loaded.cut in
      let last = cut_file_of folder load loaded.cut ∷ [] in
      subst (λ (changes : List Change). Contains changes change) (sym files.whole)
      (Contains-append_left (first ++ gone) last change (Contains-append_left first gone change has))

  fragment_held : (k : ℕ) → k < length loaded.cut → HoldsRows (holds (fragment_path folder catalog.fact.name k)) (rows_of_fragment loaded.cut k rows)
  fragment_held k below =
      let many = as_many catalog.fact rows loaded.cut loaded.fragments are_fragments in
      let has = fragment_file folder load catalog.fact loaded.cut k loaded.fragments files.of_fragments files.fragments_are (omega (arith, below, many)) in
      let path = fragment_path folder catalog.fact.name k in
      let columns = columns_at catalog.fact rows loaded.cut loaded.fragments are_fragments k has.columns has.columns below has.columns_are refl in
      record {
        bytes = has.bytes;
        known = lies holds run.changes path has.bytes run.returned (among_all (path, Some has.bytes) (Contains-append_left files.of_fragments files.of_dims (path, Some has.bytes) has.written));
        is_file = file_of_columns has.bytes (header_of load catalog.fact k (first_row loaded.cut k) (slice_index loaded.cut k)) has.columns (rows_of_fragment loaded.cut k rows) has.stands columns
            (count_at catalog.fact rows loaded.cut loaded.fragments are_fragments k below) (typed_at catalog.fact rows loaded.cut loaded.fragments are_fragments k);
      }

  table_held : (d : Dimension) (csv : List ℕ) (table : List Row) → Contains catalog.dims d → holds (csv_path folder d.table.name) ≡ Some csv → dimension_of d (csv_records csv) ≡ Ok table
      → HoldsRows (holds (dimension_path folder d.table.name)) table
  table_held d csv table among held made =
      let has = dimension_file holds folder load catalog.dims loaded.dims files.of_dims d files.dims_are loaded.each among in
      let path = dimension_path folder d.table.name in
      let written = among_all (path, Some has.bytes) (Contains-append_right files.of_fragments files.of_dims (path, Some has.bytes) has.written) in
      dimension_held holds folder load d run.changes csv table (All-contains (λ (x : Dimension). IsWellFormedTable x.table) catalog.dims d well.dims among) run.returned
      (record { columns = has.columns; loaded = has.loaded; bytes = has.bytes; written = written; stands = has.stands }) held made

  fact_name : job.plan.fact.name ≡ catalog.fact.name
  fact_name =
      let planned = gather_job.over.planned in
      let parts = parts_of_plan gather_job.catalog planned.tree job.plan planned.gives in
      ap (λ (u : TableUse). u.name) parts.fact ∙ ap (λ (c : Catalog). c.fact.name) (one_catalog holds folder text gather_job.catalog catalog text_held declared gather_job.declared)

  fragment_files : (k : ℕ) → k < length job.cut → HoldsFragment holds folder job k rows dims
  fragment_files k below = record {
    fragment =
        subst (λ name. HoldsRows (holds (fragment_path folder name k)) (rows_of_fragment job.cut k rows)) (sym fact_name)
        (subst (λ (c : Cut). HoldsRows (holds (fragment_path folder catalog.fact.name k)) (rows_of_fragment c k rows)) same_cut (fragment_held k (subst (λ (c : Cut). k < length c) (sym same_cut) below)));
    dims = joined_held holds folder catalog job.plan.joins dims table_held tables.joined;
  }

  abbrev takings : List Taking
  takings = run.gathered.files.journal ++ takings_of run.gathered.files.files

  own_taken : (k : ℕ) → k < length job.cut → Contains takings (answer (own job.plan dims job.cut rows k))
  own_taken k below =
      let (file, has, (asked, of_folder, of_query, of_fragment, spelled)) = run.answered k below in
      let is = own_spelled holds asked rows dims file.bytes spelled in
      let there = subst (λ q. IsJobOf holds folder q is.job) of_query (subst (λ f. IsJobOf holds f asked.query is.job) of_folder is.is_job) in
      let same = one_job holds folder command.query text cut_file is.job job text_held cut_held there gather_job in
      let held = subst (λ (j : JobSpec). HoldsFragment holds folder j k rows dims) (sym same) (fragment_files k below) in
      let held_so = subst (λ f. HoldsFragment holds f is.job asked.fragment rows dims) (sym of_folder) (subst (λ n. HoldsFragment holds folder is.job n rows dims) (sym of_fragment) held) in
      let spells = subst (λ n. Spells is.job file.bytes (own is.job.plan dims is.job.cut rows n)) of_fragment (is.is_own held_so) in
      let spells_so = subst (λ (j : JobSpec). Spells j file.bytes (own j.plan dims j.cut rows k)) same spells in
      let taken = All-contains (IsTaken (has_journal command.journal) holds job) run.gathered.files.files file run.gathered.files.taken.each has in
      let taking = taken_as (has_journal command.journal) job file.bytes (own job.plan dims job.cut rows k) file.taking gather_job.over.within spells_so taken.taking in
      Contains-append_right run.gathered.files.journal (takings_of run.gathered.files.files) (answer (own job.plan dims job.cut rows k))
      (subst (Contains (takings_of run.gathered.files.files)) taking (contains_map (λ (f : Taken). f.taking) run.gathered.files.files file has))

  whole : sum job.cut ≡ length rows
  whole = sym (counted_fact catalog job.cut (csv_records tables.csv) rows tables.fact)

  printed : Appends before after (output_text job.plan (meaning job.plan dims (numbered rows)))
  printed =
      let cells = run.gathered.files.state in
      let calm = subst (λ (cs : List Cell). fragments_where is_conflict cs ≡ []) cells run.calm in
      let text_is = ap (λ (cs : List Cell). report_text job.plan (shown command.preview job.plan cs)) cells ∙ text_gathered job.plan dims job.cut rows takings own_taken whole calm command.preview in
      subst (Appends before after) text_is run.gathered.reported.printed

pub runs_mean : RunsMean
runs_mean holds load each command before after err_before err_after wrote_before wrote_after given run text catalog rows dims text_held declared tables =
    printed holds load each command before after err_before err_after wrote_before wrote_after given run text catalog rows dims text_held declared tables
