-- Files that are made here are those of the job, so that they are refused for want of memory alone.
use Rattle.std.specs.Prelude.{◌≡◌, ◌≢◌, ℕ, suc, ◌<◌, ◌≤◌, ◌==◌, nat_lt, nat_eq, Bool, true, false, not, ◌&&◌, cond, List, [], ◌∷◌, length, map, filter, zip, find, slice_get, slice_index, Option, Some, None, Result, Ok, Err, All, bytes_eq}
use Rattle.std.specs.List.{list_all, AllByRecursion, AllZip}
use Rattle.std.proofs.Common.{refl, sym, ap, subst, ◌∙◌, arith}
use Rattle.std.proofs.lemmas.Bool.{eq-eqb}
use Rattle.std.proofs.lemmas.List.Elements.{recursion_from_All}
use Rattle.std.proofs.lemmas.Slice.Eq.{bytes_eq-Decides}
use Rattle.meaning.specs.declared.catalog.Catalog.{Catalog}
use Rattle.meaning.specs.declared.catalog.Column.{Column}
use Rattle.meaning.specs.declared.catalog.Dimension.{Dimension}
use Rattle.meaning.specs.declared.catalog.Table.{Table}
use Rattle.meaning.specs.declared.plan.ColumnUse.{ColumnUse}
use Rattle.meaning.specs.declared.plan.Join.{Join}
use Rattle.meaning.specs.declared.value.ColType.{ColType}
use Rattle.meaning.specs.declared.value.Value.{Value}
use Rattle.meaning.specs.declared.value.Value.TheVariants.{Null, Int, Text}
use Rattle.meaning.specs.Cut.{first_row}
use Rattle.meaning.specs.Dimensions.{IsUniqueIn}
use Rattle.meaning.specs.Order.{Row, column, is_null, same_value}
use Rattle.meaning.specs.Results.{all_ok, with_result}
use Rattle.meaning.specs.Said.{Answer}
use Rattle.meaning.specs.Truth.{is_true, known}
use Rattle.meaning.specs.Typing.{same_type}
use Rattle.meaning.specs.VectorLength.{is_vector_length}
use Rattle.meaning.proofs.Same.{same_itself as value_itself}
use Rattle.meaning.proofs.Tests.{both}
use Rattle.meaning.proofs.Typed.{type_itself as itself}
use Rattle.wire.specs.Reading.{◌>>=◌, same_bytes}
use Rattle.fragment_file.specs.declared.fault.FileFault.{FileFault}
use Rattle.fragment_file.specs.declared.header.Slice.{Slice}
use Rattle.fragment_file.specs.Fragment.{FragmentSpec, IsFileOf, table_header}
use Rattle.fragment_file.proofs.FileLaws.{file_again}
use Rattle.hash_join.specs.Dim.{meets}
use Rattle.partial_codec.specs.Job.{JobSpec}
use Rattle.job_files.specs.declared.fault.WorkFault.{WorkFault}
use Rattle.job_files.specs.declared.fault.WorkFault.TheVariants.{File, KeyTwice, Memory, OtherColumn, OtherFile, VectorLength}
use Rattle.job_files.specs.Files.{are_unique, has_columns, is_column, is_dimension_of, is_fragment_of, keys_in}
use Rattle.job_files.specs.Inputs.{InputSpec, dimension_file_of, dimension_files_of, fragment_file_of, from_file, header_fault, input_of, keyed, provided, table_file_of}
use Rattle.planner.specs.DeclaredPlans.{IsDeclaredColumn, IsDeclaredJoin}
use Rattle.planner.proofs.DeclaredColumns.{found_passes}
use Rattle.worker.specs.Work.{answer_of, answered}
use Rattle.coordinator.specs.Fragment.{IsFactOf, IsJoinedFile, Opens}

-- ---- tests

same_itself : (bytes : List ℕ) → same_bytes bytes bytes ≡ true
same_itself [] = refl
same_itself (b ∷ bytes) = both (nat_eq b b) (same_bytes bytes bytes) (eq-eqb b b refl) (same_itself bytes)

names_same : (a b : List ℕ) → a ≡ b → same_bytes a b ≡ true
names_same a b same = subst (λ (c : List ℕ). same_bytes a c ≡ true) same (same_itself a)

type_itself : (u : ColumnUse) (c : Column) → c.col_type ≡ u.col_type → same_type c.col_type u.col_type ≡ true
type_itself u c same = subst (λ (t : ColType). same_type c.col_type t ≡ true) same (itself c.col_type)

column_stands : (columns : List Column) (u : ColumnUse) → IsDeclaredColumn columns u → is_column u (slice_get columns u.column) ≡ true
column_stands columns u is =
    ap (is_column u) is.there ∙ both (same_bytes is.column.name u.name) (same_type is.column.col_type u.col_type) (names_same is.column.name u.name is.name) (type_itself u is.column is.type)

columns_stand : (columns : List Column) (us : List ColumnUse) → AllByRecursion (IsDeclaredColumn columns) us → list_all (λ u. is_column u (slice_get columns u.column)) us ≡ true
columns_stand columns [] all = refl
columns_stand columns (u ∷ us) all = both (is_column u (slice_get columns u.column)) _ (column_stands columns u all.0) (columns_stand columns us all.1)

-- ---- a fragment

-- the header of the rows of the job's fragment k
pub fragment_named : (job : JobSpec) (table : Table) (slice : Slice) → job.load ≡ 0 → IsFactOf job.plan table → slice.fragment < length job.cut → slice.first_row ≡ first_row job.cut slice.fragment
    → slice.rows ≡ slice_index job.cut slice.fragment → header_fault job slice.fragment (table_header 0 table slice) ≡ None
fragment_named job table slice load fact within begins long =
    let k = slice.fragment in
    let named : is_fragment_of job k (table_header 0 table slice) ≡ true =
    both (nat_lt k (length job.cut)) _ (grind (arith, within))
    (both (0 == job.load) _ (eq-eqb 0 job.load (sym load))
    (both (same_bytes table.name job.plan.fact.name) _ (names_same table.name job.plan.fact.name fact.name)
    (both (k == k) _ (eq-eqb k k refl)
    (both (slice.first_row == first_row job.cut k) (slice.rows == slice_index job.cut k) (eq-eqb slice.first_row (first_row job.cut k) begins) (eq-eqb slice.rows (slice_index job.cut k) long))))) in
    let has : has_columns job.plan.fact (table_header 0 table slice) ≡ true =
    columns_stand table.columns job.plan.fact.columns (recursion_from_All (IsDeclaredColumn table.columns) job.plan.fact.columns fact.columns) in
    ap (λ (b : Bool). cond b (cond (has_columns job.plan.fact (table_header 0 table slice)) None (Some OtherColumn)) (Some OtherFile)) named
    ∙ ap (λ (b : Bool). cond b None (Some OtherColumn)) has

none_is : (e : WorkFault) → ◌≡◌ {A = Option WorkFault} None (Some e) → ⊥
none_is e is = cc

no_fault : (named has : Bool) → cond named (cond has None (Some OtherColumn)) (Some OtherFile) ≡ None → (named ≡ true) × (has ≡ true)
no_fault true true is = (refl, refl)
no_fault true false is = absurd (none_is OtherColumn (sym is))
no_fault false has is = absurd (none_is OtherFile (sym is))

fragment_accepted : (job : JobSpec) (k : ℕ) (bytes : List ℕ) (f : FragmentSpec) → IsFileOf bytes f → header_fault job k f.header ≡ None → fragment_file_of job k bytes ≡ Ok f
unfolding fragment_file_of
fragment_accepted job k bytes f is none =
    let (named, has) = no_fault (is_fragment_of job k f.header) (has_columns job.plan.fact f.header) none in
    ap (λ (r : Result FragmentSpec FileFault). from_file r >>= λ f. provided (is_fragment_of job k f.header) OtherFile f >>= λ f. provided (has_columns job.plan.fact f.header) OtherColumn f) (file_again bytes f is)
    ∙ ap (λ (b : Bool). provided b OtherFile f >>= λ f. provided (has_columns job.plan.fact f.header) OtherColumn f) named
    ∙ ap (λ (b : Bool). provided b OtherColumn f) has

-- ---- keys

known_true : (b : Bool) → is_true (known b) ≡ b
known_true true = refl
known_true false = refl

meets_same : (v w : Value) → is_null v ≡ false → meets v w ≡ same_value v w
meets_same Null w there = cc
meets_same (Int m) Null there = refl
meets_same (Int m) (Int n) there = known_true _
meets_same (Int m) (Text t) there = known_true _
meets_same (Text t) Null there = refl
meets_same (Text t) (Int n) there = known_true _
meets_same (Text t) (Text u) there = known_true _

null_meets : (v w : Value) → is_null v ≡ true → meets v w ≡ false
null_meets Null w none = refl
null_meets (Int n) w none = cc
null_meets (Text t) w none = cc

module _ (key : ℕ) where
  abbrev key_in : Row → Value
  key_in row = column row key

  abbrev with_key : Value → List Row → List Row
  with_key v rows = filter (λ row. same_value v (key_in row)) rows

  none_with : (v : Value) (rows : List Row) → length (with_key v rows) ≤ 0 → list_all (λ other. not (same_value v other)) (map key_in rows) ≡ true
  none_with v [] none = refl
  none_with v (row ∷ rows) none = by (same_value v (key_in row)) (none_with v rows) none
    where
      by : (b : Bool) → (length (with_key v rows) ≤ 0 → list_all (λ other. not (same_value v other)) (map key_in rows) ≡ true)
          → length (cond b (row ∷ with_key v rows) (with_key v rows)) ≤ 0 → (not b && list_all (λ other. not (same_value v other)) (map key_in rows)) ≡ true
      by true rest some = absurd (omega (arith, some))
      by false rest some = rest some

  all_apart : (v : Value) (others : List Value) → is_null v ≡ false → list_all (λ other. not (same_value v other)) others ≡ true → list_all (λ other. not (meets v other)) others ≡ true
  all_apart v others there apart = ap (λ (test : Value → Bool). list_all (λ other. not (test other)) others) (λ i w. meets_same v w there i) ∙ apart

  nulls_apart : (v : Value) (others : List Value) → is_null v ≡ true → list_all (λ other. not (meets v other)) others ≡ true
  nulls_apart v [] none = refl
  nulls_apart v (w ∷ others) none = both (not (meets v w)) _ (ap not (null_meets v w none)) (nulls_apart v others none)

  fewer : (v : Value) (row : Row) (rows : List Row) (b : Bool) → length (cond b (row ∷ with_key v rows) (with_key v rows)) ≤ 1 → length (with_key v rows) ≤ 1
  fewer v row rows true few = omega (arith, few)
  fewer v row rows false few = few

  pub unique_tested : (rows : List Row) → IsUniqueIn key rows → are_unique (map key_in rows) ≡ true
  unique_tested [] unique = refl
  unique_tested (row ∷ rows) unique =
      both (list_all (λ other. not (meets (key_in row) other)) (map key_in rows)) (are_unique (map key_in rows))
      (first (is_null (key_in row)) refl)
      (unique_tested rows (λ v there. fewer v row rows (same_value v (key_in row)) (unique v there)))
    where
      first : (b : Bool) → is_null (key_in row) ≡ b → list_all (λ other. not (meets (key_in row) other)) (map key_in rows) ≡ true
      first true none = nulls_apart (key_in row) (map key_in rows) none
      first false there =
          let one : length (cond (same_value (key_in row) (key_in row)) (row ∷ with_key (key_in row) rows) (with_key (key_in row) rows)) ≤ 1 = unique (key_in row) there in
          let more : suc (length (with_key (key_in row) rows)) ≤ 1 = subst (λ (b : Bool). length (cond b (row ∷ with_key (key_in row) rows) (with_key (key_in row) rows)) ≤ 1) (value_itself (key_in row)) one in
          all_apart (key_in row) (map key_in rows) there (none_with (key_in row) rows (omega (arith, more)))

-- ---- dimensions

some_is : {X : Type 0} (x y : X) → ◌≡◌ {A = Option X} (Some x) (Some y) → x ≡ y
some_is x y is = cc

name_found : (catalog : Catalog) (name : List ℕ) (d : Dimension) → find (λ e. bytes_eq e.table.name name) catalog.dims ≡ Some d → d.table.name ≡ name
name_found catalog name d found = (bytes_eq-Decides d.table.name name).0 (found_passes (λ (e : Dimension). bytes_eq e.table.name name) catalog.dims d found)

module _ (job : JobSpec) (catalog : Catalog) (load : job.load ≡ 0) where
  dimension_accepted : (j : Join) (bytes : List ℕ) → IsDeclaredJoin catalog j → IsJoinedFile catalog j bytes → (f : FragmentSpec) × (dimension_file_of job (j, bytes) ≡ Ok f)
  unfolding dimension_file_of table_file_of
  dimension_accepted j bytes declared joined =
      let d = joined.dimension in
      let same : declared.dimension ≡ d = some_is declared.dimension d (sym declared.named ∙ joined.named) in
      let is = joined.file.file in
      let f = is.file in
      let named : is_dimension_of job j.dim f.header ≡ true =
      ap (is_dimension_of job j.dim) is.header_is
      ∙ both (0 == job.load) _ (eq-eqb 0 job.load (sym load)) (both (same_bytes d.table.name j.dim.name) _ (names_same d.table.name j.dim.name (name_found catalog j.dim.name d joined.named)) refl) in
      let columns = subst (λ (e : Dimension). All (IsDeclaredColumn e.table.columns) j.dim.columns) same declared.columns in
      let has : has_columns j.dim f.header ≡ true =
      ap (has_columns j.dim) is.header_is ∙ columns_stand d.table.columns j.dim.columns (recursion_from_All (IsDeclaredColumn d.table.columns) j.dim.columns columns) in
      let key : d.key ≡ j.key = sym (declared.key ∙ ap (λ (e : Dimension). e.key) same) in
      let unique : are_unique (keys_in j f) ≡ true =
      ap (λ (rows : List Row). are_unique (map (λ row. column row j.key) rows)) is.rows_are
      ∙ unique_tested j.key joined.file.rows (subst (λ (k : ℕ). IsUniqueIn k joined.file.rows) key joined.file.unique) in (
        f,
        ap (λ (r : Result FragmentSpec FileFault). (from_file r >>= λ f. provided (is_dimension_of job j.dim f.header) OtherFile f >>= λ f. provided (has_columns j.dim f.header) OtherColumn f) >>= keyed j) (file_again bytes f is.spelled)
            ∙ ap (λ (b : Bool). (provided b OtherFile f >>= λ f. provided (has_columns j.dim f.header) OtherColumn f) >>= keyed j) named
            ∙ ap (λ (b : Bool). provided b OtherColumn f >>= keyed j) has
            ∙ ap (λ (b : Bool). provided b KeyTwice f) unique,
      )

  joins_accepted : (js : List Join) (files : List (List ℕ)) → AllByRecursion (IsDeclaredJoin catalog) js → AllZip (IsJoinedFile catalog) js files
      → (fs : List FragmentSpec) × (all_ok (map (dimension_file_of job) (zip js files)) ≡ Ok fs)
  joins_accepted [] [] declared joined = ([], refl)
  joins_accepted [] (bytes ∷ files) declared joined = absurd joined
  joins_accepted (j ∷ js) [] declared joined = absurd joined
  joins_accepted (j ∷ js) (bytes ∷ files) declared joined =
      let (f, first) = dimension_accepted j bytes declared.0 joined.0 in
      let (fs, rest) = joins_accepted js files declared.1 joined.1 in
      (f ∷ fs, λ i. with_result (first i) (rest i))

  as_many : (js : List Join) (files : List (List ℕ)) → AllZip (IsJoinedFile catalog) js files → length files ≡ length js
  as_many [] [] joined = refl
  as_many [] (bytes ∷ files) joined = absurd joined
  as_many (j ∷ js) [] joined = absurd joined
  as_many (j ∷ js) (bytes ∷ files) joined = ap suc (as_many js files joined.1)

  -- the job reads its dimensions from the files of those that its plan's joins name
  pub dimensions_accepted : (files : List (List ℕ)) → All (IsDeclaredJoin catalog) job.plan.joins → AllZip (IsJoinedFile catalog) job.plan.joins files → Opens job files
  unfolding dimension_files_of
  dimensions_accepted files declared joined =
      let (fs, all) = joins_accepted job.plan.joins files (recursion_from_All (IsDeclaredJoin catalog) job.plan.joins declared) joined in
      let many = eq-eqb (length files) (length job.plan.joins) (as_many job.plan.joins files joined) in
      (fs, ap (λ (b : Bool). provided b OtherFile files >>= λ files. all_ok (map (dimension_file_of job) (zip job.plan.joins files))) many ∙ all)

-- ---- what is refused

never : {X : Type 0} (x : X) (e : WorkFault) → ◌≡◌ {A = Result X WorkFault} (Ok x) (Err e) → ⊥
never x e same = cc

-- where nothing is wrong, memory was wanting
pub memory_alone : {X : Type 0} (e : WorkFault) (meant : Result X WorkFault) (x : X) → meant ≡ Ok x → (e ≢ Memory → meant ≡ Err e) → e ≡ Memory
memory_alone Memory meant x is given = refl
memory_alone OtherFile meant x is given = absurd (never x OtherFile (sym is ∙ given (λ same. cc same)))
memory_alone OtherColumn meant x is given = absurd (never x OtherColumn (sym is ∙ given (λ same. cc same)))
memory_alone (File fault) meant x is given = absurd (never x (File fault) (sym is ∙ given (λ same. cc same)))
memory_alone VectorLength meant x is given = absurd (never x VectorLength (sym is ∙ given (λ same. cc same)))
memory_alone KeyTwice meant x is given = absurd (never x KeyTwice (sym is ∙ given (λ same. cc same)))

-- the rows of the job's fragment have an answer
pub fragment_answered : (job : JobSpec) (k vector_len : ℕ) (bytes : List ℕ) (f : FragmentSpec) (files : List (List ℕ)) (read : List FragmentSpec) → is_vector_length vector_len ≡ true → IsFileOf bytes f → header_fault job k f.header ≡ None
    → dimension_files_of job files ≡ Ok read → (a : Answer) × (answered job k vector_len bytes files ≡ Ok a)
unfolding input_of
fragment_answered job k vector_len bytes f files read vectors is none opened =
    let input : InputSpec = record { fragment = f; dims = read } in (
      answer_of job k input,
      ap (λ (b : Bool). (provided b VectorLength vector_len >>= λ n. fragment_file_of job k bytes >>= λ f. dimension_files_of job files >>= λ ds. Ok (record { fragment = f; dims = ds })) >>= λ input. Ok (answer_of job k input)) vectors
          ∙ ap (λ (r : Result FragmentSpec WorkFault). (r >>= λ f. dimension_files_of job files >>= λ ds. Ok (record { fragment = f; dims = ds })) >>= λ input. Ok (answer_of job k input)) (fragment_accepted job k bytes f is none)
          ∙ ap (λ (r : Result (List FragmentSpec) WorkFault). (r >>= λ ds. Ok (record { fragment = f; dims = ds })) >>= λ input. Ok (answer_of job k input)) opened,
    )
