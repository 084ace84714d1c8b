-- What is known of a fragment that is given.
use Rattle.std.specs.Prelude.{◌≡◌, ℕ, ◌==◌, nat_lt, Bool, true, false, if◌then◌else◌, List, length, Option, Some, None, Result, Ok, Err}
use Rattle.std.proofs.Common.{refl, ap, sym, subst, ◌∙◌}
use Rattle.std.proofs.lemmas.Bool.{eqb-true, ltb-true}
use Rattle.meaning.proofs.Tests.{first_of, second_of}
use Rattle.meaning.specs.VectorLength.{is_vector_length}
use Rattle.fragment_file.specs.Rows.{RowGroup}
use Rattle.fragment_file.specs.declared.header.Header.{Header}
use Rattle.fragment_file.specs.Fragment.{FragmentSpec}
use Rattle.fragment_file.specs.FragmentReading.{read_fragment}
use Rattle.partial_codec.specs.Job.{JobSpec}
use Rattle.wire.specs.Reading.{◌>>=◌, same_bytes}
use Rattle.job_files.specs.declared.fault.WorkFault.{WorkFault}
use Rattle.job_files.specs.declared.fault.WorkFault.TheVariants.{OtherFile, OtherColumn, VectorLength}
use Rattle.job_files.specs.Files.{HasColumns, has_columns, is_fragment_of}
use Rattle.job_files.specs.Inputs.{InputSpec, IsInput, dimension_files_of, from_file, fragment_file_of, header_fault, input_of, length_of, provided}

pub goes_there : {X Y : Type 0} (r : Result X WorkFault) (k : X → Result Y WorkFault) (z : Y) → (r >>= k) ≡ Ok z → (x : X) × (r ≡ Ok x) × (k x ≡ Ok z)
goes_there (Err e) k z is = absurd cc
goes_there (Ok x) k z is = (x, refl, is)

pub is_provided : {X : Type 0} (b : Bool) (e : WorkFault) (x y : X) → provided b e x ≡ Ok y → (b ≡ true) × (x ≡ y)
is_provided true e x y is = (refl, cc)
is_provided false e x y is = absurd cc

pub ok_is : {X E : Type 0} (x y : X) → ◌≡◌ {A = Result X E} (Ok x) (Ok y) → x ≡ y
ok_is x y e = cc

-- the length of vectors
pub length_is : (n m : ℕ) → length_of n ≡ Ok m → is_vector_length n ≡ true
length_is n m is = (is_provided (is_vector_length n) VectorLength n m is).0

input_is : (job : JobSpec) (k : ℕ) (f : FragmentSpec) → is_fragment_of job k f.header ≡ true → HasColumns job.plan.fact f.header → IsInput job k f
input_is job k f named columns =
    let rest = second_of (nat_lt k (length job.cut)) _ named in
    let table = second_of (f.header.load == job.load) _ rest in
    let named_so = second_of (same_bytes f.header.table job.plan.fact.name) _ table in
    let numbers = second_of (f.header.fragment == k) _ named_so in
    record {
      within = ltb-true k (length job.cut) (first_of _ _ named);
      columns = columns;
      first = eqb-true f.header.first_row _ (first_of _ _ numbers);
      rows = eqb-true f.header.rows _ (second_of _ _ numbers);
    }

abbrev no_fault : Option WorkFault
no_fault = None

none_is : (e : WorkFault) → no_fault ≡ Some e → ⊥
none_is e is = cc

-- a header at which nothing is wrong
pub header_given : (job : JobSpec) (k : ℕ) (h : Header) (groups : List RowGroup) → header_fault job k h ≡ None → IsInput job k (record { header = h; groups = groups })
header_given job k h groups none =
    elim (is_fragment_of job k h) as (λ b. is_fragment_of job k h ≡ b → IsInput job k (record { header = h; groups = groups })) [
      | true ↦ λ named. with_columns named (sym (ap (λ (b : Bool). if b then (if has_columns job.plan.fact h then None else Some OtherColumn) else Some OtherFile) named) ∙ none)
      | false ↦ λ named. absurd (none_is OtherFile (sym none ∙ ap (λ (b : Bool). if b then (if has_columns job.plan.fact h then None else Some OtherColumn) else Some OtherFile) named))
    ] refl
  where
    with_columns : is_fragment_of job k h ≡ true → (if has_columns job.plan.fact h then None else Some OtherColumn) ≡ None → IsInput job k (record { header = h; groups = groups })
    with_columns named has =
        elim (has_columns job.plan.fact h) as (λ b. has_columns job.plan.fact h ≡ b → IsInput job k (record { header = h; groups = groups })) [
          | true ↦ λ columns. input_is job k (record { header = h; groups = groups }) named columns
          | false ↦ λ columns. absurd (none_is OtherColumn (sym has ∙ ap (λ (b : Bool). if b then None else Some OtherColumn) columns))
        ] refl

pub fragment_is : (job : JobSpec) (k : ℕ) (bytes : List ℕ) (f : FragmentSpec) → fragment_file_of job k bytes ≡ Ok f → IsInput job k f
unfolding fragment_file_of
fragment_is job k bytes f is =
    let (g, read, more) = goes_there (from_file (read_fragment bytes)) (λ f. provided (is_fragment_of job k f.header) OtherFile f >>= λ f. provided (has_columns job.plan.fact f.header) OtherColumn f) f is in
    let (h, named, last) = goes_there (provided (is_fragment_of job k g.header) OtherFile g) (λ f. provided (has_columns job.plan.fact f.header) OtherColumn f) f more in
    let (is_named, same) = is_provided (is_fragment_of job k g.header) OtherFile g h named in
    let (has, end) = is_provided (has_columns job.plan.fact h.header) OtherColumn h f last in
    subst (IsInput job k) end (input_is job k h (subst (λ (x : FragmentSpec). is_fragment_of job k x.header ≡ true) same is_named) has)

-- where nothing is wrong
pub given : (job : JobSpec) (k n : ℕ) (bytes : List ℕ) (dims : List (List ℕ)) (input : InputSpec) → input_of job k n bytes dims ≡ Ok input → IsInput job k input.fragment × (is_vector_length n ≡ true)
unfolding input_of
given job k n bytes dims input is =
    let (m, long, more) = goes_there (length_of n) (λ m. fragment_file_of job k bytes >>= λ f. dimension_files_of job dims >>= λ ds. Ok (record { fragment = f; dims = ds })) input is in
    let (f, read, last) = goes_there (fragment_file_of job k bytes) (λ f. dimension_files_of job dims >>= λ ds. Ok (record { fragment = f; dims = ds })) input more in
    let (ds, reads, end) = goes_there (dimension_files_of job dims) (λ ds. Ok (record { fragment = f; dims = ds })) input last in
    let same : f ≡ input.fragment = ap (λ (i : InputSpec). i.fragment) (ok_is _ _ end) in
    (subst (IsInput job k) same (fragment_is job k bytes f read), length_is n m long)
