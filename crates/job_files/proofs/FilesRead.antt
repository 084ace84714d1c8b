-- The files of an input are those that the bytes encode, and files that are the job's are an input.
use Rattle.std.specs.Prelude.{◌≡◌, ℕ, ◌==◌, List, [], ◌∷◌, length, map, zip, Result, Ok, Err}
use Rattle.std.specs.List.{AllZip}
use Rattle.std.proofs.Common.{refl, ap, subst, ◌∙◌, arith}
use Rattle.std.proofs.lemmas.Bool.{eqb-true}
use Rattle.meaning.specs.declared.plan.Join.{Join}
use Rattle.meaning.specs.declared.plan.TableUse.{TableUse}
use Rattle.meaning.specs.Results.{all_ok, with_result}
use Rattle.fragment_file.specs.declared.fault.FileFault.{FileFault}
use Rattle.fragment_file.specs.Fragment.{FragmentSpec}
use Rattle.fragment_file.specs.FragmentReading.{read_fragment}
use Rattle.partial_codec.specs.Job.{JobSpec}
use Rattle.wire.specs.Reading.{◌>>=◌}
use Rattle.job_files.specs.declared.fault.WorkFault.TheVariants.{KeyTwice, OtherColumn, OtherFile}
use Rattle.job_files.specs.Files.{are_unique, has_columns, is_dimension_of, is_fragment_of, keys_in}
use Rattle.job_files.specs.Inputs.{InputSpec, dimension_file_of, dimension_files_of, fragment_file_of, from_file, input_of, keyed, length_of, provided, table_file_of}
use Rattle.job_files.proofs.GivenInput.{goes_there, is_provided, ok_is}

read_is : (r : Result FragmentSpec FileFault) (f : FragmentSpec) → from_file r ≡ Ok f → r ≡ Ok f
read_is (Ok x) f is = ap (λ (g : FragmentSpec). Ok g) (ok_is x f is)
read_is (Err e) f is = absurd cc

fragment_read : (job : JobSpec) (k : ℕ) (bytes : List ℕ) (f : FragmentSpec) → fragment_file_of job k bytes ≡ Ok f → read_fragment bytes ≡ Ok f
unfolding fragment_file_of
fragment_read job k bytes f is =
    let (g, read, more) = goes_there (from_file (read_fragment bytes)) (λ f. provided (is_fragment_of job k f.header) OtherFile f >>= λ f. provided (has_columns job.plan.fact f.header) OtherColumn f) f is in
    let (h, named, last) = goes_there (provided (is_fragment_of job k g.header) OtherFile g) (λ f. provided (has_columns job.plan.fact f.header) OtherColumn f) f more in
    read_is (read_fragment bytes) g read
    ∙ ap (λ (x : FragmentSpec). Ok x) ((is_provided (is_fragment_of job k g.header) OtherFile g h named).1 ∙ (is_provided (has_columns job.plan.fact h.header) OtherColumn h f last).1)

table_read : (job : JobSpec) (dim : TableUse) (bytes : List ℕ) (f : FragmentSpec) → table_file_of job dim bytes ≡ Ok f → read_fragment bytes ≡ Ok f
unfolding table_file_of
table_read job dim bytes f is =
    let (g, read, more) = goes_there (from_file (read_fragment bytes)) (λ f. provided (is_dimension_of job dim f.header) OtherFile f >>= λ f. provided (has_columns dim f.header) OtherColumn f) f is in
    let (h, named, last) = goes_there (provided (is_dimension_of job dim g.header) OtherFile g) (λ f. provided (has_columns dim f.header) OtherColumn f) f more in
    read_is (read_fragment bytes) g read
    ∙ ap (λ (x : FragmentSpec). Ok x) ((is_provided (is_dimension_of job dim g.header) OtherFile g h named).1 ∙ (is_provided (has_columns dim h.header) OtherColumn h f last).1)

dimension_read : (job : JobSpec) (j : Join) (bytes : List ℕ) (f : FragmentSpec) → dimension_file_of job (j, bytes) ≡ Ok f → read_fragment bytes ≡ Ok f
unfolding dimension_file_of
dimension_read job j bytes f is =
    let (g, read, last) = goes_there (table_file_of job j.dim bytes) (keyed j) f is in
    table_read job j.dim bytes g read ∙ ap (λ (x : FragmentSpec). Ok x) (is_provided (are_unique (keys_in j g)) KeyTwice g f last).1

-- ---- several results

first_and_rest : {X E : Type 0} (r : Result X E) (rs : Result (List X) E) (ys : List X) → with_result r rs ≡ Ok ys → (x : X) × (xs : List X) × (r ≡ Ok x) × (rs ≡ Ok xs) × (x ∷ xs ≡ ys)
first_and_rest (Err e) rs ys is = absurd cc
first_and_rest (Ok x) (Err e) ys is = absurd cc
first_and_rest (Ok x) (Ok xs) ys is = (x, xs, refl, refl, ok_is (x ∷ xs) ys is)

all_read : (job : JobSpec) (js : List Join) (dims : List (List ℕ)) (fs : List FragmentSpec) → length dims ≡ length js → all_ok (map (dimension_file_of job) (zip js dims)) ≡ Ok fs
    → AllZip (λ bytes f. read_fragment bytes ≡ Ok f) dims fs
all_read job [] [] fs many is = subst (AllZip (λ bytes f. read_fragment bytes ≡ Ok f) []) (ok_is [] fs is) tt
all_read job [] (d ∷ dims) fs many is = absurd (omega (arith, many))
all_read job (j ∷ js) [] fs many is = absurd (omega (arith, many))
all_read job (j ∷ js) (d ∷ dims) fs many is =
    let (f, rest, first, others, whole) = first_and_rest (dimension_file_of job (j, d)) (all_ok (map (dimension_file_of job) (zip js dims))) fs is in
    subst (AllZip (λ bytes f. read_fragment bytes ≡ Ok f) (d ∷ dims)) whole (dimension_read job j d f first, all_read job js dims rest (omega (arith, many)) others)

dimensions_read : (job : JobSpec) (dims : List (List ℕ)) (fs : List FragmentSpec) → dimension_files_of job dims ≡ Ok fs → AllZip (λ bytes f. read_fragment bytes ≡ Ok f) dims fs
unfolding dimension_files_of
dimensions_read job dims fs is =
    let (ds, many, last) = goes_there (provided (length dims == length job.plan.joins) OtherFile dims) (λ ds. all_ok (map (dimension_file_of job) (zip job.plan.joins ds))) fs is in
    let (counted, same) = is_provided (length dims == length job.plan.joins) OtherFile dims ds many in
    all_read job job.plan.joins dims fs (eqb-true (length dims) (length job.plan.joins) counted) (ap (λ (xs : List (List ℕ)). all_ok (map (dimension_file_of job) (zip job.plan.joins xs))) same ∙ last)

-- each file of an input is the one that its bytes encode
pub files_read : (job : JobSpec) (k n : ℕ) (bytes : List ℕ) (dims : List (List ℕ)) (input : InputSpec) → input_of job k n bytes dims ≡ Ok input
    → (read_fragment bytes ≡ Ok input.fragment) × AllZip (λ b f. read_fragment b ≡ Ok f) dims input.dims
unfolding input_of
files_read job k n bytes dims input is =
    let (m, long, more) = goes_there (length_of n) (λ m. fragment_file_of job k bytes >>= λ f. dimension_files_of job dims >>= λ ds. Ok (record { fragment = f; dims = ds })) input is in
    let (f, read, last) = goes_there (fragment_file_of job k bytes) (λ f. dimension_files_of job dims >>= λ ds. Ok (record { fragment = f; dims = ds })) input more in
    let (ds, reads, end) = goes_there (dimension_files_of job dims) (λ ds. Ok (record { fragment = f; dims = ds })) input last in
    let whole = ok_is (record { fragment = f; dims = ds }) input end in (
      fragment_read job k bytes f read ∙ ap (λ (i : InputSpec). Ok i.fragment) whole,
      subst (AllZip (λ b f. read_fragment b ≡ Ok f) dims) (ap (λ (i : InputSpec). i.dims) whole) (dimensions_read job dims ds reads),
    )
