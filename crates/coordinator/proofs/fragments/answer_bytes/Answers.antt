-- Proofs of the goals of `answer_bytes` (`fragments`).
use Rattle.std.proofs.Common.{List, ℕ, Ok, Err, IfOk, ap, sym, subst, ◌∙◌}
use Rattle.std.specs.Prelude.{Result}
use Rattle.fragment_file.specs.Fragment.{Stands, table_header}
use Rattle.partial_codec.specs.Answer.{Spells}
use Rattle.partial_codec.proofs.Answers.{written_spells}
use Rattle.job_files.specs.Dimensions.{files_of}
use Rattle.job_files.specs.Inputs.{header_fault}
use Rattle.job_files.specs.RowFiles.{rows_of_fragment}
use Rattle.job_files.proofs.RowFiles.{file_of_columns}
use Rattle.worker.specs.Work.{answered}
use Rattle.coordinator.proofs.AcceptedFiles.{fragment_answered, memory_alone}
use Rattle.coordinator.proofs.fragments.answer_bytes.Goals as goal

weaker : {X E : Type 0} {P Q : X → Type 0} (r : Result X E) → ((x : X) → P x → Q x) → IfOk r P → IfOk r Q
weaker (Ok x) more p = more x p
weaker (Err e) more p = tt

pub returns-in-Ok-clause-spells : goal.returns-in-Ok-clause-spells
returns-in-Ok-clause-spells c = weaker c.encode.result (λ bytes spelled. (c.in-Ok.answer, written_spells c.args.job.now bytes.items c.in-Ok.answer c.in-Ok.ensures.fits spelled)) c.encode.ensures

pub returns-in-Ok-clause-own : goal.returns-in-Ok-clause-own
returns-in-Ok-clause-own c =
    let job = c.args.job.now in
    let rows = c.args.rows in
    let header = table_header 0 rows.table.now rows.slice in
    let file = subst (λ (bytes : List ℕ). Stands bytes header rows.columns.now) (sym c.deref.ensures.value) c.in_ok-file.ensures in
    weaker c.encode.result (λ bytes spelled all tables are joined.
    let is = file_of_columns c.deref.result.now header rows.columns.now (rows_of_fragment job.cut rows.slice.fragment all) file are.columns are.counted are.typed in
    subst (Spells job bytes.items) (c.in-Ok.ensures.own all tables is joined) (written_spells job bytes.items c.in-Ok.answer c.in-Ok.ensures.fits spelled))
    c.encode.ensures

pub want_of_memory-requires : goal.want_of_memory-requires
want_of_memory-requires c =
    let job = c.args.job.now in
    let rows = c.args.rows in
    let (files, opened) = c.requires.opened in
    let header = table_header 0 rows.table.now rows.slice in
    let file = subst (λ (bytes : List ℕ). Stands bytes header rows.columns.now) (sym c.deref.ensures.value) c.in_ok-file.ensures in
    let named = ap (header_fault job rows.slice.fragment) file.header_is ∙ c.requires.named in
    let (a, is) = fragment_answered job rows.slice.fragment c.args.vector_len c.deref.result.now file.file files (files_of c.args.dimensions.now.tables.items) c.requires.vectors file.spelled named opened in
    memory_alone c.in-Err.fault (answered job rows.slice.fragment c.args.vector_len c.deref.result.now files) a is (c.in-Err.ensures.returned files opened)
