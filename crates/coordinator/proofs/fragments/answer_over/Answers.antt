-- Proofs of the goals of `answer_over` (`fragments`).
use Rattle.std.proofs.Common.{◌≡◌, List, ℕ, Ok, map, subst, sym}
use Rattle.std.proofs.lemmas.Result.{on_ok_weaker}
use Rattle.partial_codec.specs.Job.{JobSpec}
use Rattle.job_files.specs.Dimensions.{files_of}
use Rattle.job_files.specs.Inputs.{dimension_files_of}
use Rattle.coordinator.proofs.AcceptedFiles.{memory_alone}
use Rattle.coordinator.proofs.fragments.answer_over.Goals as goal

pub returns-in-Ok-clause-taken : goal.returns-in-Ok-clause-taken
returns-in-Ok-clause-taken c = on_ok_weaker c.answer_fragments-answered.result (λ taken rows tables are files.
    let dims = map (λ d. d.now) c.args.dims.now in
    taken rows tables are (record {
      files = dims;
      opened = subst (λ (j : JobSpec). dimension_files_of j dims ≡ Ok (files_of c.in-Ok.dimensions.tables.items)) c.job.ensures.value c.in-Ok.ensures.read;
      are = files;
    })) c.answer_fragments-answered.ensures.taken

pub answer_fragments-answered-requires-clause-opened : goal.answer_fragments-answered-requires-clause-opened
answer_fragments-answered-requires-clause-opened c =
    let dims = map (λ d. d.now) c.args.dims.now in
    (dims, subst (λ (j : JobSpec). dimension_files_of j dims ≡ Ok (files_of c.in-Ok.dimensions.tables.items)) c.job.ensures.value c.in-Ok.ensures.read)

pub want_of_memory-requires : goal.want_of_memory-requires
want_of_memory-requires c =
    let dims = map (λ d. d.now) c.args.dims.now in
    let (read, opened) = c.requires.dims in
    memory_alone c.in-Err.fault (dimension_files_of c.job.result.now dims) read (subst (λ (j : JobSpec). dimension_files_of j dims ≡ Ok read) (sym c.job.ensures.value) opened) c.in-Err.ensures.read
