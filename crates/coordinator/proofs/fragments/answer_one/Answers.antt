-- Proofs of the goals of `answer_one` (`fragments`).
use Rattle.std.proofs.Common.{◌≡◌, List, ℕ, sym, ap, subst, ◌∙◌}
use Rattle.std.specs.Prelude.{Ok, Option, None, Some}
use Rattle.meaning.specs.Answer.{own}
use Rattle.partial_codec.specs.Job.{IsJob, JobSpec}
use Rattle.partial_codec.specs.Answer.{Spells, fault_in}
use Rattle.answer_fields.specs.declared.fault.DecodeFault.{DecodeFault}
use Rattle.partial_codec.proofs.Answers.{spelled_reads}
use Rattle.gathering.specs.Gathering.{Refuses}
use Rattle.fragment_file.specs.Fragment.{table_header}
use Rattle.job_files.specs.Dimensions.{files_of}
use Rattle.job_files.specs.Inputs.{dimension_files_of, header_fault}
use Rattle.worker.specs.Opened.{AreOver}
use Rattle.coordinator.specs.Fragment.{AreRowsOfJob}
use Rattle.coordinator.proofs.fragments.answer_one.Goals as goal

pub returns-in-Ok-clause-taken : goal.returns-in-Ok-clause-taken
returns-in-Ok-clause-taken c answers all tables are joined before =
    let same = c.job-job.ensures.value in
    let rows = c.args.rows in
    let job = c.args.gather.now.job in
    let here = subst (λ (j : JobSpec). AreRowsOfJob j rows all) (sym same) are in
    let spelled = subst (λ (j : JobSpec). Spells j c.in_ok-bytes.bytes.items (own j.plan tables j.cut all rows.slice.fragment)) same (c.in_ok-bytes.ensures.own all tables here (subst (λ (j : JobSpec). AreOver j tables c.args.dimensions.now) (sym same) joined)) in
    let answer = own job.plan tables job.cut all rows.slice.fragment in
    c.in-Ok.ensures.joins answers answer (subst (λ (bytes : List ℕ). Spells job bytes answer) (sym c.as_slice.ensures.value) spelled) before

pub unreachable-requires : goal.unreachable-requires
unreachable-requires c =
    let job = c.args.gather.now.job in
    let bytes = c.as_slice.result.now in
    let (a, spells) = c.in_ok-bytes.ensures.spells in
    let spelled = subst (λ (bs : List ℕ). Spells job bs a) (sym c.as_slice.ensures.value) (subst (λ (j : JobSpec). Spells j c.in_ok-bytes.bytes.items a) c.job-job.ensures.value spells) in
    let refused = subst (Refuses job bytes) c.in-Err-Decode.field-0-is c.in-Err-Decode.ensures.refused in
    let none : ◌≡◌ {A = Option DecodeFault} None (Some c.in-Err-Decode.field-0-0) = sym (ap fault_in (spelled_reads job bytes a (subst IsJob c.job-job.ensures.value c.plan-plan.ensures.within_limits) spelled)) ∙ refused in
    cc none

pub answer_bytes-requires-clause-named : goal.answer_bytes-requires-clause-named
answer_bytes-requires-clause-named c =
    let rows = c.args.rows in
    subst (λ (j : JobSpec). header_fault j rows.slice.fragment (table_header 0 rows.table.now rows.slice) ≡ None) (sym c.job-job.ensures.value) c.requires.named

pub answer_bytes-requires-clause-opened : goal.answer_bytes-requires-clause-opened
answer_bytes-requires-clause-opened c =
    let (files, opened) = c.requires.opened in
    (files, subst (λ (j : JobSpec). dimension_files_of j files ≡ Ok (files_of c.args.dimensions.now.tables.items)) (sym c.job-job.ensures.value) opened)
