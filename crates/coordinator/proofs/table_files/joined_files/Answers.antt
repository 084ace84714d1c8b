-- Proofs of the goals of `joined_files` (`table_files`).
use Rattle.std.proofs.Common.{◌≡◌, ◌<◌, ℕ, ◌+◌, List, [], ◌∷◌, ◌++◌, ap, get_or, length, sym, subst, take, ◌∙◌, arith}
use Rattle.std.specs.List.{AllZip}
use Rattle.std.proofs.Math.Numerals.{suc-eq-add-one}
use Rattle.std.proofs.Math.Seq.{take-suc}
use Rattle.std.proofs.lemmas.List.{take_all}
use Rattle.std.proofs.lemmas.Result.{err_from_is_err_and}
use Rattle.meaning.specs.declared.plan.Join.{Join}
use Rattle.job_files.specs.RowFiles.{AreFilesOfTables}
use Rattle.job_files.proofs.UsedColumns.{zip_push}
use Rattle.coordinator.specs.Fragment.{IsJoinedFile}
use Rattle.coordinator.specs.Whole.{files_in, joined_from}
use Rattle.coordinator.proofs.InTurn.{begins, next, stops, ends}
use Rattle.coordinator.proofs.TableFiles.{one_more}
use Rattle.coordinator.proofs.table_files.joined_files.Goals as goal

-- one join more
taken : (joins : List Join) (k : ℕ) (j : Join) → k < length joins → j ≡ get_or joins k j → take (k + 1) joins ≡ take k joins ++ j ∷ []
taken joins k j below is = ap (λ n. take n joins) (sym (suc-eq-add-one k)) ∙ take-suc joins k j below ∙ ap (λ x. take k joins ++ x ∷ []) (sym is)

pub loop-join-init : goal.loop-join-init
loop-join-init c = record {
  judged = ([], subst (AreFilesOfTables []) (sym c.new-files.ensures.items) tt, begins (joined_from c.args.catalog.now (files_in c.args.csvs.now)) c.args.joins.now);
  joined = subst (AllZip (IsJoinedFile c.args.catalog.now) []) (sym c.new-files.ensures.items) tt;
}

pub loop-join-preserved : goal.loop-join-preserved
loop-join-preserved c =
    let (before, files, judged) = c.loop-join.invariant.judged in
    let (rows, meant, is) = c.in_ok-joined_file.ensures.file in
    let catalog = c.args.catalog.now in
    let joins = c.args.joins.now in
    record {
      judged = (
        before ++ rows ∷ [],
        subst (AreFilesOfTables (before ++ rows ∷ [])) (sym c.in_ok-push.ensures.items) (one_more before c.loop-join.files.items rows c.in_ok-joined_file.field-0 files is),
        next (joined_from catalog (files_in c.args.csvs.now)) joins c.loop-join.join-index before c.join-item.result rows c.loop-join-test.true c.join-item.is meant judged,
      );
      joined = subst (λ js. AllZip (IsJoinedFile catalog) js c.push.new.self.items) (sym (taken joins c.loop-join.join-index c.join-item.result c.loop-join-test.true c.join-item.is))
          (subst (AllZip (IsJoinedFile catalog) (take c.loop-join.join-index joins ++ c.join-item.result ∷ [])) (sym c.in_ok-push.ensures.items)
          (zip_push (IsJoinedFile catalog) (take c.loop-join.join-index joins) c.loop-join.files.items c.join-item.result c.in_ok-joined_file.field-0 c.loop-join.invariant.joined c.in_ok-joined_file.ensures.joined));
    }

pub returns-in_err-joined_file-clause-refused : goal.returns-in_err-joined_file-clause-refused
returns-in_err-joined_file-clause-refused c =
    let (before, files, judged) = c.loop-join.invariant.judged in
    let p = err_from_is_err_and c.from_residual.result c.from_residual.ensures.1 in
    rw (p.1, p.2) (λ other. stops (joined_from c.args.catalog.now (files_in c.args.csvs.now)) c.args.joins.now c.loop-join.join-index before c.join-item.result c.in_err-joined_file.field-0.0 c.loop-join-test.true c.join-item.is
    (c.in_err-joined_file.ensures.refused other) judged)

pub returns-clause-files : goal.returns-clause-files
returns-clause-files c =
    let (before, files, judged) = c.loop-join.invariant.judged in (
      before,
      ends (joined_from c.args.catalog.now (files_in c.args.csvs.now)) c.args.joins.now c.loop-join.join-index before (omega (arith, c.loop-join-test.false)) judged,
      files,
    )

pub returns-clause-joined : goal.returns-clause-joined
returns-clause-joined c =
    subst (λ js. AllZip (IsJoinedFile c.args.catalog.now) js c.loop-join.files.items) (take_all c.loop-join.join-index c.args.joins.now (omega (arith, c.loop-join-test.false))) c.loop-join.invariant.joined
