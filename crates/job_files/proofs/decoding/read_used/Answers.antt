-- Proofs of the goals of `read_used` (`decoding`).
use Rattle.std.proofs.Common.{List, subst, sym, ◌∙◌}
use Rattle.std.specs.List.{AllZip}
use Rattle.std.proofs.lemmas.List.{take_all}
use Rattle.meaning.specs.declared.plan.ColumnUse.{ColumnUse}
use Rattle.fragment_file.proofs.CopiedColumns.{none}
use Rattle.job_files.specs.Dimensions.{IsColumnIn}
use Rattle.job_files.proofs.UsedColumns.{AreThere, one_used, used_column_within}
use Rattle.job_files.proofs.decoding.read_used.Goals as goal

pub column_of-requires : goal.column_of-requires
column_of-requires c =
    let has = subst (AreThere c.args.file.now.header.columns) (sym c.as_slice-used.ensures) c.requires in
    record { number = used_column_within c.as_slice-used.result.now c.args.file.now.header.columns c.loop-used.used-index c.used-item.result has c.loop-used-test.true c.used-item.is }

pub loop-used-preserved : goal.loop-used-preserved
loop-used-preserved c =
    let has = subst (AreThere c.args.file.now.header.columns) (sym c.as_slice-used.ensures) c.requires in
    one_used c.as_slice-used.result.now c.args.file.now c.loop-used.used-index c.used-item.result none c.in_ok-column.column c.loop-used.columns.items c.push.new.self.items has c.loop-used-test.true c.used-item.is
    (c.in_ok-column.ensures none) c.in_ok-push.ensures.items c.loop-used.invariant

pub returns : goal.returns
returns c =
    let all = take_all c.loop-used.used-index c.as_slice-used.result.now c.loop-used-test.false ∙ c.as_slice-used.ensures in
    subst (λ (us : List ColumnUse). AllZip (IsColumnIn c.args.file.now) us c.loop-used.columns.items) all c.loop-used.invariant
