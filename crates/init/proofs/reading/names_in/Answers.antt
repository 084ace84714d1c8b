-- Proofs of the goals of `names_in` (`reading`).
use Rattle.std.proofs.Common.{◌≡◌, Ok, sym, arith}
use Rattle.std.proofs.lemmas.Result.{err_from_is_err_and}
use Rattle.csv.specs.Records.{fields_of}
use Rattle.init.specs.Shown.{named}
use Rattle.init.proofs.Showing.{all_named, name_counted, name_lacking, name_more, past_end}
use Rattle.init.proofs.reading.names_in.Goals as goal
use Rattle.init.proofs.reading.names_in.Goals.{else-loop-index-test, then-loop-index-test+in_default}

pub returns-in_err-name-clause-lacking : goal.returns-in_err-name-clause-lacking
returns-in_err-name-clause-lacking c =
    let fields = fields_of c.args.header.now in
    let p = err_from_is_err_and c.from_residual.result c.from_residual.ensures.1 in
    rw (p.1, p.2) (name_lacking fields c.loop-index.names.items c.loop-index.index c.in-Some.field.now c.args.file.now c.in_err-name.field-0.0 c.loop-index.invariant.1 c.loop-index.invariant.0 (sym c.in-Some.ensures)
    (rw (sym c.as_slice.ensures.value) c.in_err-name.ensures.refused))

pub loop-index-preserved : goal.loop-index-preserved
loop-index-preserved c =
    let fields = fields_of c.args.header.now in
    let is : named c.loop-index.names.items c.in-Some.field.now ≡ Ok c.in_ok-name.name = rw (sym c.as_slice.ensures.value) c.in_ok-name.ensures.named in
    rw c.in_ok-push.ensures.items (
      name_counted c.loop-index.names.items c.in_ok-name.name c.loop-index.index c.loop-index.invariant.0,
      name_more fields c.loop-index.names.items c.loop-index.index c.in-Some.field.now c.in_ok-name.name c.loop-index.invariant.1 (sym c.in-Some.ensures) is,
    )

pub returns-clause-named : goal.returns-clause-named
returns-clause-named c =
    let fields = fields_of c.args.header.now in
    elim c.loop-index-test.branch [
      | else-loop-index-test w ↦ all_named fields c.loop-index.names.items c.loop-index.index (omega (arith, w.loop-index-test.false, c.len-index-end.ensures)) c.loop-index.invariant.1
      | then-loop-index-test+in_default w ↦ all_named fields c.loop-index.names.items c.loop-index.index (past_end fields c.loop-index.index (sym w.in_default.ensures)) c.loop-index.invariant.1
    ]
