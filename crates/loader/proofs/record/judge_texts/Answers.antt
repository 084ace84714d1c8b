-- Proofs of the goals of `judge_texts` (`record`).
use Rattle.std.proofs.Common.{◌≡◌, ℕ, List, [], ◌∷◌, length, get_or, sym, ap, ◌∙◌, arith, Some}
use Rattle.std.specs.Prelude.{slice_get, zip, Result}
use Rattle.std.proofs.lemmas.List.{length-append}
use Rattle.std.proofs.lemmas.Option.{slice_get-get_or}
use Rattle.std.proofs.lemmas.Result.{err_from_is_err_and}
use Rattle.csv.specs.Records.{fields_of}
use Rattle.meaning.specs.declared.value.Value.{Value}
use Rattle.meaning.specs.declared.table.TableFault.{TableFault}
use Rattle.meaning.specs.Records as declared
use Rattle.loader.specs.Steps.{value_of, values_of}
use Rattle.loader.proofs.Judging.{zipped, none_there, fails, goes_on, finishes, zip_short_left, zip_short_right}
use Rattle.loader.proofs.Fields.{text_there}
use Rattle.loader.proofs.Values.{values_more}
use Rattle.loader.proofs.record.judge_texts.Goals as goal

pub returns-in_err-judge_text_at-clause-read : goal.returns-in_err-judge_text_at-clause-read
returns-in_err-judge_text_at-clause-read c =
    let judge : ℕ × List ℕ → Result Value TableFault = λ p. declared.value_at c.args.row p.0 (slice_get c.args.columns.now p.0) p.1 in
    let fields = fields_of c.args.fields.now in
    let i = c.loop-i.i in
    let here = zipped c.args.order.now fields i (get_or c.args.order.now i 0) c.in-Some.field.now (slice_get-get_or c.args.order.now i 0 c.loop-i-test.true) (sym c.in-Some.ensures) in
    let p = err_from_is_err_and c.from_residual.result c.from_residual.ensures.1 in
    rw (p.1, p.2) (fails judge (values_of c.loop-i.parsed.items fields) (zip c.args.order.now fields) i (get_or c.args.order.now i 0, c.in-Some.field.now) c.in_err-judge_text_at.field-0.0 (declared.file_values c.args.columns.now c.args.order.now c.args.row fields) here c.in_err-judge_text_at.ensures c.loop-i.invariant.1)

pub loop-i-preserved : goal.loop-i-preserved
loop-i-preserved c =
    let judge : ℕ × List ℕ → Result Value TableFault = λ p. declared.value_at c.args.row p.0 (slice_get c.args.columns.now p.0) p.1 in
    let fields = fields_of c.args.fields.now in
    let i = c.loop-i.i in
    let judged = c.loop-i.parsed.items in
    let parsed = c.in_ok-judge_text_at.field-0 in
    let there : slice_get fields (length judged) ≡ Some c.in-Some.field.now = ap (slice_get fields) c.loop-i.invariant.0 ∙ sym c.in-Some.ensures in
    let here = zipped c.args.order.now fields i (get_or c.args.order.now i 0) c.in-Some.field.now (slice_get-get_or c.args.order.now i 0 c.loop-i-test.true) (sym c.in-Some.ensures) in
    rw c.in_ok-push.ensures.items (
      omega (arith, length-append judged (parsed ∷ []), c.loop-i.invariant.0),
      rw (values_more judged fields parsed c.in-Some.field.now there)
          (goes_on judge (values_of judged fields) (zip c.args.order.now fields) i (get_or c.args.order.now i 0, c.in-Some.field.now) (value_of (parsed, c.in-Some.field.now)) (declared.file_values c.args.columns.now c.args.order.now c.args.row fields) here c.in_ok-judge_text_at.ensures c.loop-i.invariant.1),
    )

pub returns-after-loop-i-clause-read : goal.returns-after-loop-i-clause-read
returns-after-loop-i-clause-read c =
    let judge : ℕ × List ℕ → Result Value TableFault = λ p. declared.value_at c.args.row p.0 (slice_get c.args.columns.now p.0) p.1 in
    let fields = fields_of c.args.fields.now in
    let left = zip_short_left c.args.order.now fields in
    finishes judge (values_of c.loop-i.parsed.items fields) (zip c.args.order.now fields) c.loop-i.i (declared.file_values c.args.columns.now c.args.order.now c.args.row fields) (omega (arith, left, c.loop-i-test.false)) c.loop-i.invariant.1

pub returns-in_default-clause-read : goal.returns-in_default-clause-read
returns-in_default-clause-read c =
    let judge : ℕ × List ℕ → Result Value TableFault = λ p. declared.value_at c.args.row p.0 (slice_get c.args.columns.now p.0) p.1 in
    let fields = fields_of c.args.fields.now in
    let i = c.loop-i.i in
    let right = zip_short_right c.args.order.now fields in
    finishes judge (values_of c.loop-i.parsed.items fields) (zip c.args.order.now fields) i (declared.file_values c.args.columns.now c.args.order.now c.args.row fields) (omega (arith, right, none_there fields i (sym c.in_default.ensures))) c.loop-i.invariant.1

pub judge_text_at-requires : goal.judge_text_at-requires
judge_text_at-requires c = text_there (fields_of c.args.fields.now) c.loop-i.i c.in-Some.field.now c.requires (sym c.in-Some.ensures)
