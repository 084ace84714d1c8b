-- Proofs of the goals of `take_fields` (`reading`).
use Rattle.std.proofs.Common.{◌<◌, false, get_or, length, arith, refl, subst, sym, ◌∙◌}
use Rattle.std.proofs.lemmas.List.{get_or_default, length-set}
use Rattle.csv.specs.Records.{fields_of}
use Rattle.init.proofs.Showing.{IsTaken, all_taken, none_taken, one_taken}
use Rattle.init.proofs.reading.take_fields.Goals as goal

pub loop-index-init : goal.loop-index-init
loop-index-init c = (refl, λ rows is. subst (IsTaken (length c.args.findings.now) 0 rows (fields_of c.args.row.now)) (sym is) (none_taken (length c.args.findings.now) rows (fields_of c.args.row.now)))

pub returns-clause-taken : goal.returns-clause-taken
returns-clause-taken c = λ rows is.
    all_taken (length c.args.findings.now) c.loop-index.index rows (fields_of c.args.row.now) c.loop-index.findings (omega (arith, c.loop-index-test.false)) (c.loop-index.invariant.1 rows is)

pub loop-index-preserved : goal.loop-index-preserved
loop-index-preserved c =
    let findings = c.loop-index.findings in
    let index = c.loop-index.index in
    let row = fields_of c.args.row.now in
    let x = get_or findings index (record { integers = false; nulls = false }) in
    let below : index < length findings = omega (arith, c.loop-index-test.true, c.loop-index.invariant.0) in (
      length-set findings index c.with_field_at.result ∙ c.loop-index.invariant.0,
      λ rows is. one_taken (length c.args.findings.now) index rows row findings c.with_field_at.result x (omega (arith, c.loop-index-test.true)) (c.loop-index.invariant.1 rows is) (get_or_default findings index (record { integers = false; nulls = false }) x below) c.with_field_at.ensures,
    )
