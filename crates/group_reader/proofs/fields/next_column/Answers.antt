-- Proofs of the goals of `next_column` (`fields`).
use Rattle.std.proofs.Common.{rules, ◌≡◌, true, false, refl}
use Rattle.std.proofs.lemmas.Result.{err_from_is_err_and}
use Rattle.std.specs.Prelude.{not}
use Rattle.fragment_file.specs.FragmentReading.{column_at, is_named, name_at}
use Rattle.group_reader.specs.Fields.{flag_at, type_at}
use Rattle.group_reader.proofs.HeaderSteps.{column_flag, column_name, column_new, column_start, column_type}
use Rattle.group_reader.proofs.Telling.{behind_err, behind_ok, begun, fails_at, finishes, formed_not, formed_test, passes, rejects, step_on}
use Rattle.group_reader.proofs.fields.next_column.Goals as goal

pub returns-in_err-name-clause-read : goal.returns-in_err-name-clause-read
returns-in_err-name-clause-read g c =
    let earlier = c.args.earlier.now in
    let p = err_from_is_err_and c.from_residual.result c.from_residual.ensures.1 in
    rw (p.1, p.2) (fails_at name_at (column_name earlier) _ (begun g.R.Read.remaining c.args.source.now (column_at earlier)) (column_start earlier) c.in_err-name.ensures.read)

pub returns-then-is_named-clause-read : goal.returns-then-is_named-clause-read
returns-then-is_named-clause-read g c =
    let earlier = c.args.earlier.now in
    let name = c.in_ok-name.name in
    let s1 = step_on name_at (column_name earlier) name (begun g.R.Read.remaining c.args.source.now (column_at earlier)) (column_start earlier) c.in_ok-name.ensures.read in
    let wrong : not (is_named name earlier) ≡ false = search rules in
    rejects _ s1 (λ rest. behind_err column_new (formed_not _ (name, rest) wrong))

pub returns-in_err-col_type-clause-read : goal.returns-in_err-col_type-clause-read
returns-in_err-col_type-clause-read g c =
    let earlier = c.args.earlier.now in
    let name = c.in_ok-name.name in
    let s1 = step_on name_at (column_name earlier) name (begun g.R.Read.remaining c.args.source.now (column_at earlier)) (column_start earlier) c.in_ok-name.ensures.read in
    let k1 : not (is_named name earlier) ≡ true = search rules in
    let s2 = passes (λ rest. column_new (name, rest)) s1 (λ rest. behind_ok column_new (formed_test _ (name, rest) k1)) in
    let p = err_from_is_err_and c.from_residual-in_err-col_type.result c.from_residual-in_err-col_type.ensures.1 in
    rw (p.1, p.2) (fails_at type_at (column_type name) _ s2 (λ rest. refl) c.in_err-col_type.ensures)

pub returns-in_err-nullable-clause-read : goal.returns-in_err-nullable-clause-read
returns-in_err-nullable-clause-read g c =
    let earlier = c.args.earlier.now in
    let name = c.in_ok-name.name in
    let s1 = step_on name_at (column_name earlier) name (begun g.R.Read.remaining c.args.source.now (column_at earlier)) (column_start earlier) c.in_ok-name.ensures.read in
    let k1 : not (is_named name earlier) ≡ true = search rules in
    let s2 = passes (λ rest. column_new (name, rest)) s1 (λ rest. behind_ok column_new (formed_test _ (name, rest) k1)) in
    let col_type = c.in_ok-col_type.col_type in
    let s3 = step_on type_at (column_type name) col_type s2 (λ rest. refl) c.in_ok-col_type.ensures in
    let p = err_from_is_err_and c.from_residual-in_err-nullable.result c.from_residual-in_err-nullable.ensures.1 in
    rw (p.1, p.2) (fails_at flag_at (column_flag name col_type) _ s3 (λ rest. refl) c.in_err-nullable.ensures)

pub returns-clause-read : goal.returns-clause-read
returns-clause-read g c =
    let earlier = c.args.earlier.now in
    let name = c.in_ok-name.name in
    let s1 = step_on name_at (column_name earlier) name (begun g.R.Read.remaining c.args.source.now (column_at earlier)) (column_start earlier) c.in_ok-name.ensures.read in
    let k1 : not (is_named name earlier) ≡ true = search rules in
    let s2 = passes (λ rest. column_new (name, rest)) s1 (λ rest. behind_ok column_new (formed_test _ (name, rest) k1)) in
    let col_type = c.in_ok-col_type.col_type in
    let s3 = step_on type_at (column_type name) col_type s2 (λ rest. refl) c.in_ok-col_type.ensures in
    let s4 = step_on flag_at (column_flag name col_type) c.in_ok-nullable.nullable s3 (λ rest. refl) c.in_ok-nullable.ensures in
    finishes _ s4 (λ rest. refl)
