-- Proofs of the goals of `FactReader::next_fragment` (`fact`).
use Rattle.std.proofs.Common.{◌+◌, ap, refl}
use Rattle.std.proofs.lemmas.Result.{err_from_is_err_and}
use Rattle.loader.proofs.Handing.{next_handed, next_refused}
use Rattle.loader.proofs.fact.FactReader.next_fragment.Goals as goal

pub returns-in_err-fragment-clause-taken : goal.returns-in_err-fragment-clause-taken
returns-in_err-fragment-clause-taken g c meant coming =
    let p = err_from_is_err_and c.from_residual.result c.from_residual.ensures.1 in
    rw (p.1, p.2) (next_refused g.R.Read.remaining c.args.self.now (record { rows = c.fragment.new.self; ahead = c.args.self.now.ahead }) meant coming c.in-Some.length.now c.in-Some.others.now c.in-Some.ensures.cases.0 c.in_err-fragment.field-0.0 (c.in_err-fragment.ensures.taken coming.rest coming.left))

pub returns-clause-taken : goal.returns-clause-taken
returns-clause-taken g c meant coming =
    next_handed g.R.Read.remaining c.args.self.now _ meant coming c.in-Some.length.now c.in-Some.others.now c.in-Some.ensures.cases.0 c.in_ok-fragment.fragment (c.in_ok-fragment.ensures.taken coming.rest coming.left)
    c.fragment.ensures.declared (ap (λ o. o.columns.items) c.fragment.ensures.order) (ap (λ n. c.args.self.now.ahead.first + n) c.from.ensures) refl
