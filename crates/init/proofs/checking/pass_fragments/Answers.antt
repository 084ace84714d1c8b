-- Proofs of the goals of `pass_fragments` (`checking`).
use Rattle.std.proofs.Common.{[], ◌∷◌, ◌++◌, refl}
use Rattle.std.proofs.lemmas.Result.{err_from_is_err_and}
use Rattle.loader.proofs.Handing.{first_handed, no_more, one_more, one_refused}
use Rattle.init.proofs.checking.pass_fragments.Goals as goal

pub loop-fragment-init : goal.loop-fragment-init
loop-fragment-init g c = λ meant coming. ([], first_handed g.R.Read.remaining meant [] c.args.reader.now refl coming)

pub loop-fragment-preserved : goal.loop-fragment-preserved
loop-fragment-preserved g c = λ meant coming.
    let (done, handed) = c.loop-fragment.invariant meant coming in
    let more = done ++ c.in-Some.fragment ∷ [] in
    (more, one_more g.R.Read.remaining meant done c.loop-fragment.reader c.next_fragment.new.self handed c.in_ok-fragment.field-0 c.in-Some.fragment more c.in-Some.is refl c.in_ok-fragment.ensures.taken)

pub returns-clause-passed : goal.returns-clause-passed
returns-clause-passed g c = λ meant coming.
    let (done, handed) = c.loop-fragment.invariant meant coming in
    (done, no_more g.R.Read.remaining meant done c.loop-fragment.reader c.next_fragment.new.self handed c.in_ok-fragment.field-0 c.in_default.not-Some c.in_ok-fragment.ensures.taken)

pub returns-in_err-fragment-clause-refused : goal.returns-in_err-fragment-clause-refused
returns-in_err-fragment-clause-refused g c =
    let p = err_from_is_err_and c.from_residual.result c.from_residual.ensures.1 in
    rw (p.1, p.2) (λ meant coming.
    let (done, handed) = c.loop-fragment.invariant meant coming in
    one_refused g.R.Read.remaining meant done c.loop-fragment.reader c.next_fragment.new.self handed c.in_err-fragment.field-0.0 c.in_err-fragment.ensures.taken)
