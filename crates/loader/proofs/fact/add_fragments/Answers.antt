-- Proofs of the goals of `add_fragments` (`fact`).
use Rattle.std.proofs.Common.{◌∙◌, List, refl, subst}
use Rattle.std.proofs.lemmas.Result.{err_from_is_err_and}
use Rattle.meaning.specs.declared.catalog.Column.{Column}
use Rattle.loader.specs.Handing.{IsNextOf, declared_in, lengths_ahead}
use Rattle.loader.proofs.Shapes.{all_shaped, none_shaped, one_shaped}
use Rattle.loader.proofs.Handing.{first_handed, no_more, one_more, one_refused}
use Rattle.loader.proofs.fact.add_fragments.Goals as goal

pub loop-fragment-init : goal.loop-fragment-init
loop-fragment-init g c = (refl, none_shaped (declared_in c.args.reader.now) (lengths_ahead c.args.reader.now) c.args.fragments.now.items c.requires, λ meant coming. first_handed g.R.Read.remaining meant c.args.fragments.now.items c.args.reader.now c.requires coming)

pub returns-in_err-fragment-clause-loaded : goal.returns-in_err-fragment-clause-loaded
returns-in_err-fragment-clause-loaded g c meant coming =
    let p = err_from_is_err_and c.from_residual.result c.from_residual.ensures.1 in
    rw (p.1, p.2) (one_refused g.R.Read.remaining meant c.loop-fragment.fragments.items c.loop-fragment.reader c.next_fragment.new.self (c.loop-fragment.invariant.2 meant coming) c.in_err-fragment.field-0.0 c.in_err-fragment.ensures.taken)

pub loop-fragment-preserved : goal.loop-fragment-preserved
loop-fragment-preserved g c = (
  c.next_fragment.ensures.declared ∙ c.loop-fragment.invariant.0,
  one_shaped (declared_in c.args.reader.now) (lengths_ahead c.args.reader.now) (lengths_ahead c.loop-fragment.reader) (lengths_ahead c.next_fragment.new.self) c.loop-fragment.fragments.items c.push.new.self.items c.in_ok-fragment.field-0 c.in-Some.fragment c.loop-fragment.invariant.1 c.in-Some.is c.in_ok-push.ensures.items
      (subst (λ (ds : List Column). IsNextOf ds (lengths_ahead c.loop-fragment.reader) (lengths_ahead c.next_fragment.new.self) c.in_ok-fragment.field-0) c.loop-fragment.invariant.0 c.in_ok-fragment.ensures.next),
  λ meant coming. one_more g.R.Read.remaining meant c.loop-fragment.fragments.items c.loop-fragment.reader c.next_fragment.new.self (c.loop-fragment.invariant.2 meant coming)
      c.in_ok-fragment.field-0 c.in-Some.fragment c.push.new.self.items c.in-Some.is c.in_ok-push.ensures.items c.in_ok-fragment.ensures.taken,
)

pub returns-clause-loaded : goal.returns-clause-loaded
returns-clause-loaded g c meant coming =
    no_more g.R.Read.remaining meant c.loop-fragment.fragments.items c.loop-fragment.reader c.next_fragment.new.self (c.loop-fragment.invariant.2 meant coming)
    c.in_ok-fragment.field-0 c.in_default.not-Some c.in_ok-fragment.ensures.taken

pub returns-clause-declared : goal.returns-clause-declared
returns-clause-declared g c =
    all_shaped (declared_in c.args.reader.now) (lengths_ahead c.args.reader.now) (lengths_ahead c.loop-fragment.reader) (lengths_ahead c.next_fragment.new.self) c.loop-fragment.fragments.items c.in_ok-fragment.field-0 c.loop-fragment.invariant.1 c.in_default.not-Some
    (subst (λ (ds : List Column). IsNextOf ds (lengths_ahead c.loop-fragment.reader) (lengths_ahead c.next_fragment.new.self) c.in_ok-fragment.field-0) c.loop-fragment.invariant.0 c.in_ok-fragment.ensures.next)
