-- Proofs of the goals of `Cells::absorb` (`cells`).
use Rattle.std.proofs.Common.{◌≡◌, List, sym, subst}
use Rattle.meaning.specs.Said.{Answer, Cell}
use Rattle.partial_codec.specs.Answer.{Spells}
use Rattle.gathering.specs.Gathering.{GatherSpec, IsGather, cells_with}
use Rattle.gathering.proofs.Held.{below, held_with}
use Rattle.gathering.proofs.cells.Cells.absorb.Goals as goal

pub join_at-requires : goal.join_at-requires
join_at-requires c =
    let taken : Answer = record { k = c.in_ok-k.field-0.k; body = c.in_ok-k.field-0.body } in
    below c.self.inside.job c.self.inside.cells.items taken c.self.invariant.each c.in_ok-k.ensures.spelled.fits

pub invariant_of-self : goal.invariant_of-self
invariant_of-self c =
    let taken : Answer = record { k = c.in_ok-k.field-0.k; body = c.in_ok-k.field-0.body } in
    let job = c.self.inside.job in
    let cells = c.self.inside.cells.items in
    subst (λ (cs : List Cell). IsGather (record { job = job; cells = cs; merges = 0 })) (sym c.join_at.ensures)
    (held_with (record { job = job; cells = cells; merges = 0 }) taken c.self.invariant c.in_ok-k.ensures.spelled.fits)

pub returns-clause-takes : goal.returns-clause-takes
returns-clause-takes c =
    let taken : Answer = record { k = c.in_ok-k.field-0.k; body = c.in_ok-k.field-0.body } in
    subst (λ (g : GatherSpec). (a : Answer) × Spells g.job c.args.bytes.now a × (c.join_at.new.cells.items ≡ cells_with g.cells a)) c.self.view_is
    (taken, c.in_ok-k.ensures.spelled, c.join_at.ensures)
