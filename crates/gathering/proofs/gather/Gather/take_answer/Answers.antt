-- Proofs of the goals of `Gather::take_answer` (`gather`).
use Rattle.std.proofs.Common.{◌≡◌, ℕ, ◌<◌, List, [], ◌∷◌, ◌++◌, length, slice_set, refl, sym, ap, ◌∙◌, subst}
use Rattle.meaning.specs.Said.{Answer, Cell}
use Rattle.meaning.specs.declared.answer.Cell.TheVariants.{Nothing, One}
use Rattle.meaning.specs.Gather.{joined}
use Rattle.partial_codec.specs.Answer.{Fits, Spells}
use Rattle.gathering.specs.Gathering.{GatherSpec, Rises, Takes, absorbed_as, cell_at, least_handed}
use Rattle.gathering.specs.Joining.{delta_of}
use Rattle.gathering.specs.Merging.{groups_in}
use Rattle.gathering.specs.Totals.{behind, merges_of, most_at_change}
use Rattle.gathering.proofs.Held.{behind_delta, below, below_cut, handed_least, handed_most, one_more, same_at}
use Rattle.gathering.proofs.gather.Gather.take_answer.Goals as goal

pub returns-clause-takes : goal.returns-clause-takes
returns-clause-takes c =
    let job = c.self.inside.job in
    let cells = c.self.inside.cells.items in
    let taken = c.args.answer in
    let k = taken.k in
    let body = taken.body in
    let fits : Fits job taken = subst (λ (g : GatherSpec). Fits g.job taken) (sym c.self.view_is) c.requires in
    let within : k < length cells = below job cells taken c.self.invariant.gather.each fits in
    let held : c.index-held.result.now ≡ cell_at cells k = c.index-held.ensures ∙ same_at cells k c.index-held.result.now Nothing within in
    let delta : c.delta_with-delta.result ≡ delta_of (cell_at cells k) (One body) = c.delta_with-delta.ensures ∙ ap (λ (h : Cell). delta_of h (One body)) held in
    let now = c.change.new.cells.items in
    let after : GatherSpec = record { job = job; cells = now; merges = merges_of c.change.new.totals } in
    let old = merges_of c.self.inside.totals in
    let new = merges_of c.change.new.totals in
    subst (λ (g : GatherSpec). (bytes : List ℕ) → Spells g.job bytes taken → Takes g after bytes c.judged-absorbed.result.0) c.self.view_is
    (λ bytes spelled. record {
      answer = taken;
      spelled = spelled;
      job = refl;
      cells = c.in_ok-change.ensures.cells ∙ ap (λ (d : Cell). slice_set cells k (behind (cell_at cells k) d)) delta ∙ ap (slice_set cells k) (behind_delta (cell_at cells k) (One body));
      classified = c.judged-absorbed.ensures.said ∙ ap (λ (h : Cell). absorbed_as h k body) held;
      counted =
          subst (λ (most : ℕ). Rises (least_handed (cell_at cells k) body) most old new) (handed_most (cell_at cells k) body now)
          (subst (λ (least : ℕ). Rises least (most_at_change (delta_of (cell_at cells k) (One body)) now) old new) (handed_least (cell_at cells k) body)
          (subst (λ (d : Cell). Rises (length (groups_in d)) (most_at_change d now) old new) delta c.in_ok-change.ensures.counted));
    })

pub returns-clause-joins : goal.returns-clause-joins
returns-clause-joins c =
    let job = c.self.inside.job in
    let cells = c.self.inside.cells.items in
    let taken = c.args.answer in
    let k = taken.k in
    let body = taken.body in
    let fits : Fits job taken = subst (λ (g : GatherSpec). Fits g.job taken) (sym c.self.view_is) c.requires in
    let within : k < length cells = below job cells taken c.self.invariant.gather.each fits in
    let held : c.index-held.result.now ≡ cell_at cells k = c.index-held.ensures ∙ same_at cells k c.index-held.result.now Nothing within in
    let delta : c.delta_with-delta.result ≡ delta_of (cell_at cells k) (One body) = c.delta_with-delta.ensures ∙ ap (λ (h : Cell). delta_of h (One body)) held in
    subst (λ (g : GatherSpec). (answers : List Answer) → g.cells ≡ joined g.job.cut answers → c.change.new.cells.items ≡ joined g.job.cut (answers ++ taken ∷ [])) c.self.view_is
    (λ answers e.
    c.in_ok-change.ensures.cells ∙ ap (λ (d : Cell). slice_set cells k (behind (cell_at cells k) d)) delta ∙ ap (slice_set cells k) (behind_delta (cell_at cells k) (One body))
    ∙ one_more job.cut answers taken cells (below_cut job taken fits) e)
