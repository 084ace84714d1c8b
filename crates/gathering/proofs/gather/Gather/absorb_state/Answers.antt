-- Proofs of the goals of `Gather::absorb_state` (`gather`).
use Rattle.std.specs.Cmp.Lexicographic.{pointwise}
use Rattle.std.proofs.Common.{◌≡◌, List, true, refl, sym, ap, ◌∙◌, subst}
use Rattle.meaning.specs.Said.{Cell}
use Rattle.partial_codec.specs.State.{SpellsState}
use Rattle.gathering.specs.Fitted.{AreFitting}
use Rattle.gathering.specs.Gathering.{GatherSpec, Joins, Rises, join_states}
use Rattle.gathering.specs.Joining.{all_deltas}
use Rattle.gathering.specs.Totals.{handed_at_join, is_delta, merges_of}
use Rattle.gathering.proofs.Deltas.{deltas_are}
use Rattle.gathering.proofs.Joined.{AreFitting-join, join_states-delta}
use Rattle.gathering.proofs.StateFiles.{held_state}
use Rattle.gathering.proofs.gather.Gather.absorb_state.Goals as goal

pub change_all-requires-clause-deltas : goal.change_all-requires-clause-deltas
change_all-requires-clause-deltas c =
    let own = c.self.inside.cells.items in
    let others = c.in_ok-deltas.deltas.items in
    let is : c.reduce_all.new.others.items ≡ all_deltas own others = c.reduce_all.ensures ∙ ap (λ (cs : List Cell). all_deltas cs others) c.deref.ensures.value in
    record {
      each = subst (λ (ds : List Cell). pointwise is_delta own ds ≡ true) (sym is)
          (deltas_are own others (c.self.invariant.gather.each ∙ sym c.in_ok-deltas.ensures.spelled.fits.fragments));
    }

pub change_all-requires-clause-fitting : goal.change_all-requires-clause-fitting
change_all-requires-clause-fitting c =
    let job = c.self.inside.job in
    let own = c.self.inside.cells.items in
    let others = c.in_ok-deltas.deltas.items in
    let is : c.reduce_all.new.others.items ≡ all_deltas own others = c.reduce_all.ensures ∙ ap (λ (cs : List Cell). all_deltas cs others) c.deref.ensures.value in
    subst (AreFitting job.plan job.cut) (sym (ap (join_states own) is ∙ join_states-delta own others))
    (AreFitting-join job.plan job.cut own others c.self.invariant.gather.fitting (held_state job others c.in_ok-deltas.ensures.spelled.fits))

pub returns-clause-joins : goal.returns-clause-joins
returns-clause-joins c =
    let own = c.self.inside.cells.items in
    let others = c.in_ok-deltas.deltas.items in
    let is : c.reduce_all.new.others.items ≡ all_deltas own others = c.reduce_all.ensures ∙ ap (λ (cs : List Cell). all_deltas cs others) c.deref.ensures.value in
    let after : GatherSpec = record { job = c.self.inside.job; cells = c.change_all.new.cells.items; merges = merges_of c.change_all.new.totals } in
    subst (λ (g : GatherSpec). (cells : List Cell) × SpellsState g.job c.args.bytes.now cells × Joins g after cells) c.self.view_is (
      others,
      c.in_ok-deltas.ensures.spelled,
      record {
        job = refl;
        cells = c.in_ok-change_all.ensures.cells ∙ ap (join_states own) is ∙ join_states-delta own others;
        counted = subst (λ (ds : List Cell). Rises 0 (handed_at_join own ds) (merges_of c.self.inside.totals) (merges_of c.change_all.new.totals)) is c.in_ok-change_all.ensures.counted;
      },
    )
