-- Proofs of the goals of `Gather::join` (`gather`).
use Rattle.std.specs.Cmp.Lexicographic.{pointwise}
use Rattle.std.proofs.Common.{◌≡◌, true, List, ◌++◌, refl, ap, sym, ◌∙◌, subst}
use Rattle.meaning.specs.Said.{Answer}
use Rattle.meaning.specs.Said.{Cell}
use Rattle.meaning.specs.Gather.{joined}
use Rattle.meaning_laws.proofs.Cells.{joined-append}
use Rattle.gathering.specs.Fitted.{AreFitting}
use Rattle.gathering.specs.Gathering.{GatherSpec, Joins, Rises, join_states}
use Rattle.gathering.specs.Joining.{all_deltas}
use Rattle.gathering.specs.Totals.{handed_at_join, is_delta, merges_of}
use Rattle.gathering.proofs.Deltas.{deltas_are}
use Rattle.gathering.proofs.StateFiles.{joined_fits, same_lengths}
use Rattle.gathering.proofs.Joined.{join_states-delta}
use Rattle.gathering.proofs.gather.Gather.join.Goals as goal

pub change_all-requires-clause-deltas : goal.change_all-requires-clause-deltas
change_all-requires-clause-deltas c =
    let own = c.self.inside.cells.items in
    let others = c.args.other.now.cells in
    let before : GatherSpec = record { job = c.self.inside.job; cells = own; merges = merges_of c.self.inside.totals } in
    let found : c.is_same_job.result ≡ true = search (c.if-not-is_same_job.false) in
    let same : c.self.inside.job ≡ c.args.other.now.job = c.is_same_job.ensures.0 found ∙ c.job.ensures.value in
    let is : c.in_ok-deltas.deltas.items ≡ all_deltas own others = c.in_ok-deltas.ensures ∙ (λ i. all_deltas (c.deref.ensures.value i) (c.cells.ensures.value i)) in
    record {
      each = subst (λ (ds : List Cell). pointwise is_delta own ds ≡ true) (sym is)
          (deltas_are own others (same_lengths before c.args.other.now c.self.invariant.gather c.cells.ensures.sound same));
    }

pub change_all-requires-clause-fitting : goal.change_all-requires-clause-fitting
change_all-requires-clause-fitting c =
    let job = c.self.inside.job in
    let own = c.self.inside.cells.items in
    let others = c.args.other.now.cells in
    let before : GatherSpec = record { job = job; cells = own; merges = merges_of c.self.inside.totals } in
    let found : c.is_same_job.result ≡ true = search (c.if-not-is_same_job.false) in
    let same : job ≡ c.args.other.now.job = c.is_same_job.ensures.0 found ∙ c.job.ensures.value in
    let is : c.in_ok-deltas.deltas.items ≡ all_deltas own others = c.in_ok-deltas.ensures ∙ (λ i. all_deltas (c.deref.ensures.value i) (c.cells.ensures.value i)) in
    subst (AreFitting job.plan job.cut) (sym (ap (join_states own) is ∙ join_states-delta own others))
    (joined_fits before c.args.other.now c.self.invariant.gather c.cells.ensures.sound same)

pub returns-clause-joins : goal.returns-clause-joins
returns-clause-joins c =
    let own = c.self.inside.cells.items in
    let others = c.args.other.now.cells in
    let is : c.in_ok-deltas.deltas.items ≡ all_deltas own others = c.in_ok-deltas.ensures ∙ (λ i. all_deltas (c.deref.ensures.value i) (c.cells.ensures.value i)) in
    let after : GatherSpec = record { job = c.self.inside.job; cells = c.change_all.new.cells.items; merges = merges_of c.change_all.new.totals } in
    subst (λ (g : GatherSpec). Joins g after others) c.self.view_is
    (record {
      job = refl;
      cells = c.in_ok-change_all.ensures.cells ∙ ap (join_states own) is ∙ join_states-delta own others;
      counted = subst (λ (ds : List Cell). Rises 0 (handed_at_join own ds) (merges_of c.self.inside.totals) (merges_of c.change_all.new.totals)) is c.in_ok-change_all.ensures.counted;
    })

pub returns-clause-together : goal.returns-clause-together
returns-clause-together c =
    let own = c.self.inside.cells.items in
    let others = c.args.other.now.cells in
    let is : c.in_ok-deltas.deltas.items ≡ all_deltas own others = c.in_ok-deltas.ensures ∙ (λ i. all_deltas (c.deref.ensures.value i) (c.cells.ensures.value i)) in
    subst (λ (g : GatherSpec). (mine theirs : List Answer) → g.cells ≡ joined g.job.cut mine → others ≡ joined g.job.cut theirs → c.change_all.new.cells.items ≡ joined g.job.cut (mine ++ theirs)) c.self.view_is
    (λ mine theirs left right.
    c.in_ok-change_all.ensures.cells ∙ ap (join_states own) is ∙ join_states-delta own others
    ∙ (λ i. join_states (left i) (right i)) ∙ sym (joined-append c.self.inside.job.cut mine theirs))
