-- Proofs of the goals of `withdraw` (`changing`).
use Rattle.std.proofs.Common.{◌≡◌, ℕ, List, true, length, slice_set, replicate, OnOk, Ok, Err, refl, sym, ap, ◌∙◌, subst, arith}
use Rattle.std.specs.Prelude.{Result}
use Rattle.std.specs.Cmp.Lexicographic.{pointwise}
use Rattle.std.proofs.lemmas.Result.{on_ok_weaker}
use Rattle.meaning.specs.Said.{Cell}
use Rattle.meaning.specs.declared.answer.Cell.TheVariants.{Nothing, Conflict}
use Rattle.gathering.specs.Fitted.{AreFitting}
use Rattle.gathering.specs.Gathering.{Rises, join_states}
use Rattle.gathering.specs.Merging.{all_groups}
use Rattle.gathering.specs.Totals.{handed_at_join, is_delta, merges_of}
use Rattle.gathering.proofs.Deltas.{alone}
use Rattle.gathering.proofs.LiveTotals.{only_deltas, only_fits, only_handed, only_joined}
use Rattle.gathering.proofs.changing.withdraw.Goals as goal

both_ok : {T E A B C : Type 0} (r : Result T E) → (A → B → C) → OnOk r A → OnOk r B → OnOk r C
both_ok (Ok x) f p q = f p q
both_ok (Err e) f p q = tt

pub change_all-requires-clause-deltas : goal.change_all-requires-clause-deltas
change_all-requires-clause-deltas c =
    let cells = c.args.cells.now.items in
    let is : c.in_ok-deltas.deltas.items ≡ alone (length cells) c.args.k Conflict =
    c.in_ok-deltas.ensures ∙ ap (λ n. slice_set (replicate n Nothing) c.args.k Conflict) (c.len.ensures ∙ omega (arith, c.args.cells.now.ok.0)) in
    record {
      each = subst (λ (ds : List Cell). pointwise is_delta cells ds ≡ true) (sym is)
          (only_deltas c.args.job.now cells c.args.k Conflict c.requires.within c.requires.delta);
    }

pub change_all-requires-clause-fitting : goal.change_all-requires-clause-fitting
change_all-requires-clause-fitting c =
    let cells = c.args.cells.now.items in
    let is : c.in_ok-deltas.deltas.items ≡ alone (length cells) c.args.k Conflict =
    c.in_ok-deltas.ensures ∙ ap (λ n. slice_set (replicate n Nothing) c.args.k Conflict) (c.len.ensures ∙ omega (arith, c.args.cells.now.ok.0)) in
    subst (λ (ds : List Cell). AreFitting c.args.job.now.plan c.args.job.now.cut (join_states cells ds)) (sym is)
    (only_fits c.args.job.now cells c.args.k Conflict c.requires.within c.requires.delta refl c.requires.held.gather.fitting)

pub returns-clause-cells : goal.returns-clause-cells
returns-clause-cells c =
    let cells = c.args.cells.now.items in
    let is : c.in_ok-deltas.deltas.items ≡ alone (length cells) c.args.k Conflict =
    c.in_ok-deltas.ensures ∙ ap (λ n. slice_set (replicate n Nothing) c.args.k Conflict) (c.len.ensures ∙ omega (arith, c.args.cells.now.ok.0)) in
    on_ok_weaker c.change_all.result (λ e. e ∙ ap (join_states cells) is ∙ only_joined c.args.job.now cells c.args.k Conflict c.requires.within c.requires.delta) c.change_all.ensures.cells

pub returns-clause-counted : goal.returns-clause-counted
returns-clause-counted c =
    let cells = c.args.cells.now.items in
    let is : c.in_ok-deltas.deltas.items ≡ alone (length cells) c.args.k Conflict =
    c.in_ok-deltas.ensures ∙ ap (λ n. slice_set (replicate n Nothing) c.args.k Conflict) (c.len.ensures ∙ omega (arith, c.args.cells.now.ok.0)) in
    both_ok c.change_all.result
    (λ e more. subst (λ (most : ℕ). Rises 0 most (merges_of c.args.totals.now) (merges_of c.change_all.new.totals))
    (ap (handed_at_join cells) is ∙ only_handed c.args.job.now cells c.args.k c.requires.within
    ∙ ap (λ (cs : List Cell). length (all_groups cs))
    (sym (e ∙ ap (join_states cells) is ∙ only_joined c.args.job.now cells c.args.k Conflict c.requires.within c.requires.delta))) more)
    c.change_all.ensures.cells c.change_all.ensures.counted
