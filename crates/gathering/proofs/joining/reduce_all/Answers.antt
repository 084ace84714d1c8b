-- Proofs of the goals of `reduce_all` (`joining`).
use Rattle.std.proofs.Common.{◌≡◌, suc, ◌+◌, ◌++◌, List, take, drop, slice_set, slice_index_or, ap, ◌∙◌, arith}
use Rattle.meaning.specs.Said.{Cell}
use Rattle.meaning.specs.declared.answer.Cell.TheVariants.{Nothing}
use Rattle.gathering.specs.Joining.{delta_of, all_deltas}
use Rattle.gathering.proofs.Joined.{reduced_next, reduced_all}
use Rattle.gathering.proofs.joining.reduce_all.Goals as goal

pub loop-k-preserved : goal.loop-k-preserved
loop-k-preserved c =
    let k = c.loop-k.k in
    let own = c.args.own.now in
    let others = c.args.others.now.items in
    let a = c.index-own-k.result in
    let next : suc k ≡ k + 1 = omega arith in
    c.reduce_at.ensures
    ∙ ap (λ (cs : List Cell). slice_set cs k (delta_of a (slice_index_or cs k Nothing))) c.loop-k.invariant
    ∙ reduced_next k own others a c.loop-k-test.true c.requires c.index-own-k.is
    ∙ ap (λ n. take n (all_deltas own others) ++ drop n others) next

pub returns : goal.returns
returns c = c.loop-k.invariant ∙ reduced_all c.loop-k.k c.args.own.now c.args.others.now.items c.requires c.loop-k-test.false
