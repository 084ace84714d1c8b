-- Proofs of the goals of `all_deltas` (`joining`).
use Rattle.std.proofs.Common.{◌≡◌, suc, ◌+◌, List, [], ◌∷◌, ◌++◌, take, ap, sym, ◌∙◌, arith}
use Rattle.std.proofs.lemmas.List.{take_all}
use Rattle.meaning.specs.Said.{Cell}
use Rattle.gathering.specs.Joining.{delta_of, all_deltas}
use Rattle.gathering.proofs.Joined.{delta_next, length-delta}
use Rattle.gathering.proofs.joining.all_deltas.Goals as goal

pub loop-k-preserved : goal.loop-k-preserved
loop-k-preserved c =
    let k = c.loop-k.k in
    let own = c.args.own.now in
    let others = c.args.others.now in
    let a = c.index-own-k.result in
    let b = c.index-others-k.result in
    let next : suc k ≡ k + 1 = omega arith in
    let pushed : c.push.new.self.items ≡ c.loop-k.delta.items ++ c.in_ok-delta_of.field-0 ∷ [] = search (c.in_ok-push.ensures) in
    let here : c.in_ok-delta_of.field-0 ≡ delta_of a b = search (c.in_ok-delta_of.ensures) in
    pushed ∙ ap (λ (cs : List Cell). cs ++ c.in_ok-delta_of.field-0 ∷ []) c.loop-k.invariant
    ∙ ap (λ (d : Cell). take k (all_deltas own others) ++ d ∷ []) here
    ∙ sym (delta_next k own others a b c.loop-k-test.true (omega (arith, c.loop-k-test.true, c.requires)) c.index-own-k.is c.index-others-k.is)
    ∙ ap (λ n. take n (all_deltas own others)) next

pub returns : goal.returns
returns c =
    let long = length-delta c.args.own.now c.args.others.now c.requires in
    c.loop-k.invariant ∙ take_all c.loop-k.k (all_deltas c.args.own.now c.args.others.now) (omega (arith, long, c.loop-k-test.false))
