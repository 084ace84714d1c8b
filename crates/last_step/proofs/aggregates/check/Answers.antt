-- Proofs of the goals of `check` (`aggregates`).
use Rattle.std.proofs.Common.{◌≤◌, ◌<◌, length, rules, ap, ◌∙◌, get_or, sym, subst}
use Rattle.meaning.specs.declared.plan.Aggregate.{Aggregate}
use Rattle.meaning.specs.Aggregate.{no_statistics, value}
use Rattle.last_step.proofs.Judging.{from_index, zip_more, zip_end_left}
use Rattle.last_step.proofs.Checked.{judged_ends, judged_more}
use Rattle.last_step.proofs.GroupsRead.{at_itself}
use Rattle.last_step.proofs.aggregates.check.Goals as goal

pub loop-k-preserved : goal.loop-k-preserved
loop-k-preserved c = λ d.
    let k = c.loop-k.k in
    let aggs = c.args.aggs.now in
    let states = (get_or c.args.groups.now c.args.group d).states in
    let s = get_or states k no_statistics in
    let below : k < length states = subst (λ n. k < n) (sym (c.requires.widths d)) c.loop-k-test.true in
    let here = zip_more aggs states k c.index-aggs-k.result s (from_index aggs k c.index-aggs-k.result c.loop-k-test.true c.index-aggs-k.is) (from_index states k s below (at_itself states k no_statistics below)) in
    judged_more aggs states k c.index-aggs-k.result s here (c.loop-k.invariant d) c.in_ok-value_at.field-0 (ap (λ (a : Aggregate). value a.kind s) c.index-aggs-k.is ∙ c.in_ok-value_at.ensures.value d) c.in_ok-value_at.ensures.fits

pub returns : goal.returns
returns c = λ d.
    let aggs = c.args.aggs.now in
    let states = (get_or c.args.groups.now c.args.group d).states in
    let short : length aggs ≤ c.loop-k.k = search rules in
    judged_ends aggs states c.loop-k.k (zip_end_left aggs states c.loop-k.k short) (c.loop-k.invariant d)
