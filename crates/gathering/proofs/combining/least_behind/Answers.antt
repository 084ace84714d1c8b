-- Proofs of the goals of `least_behind` (`combining`).
use Rattle.std.proofs.Common.{◌≡◌, ◌<◌, ◌-◌, suc, length, drop, sym, ap, ◌∙◌, arith}
use Rattle.std.specs.Prelude.{Option}
use Rattle.meaning.specs.declared.answer.RowFault.{RowFault}
use Rattle.meaning.specs.Judge.{fault_cmp}
use Rattle.meaning.specs.Order.{lesser}
use Rattle.gathering.specs.Faults.{fault_in, least_fault}
use Rattle.gathering.specs.Totals.{all_behind}
use Rattle.gathering.proofs.Deltas.{behind_is, last_behind, below_behind}
use Rattle.gathering.proofs.Faults.{one_before}
use Rattle.gathering.proofs.combining.least_behind.Goals as goal

pub loop-k-init : goal.loop-k-init
loop-k-init c = record { within = omega arith; so_far = sym (last_behind c.args.cells.now c.args.deltas.now c.requires) }

pub loop-k-preserved : goal.loop-k-preserved
loop-k-preserved c =
    let cells = c.args.cells.now in
    let deltas = c.args.deltas.now in
    let k = c.loop-k.k - 1 in
    let some = c.loop-k-test.true in
    let within = c.loop-k.invariant.within in
    let next : c.loop-k.k ≡ suc k = omega (arith, some) in
    let below : k < length cells = omega (arith, some, within) in
    let item = behind_is cells deltas k c.index-cells-k.result c.index-deltas-k.result c.behind.result.now below c.requires c.index-cells-k.is c.index-deltas-k.is c.behind.ensures in
    record {
      within = omega (arith, within);
      so_far =
          c.earlier-least.ensures
          ∙ ap (λ (f : Option RowFault). lesser fault_cmp f c.loop-k.least) (c.fault_in.ensures ∙ ap fault_in item)
          ∙ one_before (all_behind cells deltas) k c.behind.result.now c.loop-k.least (below_behind cells deltas k below c.requires)
          (c.loop-k.invariant.so_far ∙ ap (λ n. least_fault (drop n (all_behind cells deltas))) next);
    }
