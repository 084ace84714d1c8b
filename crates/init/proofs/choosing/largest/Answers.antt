-- Proofs of the goals of `largest` (`choosing`).
use Rattle.std.proofs.Common.{All, Bor, ◌+◌, ◌≤◌, ap, arith, subst, sym}
use Rattle.std.proofs.lemmas.List.{take_all}
use Rattle.init.specs.declared.listing.CsvFile.{CsvFile}
use Rattle.init.proofs.Largest.{IsFirst, IsMost, next_larger, no_larger}
use Rattle.init.proofs.choosing.largest.Goals as goal
use Rattle.init.proofs.choosing.largest.Goals.{then-file-most, else-file-most}

pub loop-file-preserved : goal.loop-file-preserved
loop-file-preserved c =
    let files = c.args.files.now in
    let i = c.loop-file.file-index in
    let file = c.file-item.result in
    let most = c.loop-file.most.now in
    elim c.if-file-most.branch [
      | then-file-most w ↦
          let same = ap (λ (b : Bor CsvFile). b.now) w.most-is in
          let p = subst (λ (m : CsvFile). IsFirst files m × IsMost files (i + 1) m) (sym same) (next_larger files i most file c.loop-file-test.true c.file-item.is c.loop-file.invariant.largest w.if-file-most.true) in
          record { first = p.0; largest = p.1 }
      | else-file-most w ↦
          let same = ap (λ (b : Bor CsvFile). b.now) w.most-is in
          record {
            first = subst (IsFirst files) (sym same) c.loop-file.invariant.first;
            largest = subst (IsMost files (i + 1)) (sym same) (no_larger files i most file c.loop-file-test.true c.file-item.is c.loop-file.invariant.largest w.if-file-most.false);
          }
    ]

pub returns : goal.returns
returns c =
    let files = c.args.files.now in
    let most = c.loop-file.most.now in
    let (k, within, there, first) = c.loop-file.invariant.first in
    record {
      index = k;
      file = most;
      within = within;
      there = there;
      named = c.as_str.ensures.value;
      first = first;
      largest = subst (λ xs. All (λ (other : CsvFile). other.bytes ≤ most.bytes) xs) (take_all c.loop-file.file-index files (omega (arith, c.loop-file-test.false))) c.loop-file.invariant.largest;
    }
