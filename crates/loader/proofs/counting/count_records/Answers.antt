-- Proofs of the goals of `count_records` (`counting`).
use Rattle.std.proofs.Common.{ℕ, length, subst, sym}
use Rattle.csv.specs.Reading.{strip_bom}
use Rattle.loader.specs.Counting.{GoesOn}
use Rattle.loader.specs.Source.{csv_records}
use Rattle.loader.proofs.CountedRecords.{all_counted}
use Rattle.loader.proofs.counting.count_records.Goals as goal

pub returns-clause-counted : goal.returns-clause-counted
returns-clause-counted g c bytes known =
    let goes = subst (λ (n : ℕ). GoesOn g.R.Read.remaining c.count_front.new.reader n c.in_ok-counted.counted) (sym (all_counted (strip_bom bytes))) (c.in_ok-counted.ensures.counted bytes known) in
    c.count_from.ensures.counted (length (csv_records bytes)) goes
