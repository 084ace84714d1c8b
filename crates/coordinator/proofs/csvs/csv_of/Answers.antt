-- Proofs of the goals of `csv_of` (`csvs`).
use Rattle.std.proofs.Common.{ap, sym, ◌∙◌, Err, List, ℕ}
use Rattle.coordinator.specs.declared.fault.WholeFault.TheVariants as fault
use Rattle.coordinator.specs.Whole.{files_in, csv_of}
use Rattle.coordinator.proofs.FoundFiles.{returned, csv_found}
use Rattle.coordinator.proofs.csvs.csv_of.Goals as goal

pub returns-in-Some : goal.returns-in-Some
returns-in-Some c =
    ap (csv_of (files_in c.args.csvs.now)) (sym c.as_str.ensures)
    ∙ csv_found c.as_str.result.now c.args.csvs.now
    ∙ ap (returned c.as_str.result.now) (sym c.in-Some.ensures)

pub returns-in_ok-clone-in-None : goal.returns-in_ok-clone-in-None
returns-in_ok-clone-in-None c other =
    let text = c.in_ok-clone-in-None.ensures.cases in
    let cloned = sym text.2 ∙ sym text.4 ∙ text.3 in
    ap (csv_of (files_in c.args.csvs.now)) (sym c.as_str.ensures)
    ∙ csv_found c.as_str.result.now c.args.csvs.now
    ∙ ap (returned c.as_str.result.now) (sym c.in-None.ensures)
    ∙ ap (λ (name : List ℕ). Err (fault.MissingCsv name)) (c.as_str.ensures ∙ cloned)
