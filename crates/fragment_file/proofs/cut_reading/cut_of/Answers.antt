-- Proofs of the goals of `cut_of` (`cut_reading`).
use Rattle.std.proofs.Common.{◌≡◌, ℕ, List, Result, Ok, Err, ◌∙◌}
use Rattle.meaning.specs.declared.cut.CutFault.{CutFault}
use Rattle.fragment_file.proofs.CutLaws.{cut_taken}
use Rattle.fragment_file.proofs.cut_reading.cut_of.Goals as goal

abbrev refused : CutFault → Result (List ℕ) CutFault
refused e = Err e

no_refusal : (e : CutFault) (xs : List ℕ) → refused e ≡ Ok xs → ⊥
no_refusal e xs same = cc

pub returns-in-Err : goal.returns-in-Err
returns-in-Err c = absurd (no_refusal c.in-Err.field-0 c.args.lengths.items (c.in-Err.ensures ∙ cut_taken c.args.lengths.items c.requires))
