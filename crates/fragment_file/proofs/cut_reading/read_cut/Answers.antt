-- Proofs of the goals of `read_cut` (`cut_reading`).
use Rattle.std.proofs.Common.{List, ℕ, Result, Ok, Err, sym, ◌∙◌}
use Rattle.std.specs.Prelude.{IfOk}
use Rattle.fragment_file.specs.declared.fault.FileFault.{FileFault}
use Rattle.fragment_file.specs.declared.fault.FileFault.TheVariants.{Memory}
use Rattle.fragment_file.specs.CutFile.{CutFileSpec, IsCutFileOf, cut_file, read_cut_file}
use Rattle.meaning.specs.Wanting.{GivesIfMemory}
use Rattle.wire.proofs.Numbers.{IsBytes}
use Rattle.fragment_file.proofs.CutLaws.{cut_takes, cut_again}
use Rattle.fragment_file.proofs.ReadFaults.{cut_returned, returned_by}
use Rattle.fragment_file.proofs.cut_reading.read_cut.Goals as goal

is_spelled : (bytes : List ℕ) (r : Result (ℕ × List ℕ) FileFault) → IsBytes bytes → GivesIfMemory Memory cut_file r (read_cut_file bytes) → IfOk r (λ x. IsCutFileOf bytes (cut_file x))
is_spelled bytes (Ok v) ok read = cut_takes bytes (cut_file v) ok read
is_spelled bytes (Err e) ok read = tt

is_given : (bytes : List ℕ) (f : CutFileSpec) (r : Result (ℕ × List ℕ) FileFault) → IsCutFileOf bytes f → GivesIfMemory Memory cut_file r (read_cut_file bytes) → GivesIfMemory Memory cut_file r (Ok f)
is_given bytes f (Ok v) is read = sym (cut_again bytes f is) ∙ read
is_given bytes f (Err e) is read = λ not_memory. sym (cut_again bytes f is) ∙ read not_memory

pub returns-clause-spelled : goal.returns-clause-spelled
returns-clause-spelled c = is_spelled c.args.bytes.now c.read.result (λ i. (c.type_inv.bytes i).fits) c.read.ensures

pub returns-clause-complete : goal.returns-clause-complete
returns-clause-complete c = λ f is. is_given c.args.bytes.now f c.read.result is c.read.ensures

pub returns-clause-returned : goal.returns-clause-returned
returns-clause-returned c = returned_by cut_file c.read.result _ c.read.ensures (cut_returned c.args.bytes.now)
