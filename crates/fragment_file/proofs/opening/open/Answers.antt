-- Proofs of the goals of `open` (`opening`).
use Rattle.std.proofs.Common.{List, ℕ, Result, Ok, Err, sym, ◌∙◌}
use Rattle.std.specs.Prelude.{IfOk}
use Rattle.fragment_file.specs.declared.fault.FileFault.{FileFault}
use Rattle.fragment_file.specs.declared.fault.FileFault.TheVariants.{Memory}
use Rattle.fragment_file.specs.Fragment.{AreTypedColumns, FragmentSpec, IsFileOf}
use Rattle.fragment_file.specs.FragmentReading.{read_fragment}
use Rattle.meaning.specs.Wanting.{GivesIfMemory}
use Rattle.wire.proofs.Numbers.{IsBytes}
use Rattle.fragment_file.proofs.FileLaws.{file_takes, file_again}
use Rattle.fragment_file.proofs.TypedValues.{file_typed}
use Rattle.fragment_file.proofs.ReadFaults.{fragment_returned, returned_by}
use Rattle.fragment_file.proofs.opening.open.Goals as goal

is_spelled : (bytes : List ℕ) (r : Result FragmentSpec FileFault) → IsBytes bytes → GivesIfMemory Memory (λ v. v) r (read_fragment bytes) → IfOk r (λ v. IsFileOf bytes v)
is_spelled bytes (Ok v) ok read = file_takes bytes v ok read
is_spelled bytes (Err e) ok read = tt

is_given : (bytes : List ℕ) (f : FragmentSpec) (r : Result FragmentSpec FileFault) → IsFileOf bytes f → GivesIfMemory Memory (λ v. v) r (read_fragment bytes) → GivesIfMemory Memory (λ v. v) r (Ok f)
is_given bytes f (Ok v) is read = sym (file_again bytes f is) ∙ read
is_given bytes f (Err e) is read = λ not_memory. sym (file_again bytes f is) ∙ read not_memory

pub returns-clause-spelled : goal.returns-clause-spelled
returns-clause-spelled c = is_spelled c.args.bytes.now c.read.result (λ i. (c.type_inv.bytes i).fits) c.read.ensures

pub returns-clause-complete : goal.returns-clause-complete
returns-clause-complete c = λ f is. is_given c.args.bytes.now f c.read.result is c.read.ensures

pub returns-clause-returned : goal.returns-clause-returned
returns-clause-returned c = returned_by (λ v. v) c.read.result _ c.read.ensures (fragment_returned c.args.bytes.now)

is_typed : (bytes : List ℕ) (r : Result FragmentSpec FileFault) → IsBytes bytes → GivesIfMemory Memory (λ v. v) r (read_fragment bytes) → IfOk r (λ v. AreTypedColumns v)
is_typed bytes (Ok v) ok read = file_typed bytes v ok (file_takes bytes v ok read)
is_typed bytes (Err e) ok read = tt

pub returns-clause-typed : goal.returns-clause-typed
returns-clause-typed c = is_typed c.args.bytes.now c.read.result (λ i. (c.type_inv.bytes i).fits) c.read.ensures
