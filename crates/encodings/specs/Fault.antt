-- Why a block is not written.
use Rattle.std.specs.Prelude.{ℕ}
use Rattle.meaning.specs.declared.value.ColType.{ColType}
use Rattle.blocks.specs.declared.kind.Kind.{Kind}
use Rattle.encodings.specs.declared.fault.EncodeFault.{EncodeFault}
use Rattle.meaning.specs.declared.value.ColType.TheVariants as of_type
use Rattle.blocks.specs.declared.kind.Kind.TheVariants as kind
use Rattle.encodings.specs.declared.fault.EncodeFault.TheVariants as fault

-- the number by which a refusal is reported
abbrev pub number_of_fault : EncodeFault → ℕ
number_of_fault fault.Memory = 0
number_of_fault fault.FrameOnText = 1

-- out of memory, or a frame of reference on texts
abbrev pub FaultOf : Kind → ColType → EncodeFault → Type 0
FaultOf k col_type fault.Memory = Unit {0}
FaultOf kind.Frame of_type.Text fault.FrameOnText = Unit {0}
FaultOf kind.Frame of_type.Int fault.FrameOnText = ⊥
FaultOf kind.Plain col_type fault.FrameOnText = ⊥
FaultOf kind.Dict col_type fault.FrameOnText = ⊥
FaultOf kind.Runs col_type fault.FrameOnText = ⊥
