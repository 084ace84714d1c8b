-- Fields that are read in one way in all files, and what a function gives of what it shows.
use Rattle.std.specs.Prelude.{◌≡◌, ◌≢◌, ℕ, Bool, if◌then◌else◌, List, ◌++◌, codes, decimal, Result, Ok, Err}
use Rattle.wire.specs.Reading.{Read}
use Rattle.answer_fields.specs.declared.fault.DecodeFault.{DecodeFault}
use Rattle.fragment_file.specs.declared.fault.FileFault.{FileFault}
use Rattle.answer_text.specs.Reading.{fault_in, fault_of}
use Rattle.answer_text.specs.declared.damage.Stop.{Stop}
use Rattle.answer_text.specs.declared.damage.Stop.TheVariants as stop
use Rattle.answer_text.specs.declared.damage.Wrong.TheVariants as wrong

-- a number that is within its limit, or that it is over it
abbrev pub limited : {X : Type 0} → Bool → X × List ℕ → Read DecodeFault X
limited within p = if within then Ok p else Err (fault_of wrong.Limit)

-- What is read, as the text that was written behind the one before, where a relation says what was given of it; or what is wrong
-- with it, unless memory was wanting.
abbrev pub ShowsAs : {X Y : Type 0} → (X → Y → Type 0) → (Y → List ℕ) → Result X Stop → List ℕ → List ℕ → List ℕ → Read DecodeFault Y → Type 0
ShowsAs {X} {Y} is text (Ok x) before after rest read = (y : Y) × (read ≡ Ok (y, rest)) × (after ≡ before ++ text y) × is x y
ShowsAs is text (Err e) before after rest read = e ≢ stop.Memory → read ≡ Err (fault_in e)

-- a part that is in its form, or that it isn't
abbrev pub formed : {X : Type 0} → Bool → X × List ℕ → Read DecodeFault X
formed right p = if right then Ok p else Err (fault_of wrong.Header)

-- what a code says, in front of these bytes, or that it says nothing
abbrev pub said : {X : Type 0} → Result X FileFault → List ℕ → Read DecodeFault X
said (Ok x) rest = Ok (x, rest)
said (Err e) rest = Err (fault_of wrong.Header)

-- a line of a word and a number
abbrev pub number_line : List ℕ → ℕ → List ℕ
number_line word n = word ++ codes " " ++ decimal n ++ codes "\n"

-- a copy of the bytes, unless memory was wanting
abbrev pub IsCopy : Result (List ℕ) Stop → List ℕ → Type 0
IsCopy (Ok text) bytes = text ≡ bytes
IsCopy (Err e) bytes = e ≡ stop.Memory
