-- The error codes, and what a refusal of a file is here.
use Rattle.std.specs.Prelude.{ℕ}
use Rattle.fragment_file.specs.declared.fault.FileFault.{FileFault}
use Rattle.fragment_file.specs.declared.fault.FileFault.TheVariants as of_reading
use Rattle.job_files.specs.declared.fault.WorkFault.{WorkFault}
use Rattle.job_files.specs.declared.fault.WorkFault.TheVariants.{Memory, OtherFile, OtherColumn, File, VectorLength, KeyTwice}

abbrev pub number_of : WorkFault → ℕ
number_of Memory = 0
number_of OtherFile = 1
number_of OtherColumn = 2
number_of (File fault) = 3
number_of VectorLength = 4
number_of KeyTwice = 5

-- want of memory is one for all
abbrev pub of_file : FileFault → WorkFault
of_file of_reading.Memory = Memory
of_file of_reading.Magic = File of_reading.Magic
of_file of_reading.Truncated = File of_reading.Truncated
of_file of_reading.TrailingBytes = File of_reading.TrailingBytes
of_file of_reading.Seal = File of_reading.Seal
of_file (of_reading.Block group column) = File (of_reading.Block group column)
of_file of_reading.Header = File of_reading.Header
of_file of_reading.Limit = File of_reading.Limit
of_file of_reading.Device = File of_reading.Device
