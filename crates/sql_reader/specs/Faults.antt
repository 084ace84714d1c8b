-- The numbers of refusals.
use Rattle.std.specs.Prelude.{ℕ}
use Rattle.sql_reader.specs.declared.fault.SqlFault.{SqlFault}
use Rattle.sql_reader.specs.declared.fault.SqlFault.TheVariants as fault

-- the number under which a refusal is reported
abbrev pub number_of : SqlFault → ℕ
number_of fault.Memory = 0
number_of fault.NotUtf8 = 1
number_of (fault.UnknownCharacter offset) = 2
number_of (fault.TextNotClosed offset) = 3
number_of (fault.IntegerOutOfRange offset) = 4
number_of (fault.UnexpectedToken offset) = 5
number_of fault.TooDeep = 6
number_of fault.TooLong = 7
number_of (fault.LeftOut offset word) = 8
