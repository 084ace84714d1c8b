-- The error codes of a journal's refusals.
use Rattle.std.specs.Prelude.{ℕ}
use Rattle.folders.specs.declared.journal_refusal.JournalRefusal.{JournalRefusal}
use Rattle.folders.specs.declared.journal_refusal.JournalRefusal.TheVariants.{Device, Full, NotAJournal, OpenAgain, TooLong}

abbrev pub number_of : JournalRefusal → ℕ
number_of Device = 12
number_of Full = 13
number_of NotAJournal = 14
number_of OpenAgain = 15
number_of TooLong = 16
