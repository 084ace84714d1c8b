-- Loop invariants of `short_number` (`field`).
use Rattle.std.proofs.Common.{◌≡◌, take}
use Rattle.std.specs.Str.Parse.{AllDigits, digits_value}
use Rattle.loader.proofs.field.short_number.Given as goal

abbrev pub invariant-loop-digit : goal.invariant-loop-digit
invariant-loop-digit l = AllDigits 10 (take l.digit-index l.digits) × (l.number ≡ digits_value 10 (take l.digit-index l.digits))
