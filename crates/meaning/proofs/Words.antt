-- An integer of 64 bits by the test of the definitions, and by that of the language.
use Rattle.std.proofs.Common.{◌≡◌, ◌^◌, true, ℤ, pos, negsuc}
use Rattle.std.proofs.lemmas.Bool.{ltb-true, lt-ltb}
use mir.Syntax.{w64}
use mir.Val.{SFits as FitsSigned}
use Rattle.meaning.specs.Operators.{fits_i64}

pub fits_word : (z : ℤ) → fits_i64 z ≡ true → FitsSigned w64 z
fits_word (pos n) e = record { sfits = ltb-true n (2 ^ 63) e }
fits_word (negsuc n) e = record { sfits = ltb-true n (2 ^ 63) e }

pub word_fits : (z : ℤ) → FitsSigned w64 z → fits_i64 z ≡ true
word_fits (pos n) f = lt-ltb n (2 ^ 63) f.sfits
word_fits (negsuc n) f = lt-ltb n (2 ^ 63) f.sfits
