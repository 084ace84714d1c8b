-- What follows from tests and options that aren't equal. `cc` finds the same, but reads all that is known there.
use Rattle.std.proofs.Common.{◌≡◌, true, false, Option, Some, None}

pub never : {A : Type 0} → true ≡ false → A
never is = absurd cc

pub not_none : {A X : Type 0} (x : X) → ◌≡◌ {A = Option X} None (Some x) → A
not_none x is = absurd cc
