-- What the characters of a pattern up to a `%` decide.
use Rattle.std.specs.Prelude.{◌≡◌, ℕ, ◌<◌, Bool, true, false, List, length}
use Rattle.std.specs.Str.{chars}
use Rattle.meaning.specs.Like.{after_any_run, characters_fit}
use Rattle.lane_loops.specs.declared.wildcards.Tried.{Tried}
use Rattle.lane_loops.specs.declared.wildcards.Tried.TheVariants.{Fits, Differs, UpToSign}

-- the answer, or where it is left to: whether the pattern behind the `%` fits some rest of the text that is left
abbrev pub Reports : Bool → Tried → Type 0
Reports answer Fits = answer ≡ true
Reports answer Differs = answer ≡ false
Reports answer (UpToSign behind rest) = answer ≡ after_any_run (characters_fit (chars behind.now)) (chars rest.now)

-- where it is left to that, so is whether the whole pattern fits some rest of the text
abbrev pub ReportsLater : List ℕ → List ℕ → Tried → Type 0
ReportsLater pattern text (UpToSign behind rest) = after_any_run (characters_fit pattern) text ≡ after_any_run (characters_fit (chars behind.now)) (chars rest.now)
ReportsLater pattern text Fits = Unit {0}
ReportsLater pattern text Differs = Unit {0}

-- the pattern that is left is shorter
abbrev pub IsShorter : ℕ → Tried → Type 0
IsShorter n (UpToSign behind rest) = length behind.now < n
IsShorter n Fits = Unit {0}
IsShorter n Differs = Unit {0}
