-- Records that are passed over.
use Rattle.std.specs.Prelude.{◌≡◌, ℕ, Bool, true, false, List, [], drop, length, Option, None, Some, slice_get}
use Rattle.csv.specs.declared.reader.Reader.{Reader}
use Rattle.meaning.specs.Records.{Record}
use Rattle.loader.specs.Source.{IsLeft}

-- so many records were passed over, or there were fewer
abbrev pub Skips : {R : Type 0} → (R → Option (List ℕ)) → Reader R → ℕ → List Record → Bool → Type 0
Skips known after count rest true = IsLeft known after (drop count rest)
Skips known after count rest false = slice_get rest count ≡ None

-- the record behind so many was read, or there was none
abbrev pub TakesAt : ℕ → List Record → Bool → Record → Type 0
TakesAt index rest true fields = slice_get rest index ≡ Some fields
TakesAt index rest false fields = slice_get rest index ≡ None
