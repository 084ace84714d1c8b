-- The bytes of a file one part after the other, from a reader.
use Rattle.std.specs.Prelude.{◌≡◌, ◌≢◌, ℕ, ◌<◌, List, [], ◌++◌, length, take, Option, Some, None, Result, Ok, Err}
use Rattle.sha2.specs.Hashers.{Holds256}
use Rattle.wire.specs.Reading.{Read}
use Rattle.fragment_file.specs.declared.fault.FileFault.{FileFault}
use Rattle.fragment_file.specs.declared.fault.FileFault.TheVariants.{Memory, Device}
use Rattle.group_reader.specs.declared.source.Source.{Source}
use Rattle.group_reader.specs.Coming.{end_at}

-- ---- a reader

-- what a call gave of the bytes that a reader had: these come first, the others are left; none comes only at the end
abbrev pub Gave : Option (List ℕ) → List ℕ → List ℕ → Type 0
Gave left bytes front = (rest : List ℕ) × (left ≡ Some rest) × (bytes ≡ front ++ rest) × (front ≡ [] → rest ≡ [])

-- the first `n` of a buffer were the next bytes, and the others are left
abbrev pub StandsAt : Option (List ℕ) → List ℕ → ℕ → List ℕ → Type 0
StandsAt left bytes n out = (rest : List ℕ) × (left ≡ Some rest) × (bytes ≡ take n out ++ rest)

-- the first `n` of a buffer are the next bytes, as many as there is room for, unless the reader ends before
abbrev pub IsFilled : Option (List ℕ) → List ℕ → ℕ → List ℕ → Type 0
IsFilled left bytes n out = (rest : List ℕ) × (left ≡ Some rest) × (bytes ≡ take n out ++ rest) × (n < length out → rest ≡ [])

-- these bytes may be left: any, unless it is known which are
abbrev pub MayBeLeft : Option (List ℕ) → List ℕ → Type 0
MayBeLeft left bytes = (known : List ℕ) → left ≡ Some known → known ≡ bytes

-- ---- a source

-- a source gave these bytes: where it is known what was left, they come first of it, and the others are left; and the hasher
-- has them behind those that it had
pub record Yields {R : Type 0} (known : R → Option (List ℕ)) (old new : Source R) (given : List ℕ) : Type 0 where
  pub left : (bytes : List ℕ) → known old.reader ≡ Some bytes → (rest : List ℕ) × (known new.reader ≡ Some rest) × (bytes ≡ given ++ rest)
  pub hashed : (front : List ℕ) → Holds256 old.hasher front → Holds256 new.hasher (front ++ given)

-- this was read of the bytes that a source gave, whatever stands behind them
abbrev pub Took : {R Y : Type 0} → (R → Option (List ℕ)) → Source R → Source R → (List ℕ → Read FileFault Y) → Y → Type 0
Took known old new part y = (given : List ℕ) × Yields known old new given × ((rest : List ℕ) → part (given ++ rest) ≡ Ok (y, rest))

-- there are bytes that may be left of which this is wrong, unless memory was wanting or the reader failed
abbrev pub Refuses : {R Y : Type 0} → (R → Option (List ℕ)) → Source R → (List ℕ → Read FileFault Y) → FileFault → Type 0
Refuses known s part e = e ≢ Memory → e ≢ Device → (bytes : List ℕ) × MayBeLeft (known s.reader) bytes × (part bytes ≡ Err e)

-- what a call gave, seen by `view`, is what was read, or what is wrong was told
abbrev pub Takes : {R X Y : Type 0} → (R → Option (List ℕ)) → Source R → Source R → (X → Y) → Result X FileFault → (List ℕ → Read FileFault Y) → Type 0
Takes known old new view (Ok x) part = Took known old new part (view x)
Takes known old new view (Err e) part = Refuses known old part e

-- ---- the end

-- the bytes of a source, those that it gave and others that may be left, end so
abbrev pub EndsBy : {R : Type 0} → (R → Option (List ℕ)) → Source R → Option FileFault → Type 0
EndsBy known s end = (front : List ℕ) → Holds256 s.hasher front → (rest : List ℕ) × MayBeLeft (known s.reader) rest × (end_at (front ++ rest) rest ≡ end)

-- it is such an end at which nothing is wrong, or one at which what was told is, unless memory was wanting or the reader
-- failed
abbrev pub EndsAs : Result (Unit {0}) FileFault → (Option FileFault → Type 0) → Type 0
EndsAs (Ok x) IsEnd = IsEnd None
EndsAs (Err e) IsEnd = e ≢ Memory → e ≢ Device → IsEnd (Some e)
