-- What writing does to a writer and to the hasher of all bytes that went to it.
use Rattle.std.specs.Prelude.{ℕ, List, ◌++◌, Option}
use Rattle.std.specs.Io.KnownBytes.{Appends}
use Rattle.sha2.specs.declared.Sha256.{Sha256}
use Rattle.sha2.specs.Hashers.{Holds256}

-- a hasher took in bytes behind whatever it held
unfoldable pub Hashes : Sha256 → Sha256 → List ℕ → Type 0
Hashes before after bytes = (m : List ℕ) → Holds256 before m → Holds256 after (m ++ bytes)

-- bytes went to a writer, and to a hasher
pub record Puts (before after : Option (List ℕ)) (old new : Sha256) (bytes : List ℕ) : Type 0 where
  pub written : Appends before after bytes
  pub hashed : Hashes old new bytes
