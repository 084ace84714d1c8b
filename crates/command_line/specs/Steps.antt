-- How the words that were read go on with those that are left.
use Rattle.std.specs.Prelude.{◌≡◌, List, [], ◌∷◌, ◌++◌, map, Option, None, Some, IsSomeAnd}
use Rattle.std.specs.Vec.{vec_items}
use Rattle.command_line.specs.Words.{AreParts, MayBeValue, Named, Word, named_of}
use Rattle.command_line.specs.declared.parts.Parts.{Parts}
use Rattle.command_line.specs.declared.reading.Next.{Next}
use Rattle.command_line.specs.declared.reading.Next.TheVariants.{Any, ValueOf, Plain}

abbrev pub given_of : Parts → List Named
given_of p = map named_of (vec_items p.given)

abbrev pub plain_of : Parts → List Word
plain_of p = map (λ w. w.now) (vec_items p.plain)

abbrev pub flags_of : Parts → List Word
flags_of p = map (λ w. w.now) (vec_items p.flags)

-- what the words that are left give, the next of which is that
abbrev pub Goes : Next → List Word → List Named → List Word → List Word → Type 0
Goes Any ws named flags plain = AreParts ws named flags plain
Goes (ValueOf name) ws named flags plain = (value : Word) × (rest : List Word) × (others : List Named) × (ws ≡ value ∷ rest) × MayBeValue name.now value × (named ≡ (name.now, value) ∷ others) × AreParts rest others flags plain
Goes Plain ws named flags plain = (named ≡ []) × (flags ≡ []) × (plain ≡ ws)

-- the old parts with what the words give are the new parts with what the words behind them give
abbrev pub AreSame : Parts → List Named → List Word → List Word → Parts → List Named → List Word → List Word → Type 0
AreSame old named flags plain new others more words = (given_of old ++ named ≡ given_of new ++ others) × (flags_of old ++ flags ≡ flags_of new ++ more) × (plain_of old ++ plain ≡ plain_of new ++ words)

-- the parts with what the words that are left give are those with what the word and they give, and the other way round
pub record Moves (old new : Parts) (before : Next) (word : Word) (after : Next) : Type 0 where
  pub goes : (ws : List Word) (named : List Named) (flags plain : List Word) → Goes after ws named flags plain
      → (more : List Named) × (more_flags words : List Word) × Goes before (word ∷ ws) more more_flags words × AreSame old more more_flags words new named flags plain
  pub comes : (ws : List Word) (named : List Named) (flags plain : List Word) → Goes before (word ∷ ws) named flags plain
      → (others : List Named) × (more words : List Word) × Goes after ws others more words × AreSame old named flags plain new others more words

-- the word was read, or no words that begin with it give anything
abbrev pub Takes : Parts → Parts → Next → Word → Option Next → Type 0
Takes old new before word (Some after) = Moves old new before word after
Takes old new before word None = (ws : List Word) (named : List Named) (flags plain : List Word) → Goes before (word ∷ ws) named flags plain → ⊥

-- if the words have parts, they are these
abbrev pub AreOnly : List Word → Option Parts → Type 0
AreOnly words o = (named : List Named) (flags plain : List Word) → AreParts words named flags plain
    → IsSomeAnd o (λ p. (named ≡ given_of p) × (flags ≡ flags_of p) × (plain ≡ plain_of p))
