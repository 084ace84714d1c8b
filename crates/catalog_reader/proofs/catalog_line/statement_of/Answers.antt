-- Proofs of the goals of `statement_of` (`catalog_line`).
use Rattle.std.proofs.Common.{◌≡◌, ◌≢◌, ℕ, List, [], ◌∷◌, length, map, None, Bor, refl}
use Rattle.catalog_reader.specs.CatalogLine.{statement_of}
use Rattle.catalog_reader.proofs.catalog_line.statement_of.Goals as goal

-- other numbers of words declare nothing
others : (ws : List (Bor (List ℕ))) → length ws ≢ 2 → length ws ≢ 3 → length ws ≢ 4 → None
    ≡ statement_of (map (λ word. word.now) ws)
others [] two three four = refl
others (a ∷ []) two three four = refl
others (a ∷ b ∷ []) two three four = absurd (two refl)
others (a ∷ b ∷ c ∷ []) two three four = absurd (three refl)
others (a ∷ b ∷ c ∷ d ∷ []) two three four = absurd (four refl)
others (a ∷ b ∷ c ∷ d ∷ e ∷ more) two three four = refl

pub returns-else-words-eq4 : goal.returns-else-words-eq4
returns-else-words-eq4 c = others c.args.words.now c.if-words-eq2.false c.if-words-eq3.false c.if-words-eq4.false
