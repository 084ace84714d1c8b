-- Texts that stand one after the other in joined bytes, and where each ends.
use Rattle.std.specs.Prelude.{◌≡◌, ℕ, ◌+◌, ◌-◌, true, List, [], ◌∷◌, length, take, drop}
use Rattle.std.specs.List.{concat, list_all}
use Rattle.columns.specs.Column.{is_text}

-- the texts, each up to its own end; the first begins at `start`
abbrev pub texts_from : ℕ → List ℕ → List ℕ → List (List ℕ)
texts_from start [] joined = []
texts_from start (end ∷ ends) joined = take (end - start) (drop start joined) ∷ texts_from end ends joined

-- where each text ends, if the first begins at `start`
abbrev pub ends_from : ℕ → List (List ℕ) → List ℕ
ends_from start [] = []
ends_from start (t ∷ ts) = (start + length t) ∷ ends_from (start + length t) ts

-- ends and bytes are those of texts that may stand in a column
pub record AreTexts (ends : List ℕ) (joined : List ℕ) (texts : List (List ℕ)) : Type 0 where
  pub ends_are : ends ≡ ends_from 0 texts
  pub joined_is : joined ≡ concat texts
  pub texts_are : list_all is_text texts ≡ true
