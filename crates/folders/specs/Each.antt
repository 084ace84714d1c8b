-- Two lists whose elements belong to each other, one by one.
use Rattle.std.specs.Prelude.{⊤, List, [], ◌∷◌}

-- each of a list belongs to that of the other list at its index, and none is left over
abbrev pub AreEach : {A B : Type 0} → (A → B → Type 0) → List A → List B → Type 0
AreEach Fits [] [] = ⊤
AreEach Fits [] (y ∷ ys) = ⊥
AreEach Fits (x ∷ xs) [] = ⊥
AreEach Fits (x ∷ xs) (y ∷ ys) = Fits x y × AreEach Fits xs ys
