-- The fields of a record by index, and maps of maps.
use Rattle.std.proofs.Common.{◌≡◌, ℕ, zero, suc, List, [], ◌∷◌, map, refl, ap, sym, Some, true}
use Rattle.std.specs.Prelude.{slice_get}
use Rattle.std.specs.Str.{is_utf8}
use Rattle.std.proofs.lemmas.Str.{is_utf8-from_IsUtf8}
use Rattle.csv.specs.Records.{AllText, field_at}

pub field_there : (fields : List (List ℕ)) (i : ℕ) → field_at fields i ≡ slice_get fields i
unfolding field_at
field_there [] i = refl
field_there (f ∷ fs) zero = refl
field_there (f ∷ fs) (suc i) = field_there fs i

pub map_map : {A B C : Type 0} (f : A → B) (g : B → C) (xs : List A) → map g (map f xs) ≡ map (λ x. g (f x)) xs
map_map f g [] = refl
map_map f g (x ∷ xs) = ap (λ ys. g (f x) ∷ ys) (map_map f g xs)

-- a field of a record of texts is UTF-8
pub text_there : (fields : List (List ℕ)) (i : ℕ) (text : List ℕ) → AllText fields → slice_get fields i ≡ Some text → is_utf8 text ≡ true
unfolding AllText
text_there [] i text all e = cc e
text_there (f ∷ fs) zero text all e = let same : f ≡ text = cc e in rw (sym same) (is_utf8-from_IsUtf8 f all.0)
text_there (f ∷ fs) (suc i) text all e = text_there fs i text all.1 e
