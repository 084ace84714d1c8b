-- What the first of several words can be.
use Rattle.std.proofs.Common.{◌≡◌, ◌≢◌, ℕ, ◌+◌, ◌<◌, ◌==◌, true, List, [], ◌∷◌, ◌++◌, length, drop, get_or, refl, sym, subst, ap, ◌∙◌, codes, arith, inl, inr}
use Rattle.std.proofs.Math.Seq.{get_or-append_seam}
use Rattle.std.proofs.lemmas.List.{get_or-append-add, length-append}
use Rattle.std.specs.List.{list_any}
use Rattle.command_line.specs.Words.{AreParts, IsFlag, IsName, IsPlain, MayBeValue, Named, Word}
use Rattle.command_line.specs.Words.AreParts.{nothing, apart, joined, flag, word, behind}

-- the first word with what it takes, and what those behind it give
pub data Opened (w : Word) (ws : List Word) (named : List Named) (flags plain : List Word) : Type 0 where
  is_apart : (name value : Word) (rest : List Word) (others : List Named) → w ≡ codes "--" ++ name → IsName name → name ≢ [] → (IsFlag name → ⊥) → ws ≡ value ∷ rest → MayBeValue name value → named ≡ (name, value) ∷ others → AreParts rest others flags plain → Opened w ws named flags plain
  is_joined : (name value : Word) (others : List Named) → w ≡ codes "--" ++ (name ++ (codes "=" ++ value)) → IsName name → named ≡ (name, value) ∷ others → AreParts ws others flags plain → Opened w ws named flags plain
  is_flag : (name : Word) (more : List Word) → w ≡ codes "--" ++ name → IsFlag name → flags ≡ name ∷ more → AreParts ws named more plain → Opened w ws named flags plain
  is_word : (words : List Word) → IsPlain w → plain ≡ w ∷ words → AreParts ws named flags words → Opened w ws named flags plain
  is_behind : w ≡ codes "--" → named ≡ [] → flags ≡ [] → plain ≡ ws → Opened w ws named flags plain

abbrev pub Opens : List Word → List Named → List Word → List Word → Type 0
Opens [] named flags plain = (named ≡ []) × (flags ≡ []) × (plain ≡ [])
Opens (w ∷ ws) named flags plain = Opened w ws named flags plain

pub opened : {words : List Word} {named : List Named} {flags plain : List Word} → AreParts words named flags plain → Opens words named flags plain
opened nothing = (refl, refl, refl)
opened (apart {ws = rest} {named = others} name value a_name some valued may are) = is_apart name value rest others refl a_name some valued refl may refl are
opened (joined {named = others} name value a_name are) = is_joined name value others refl a_name refl are
opened (flag {flags = more} name a_flag are) = is_flag name more refl a_flag refl are
opened (word {plain = words} w plain are) = is_word words plain refl are
opened (behind ws) = is_behind refl refl refl refl

-- ---- words and names that differ

pub dashes_not_plain : (w rest : Word) → w ≡ codes "--" ++ rest → IsPlain w → ⊥
dashes_not_plain w rest is plain = let none : 45 ∷ rest ≡ [] = plain (45 ∷ rest) is in cc

pub behind_same : (w a b : Word) → w ≡ codes "--" ++ a → w ≡ codes "--" ++ b → a ≡ b
behind_same w a b is_a is_b = ap (drop 2) (sym is_a ∙ is_b)

pub no_equals : (name left right : Word) → IsName name → name ≡ left ++ (61 ∷ right) → ⊥
no_equals name left right a_name is =
    let long : length name ≡ length left + length (61 ∷ right) = ap length is ∙ length-append left (61 ∷ right) in
    let within : length left < length name = omega (arith, long) in
    a_name (length left) within (ap (λ xs. get_or xs (length left) 0) is ∙ get_or-append_seam left 61 right 0)

has_equals : (left right : Word) → list_any (λ x. x == 61) (left ++ (61 ∷ right)) ≡ true
has_equals [] right = refl
has_equals (x ∷ left) right = grind (arith, has_equals left right)

pub flag_no_equals : (name left right : Word) → IsFlag name → name ≡ left ++ (61 ∷ right) → ⊥
flag_no_equals name left right (inl a_flag) is =
    let both = ap (list_any (λ x. x == 61)) (sym a_flag ∙ is) ∙ has_equals left right in cc
flag_no_equals name left right (inr a_flag) is =
    let both = ap (list_any (λ x. x == 61)) (sym a_flag ∙ is) ∙ has_equals left right in cc

pub some_split : (left right : Word) → left ++ (61 ∷ right) ≡ [] → ⊥
some_split [] right is = cc
some_split (x ∷ left) right is = cc

pub flag_some : (name : Word) → IsFlag name → name ≡ [] → ⊥
flag_some name (inl a_flag) none = let long : 7 ≡ 0 = ap length (sym a_flag ∙ none) in omega (arith, long)
flag_some name (inr a_flag) none = let long : 6 ≡ 0 = ap length (sym a_flag ∙ none) in omega (arith, long)

name_tail : (x : ℕ) (xs : Word) → IsName (x ∷ xs) → IsName xs
name_tail x xs a_name = λ i below. subst (λ n. n ≢ 61) (get_or-append-add (x ∷ []) xs i 0) (a_name (1 + i) (omega (arith, below)))

pub same_split : (a b c d : Word) → IsName a → IsName b → a ++ (61 ∷ c) ≡ b ++ (61 ∷ d) → (a ≡ b) × (c ≡ d)
same_split [] [] c d a_name b_name is = (refl, ap (drop 1) is)
same_split [] (y ∷ ys) c d a_name b_name is = absurd (b_name 0 (omega arith) (sym (ap (λ xs. get_or xs 0 0) is)))
same_split (x ∷ xs) [] c d a_name b_name is = absurd (a_name 0 (omega arith) (ap (λ xs. get_or xs 0 0) is))
same_split (x ∷ xs) (y ∷ ys) c d a_name b_name is =
    let rest = same_split xs ys c d (name_tail x xs a_name) (name_tail y ys b_name) (ap (drop 1) is) in
    let first : x ≡ y = ap (λ xs. get_or xs 0 0) is in
    (ap (λ z. z ∷ xs) first ∙ ap (λ zs. y ∷ zs) rest.0, rest.1)

-- ---- what each kind of first word gives

pub opened_word : {w : Word} {ws : List Word} {named : List Named} {flags plain : List Word} → IsPlain w → Opened w ws named flags plain
    → (words : List Word) × (plain ≡ w ∷ words) × AreParts ws named flags words
opened_word is_plain (is_apart name value rest others is a_name some valued next may first are) = absurd (dashes_not_plain _ _ is is_plain)
opened_word is_plain (is_joined name value others is a_name first are) = absurd (dashes_not_plain _ _ is is_plain)
opened_word is_plain (is_flag name more is a_flag first are) = absurd (dashes_not_plain _ _ is is_plain)
opened_word is_plain (is_word words plain first are) = (words, first, are)
opened_word is_plain (is_behind is no_named no_flag rest) = absurd (dashes_not_plain _ [] is is_plain)

pub opened_nothing : {w : Word} {ws : List Word} {named : List Named} {flags plain : List Word} → (IsPlain w → ⊥) → ((rest : Word) → w ≢ codes "--" ++ rest) → Opened w ws named flags plain → ⊥
opened_nothing not_plain other (is_apart name value rest others is a_name some valued next may first are) = other _ is
opened_nothing not_plain other (is_joined name value others is a_name first are) = other _ is
opened_nothing not_plain other (is_flag name more is a_flag first are) = other _ is
opened_nothing not_plain other (is_word words plain first are) = not_plain plain
opened_nothing not_plain other (is_behind is no_named no_flag rest) = other [] is

pub opened_dashes : {w : Word} {ws : List Word} {named : List Named} {flags plain : List Word} → w ≡ codes "--" → Opened w ws named flags plain
    → (named ≡ []) × (flags ≡ []) × (plain ≡ ws)
opened_dashes dashes (is_apart name value rest others is a_name some valued next may first are) = absurd (some (behind_same _ _ [] is dashes))
opened_dashes dashes (is_joined name value others is a_name first are) = absurd (some_split name value (behind_same _ _ [] is dashes))
opened_dashes dashes (is_flag name more is a_flag first are) = absurd (flag_some name a_flag (behind_same _ _ [] is dashes))
opened_dashes dashes (is_word words plain first are) = absurd (dashes_not_plain _ [] dashes plain)
opened_dashes dashes (is_behind is no_named no_flag rest) = (no_named, no_flag, rest)

pub opened_flag : {w : Word} {ws : List Word} {named : List Named} {flags plain : List Word} (name : Word) → w ≡ codes "--" ++ name → IsName name → name ≢ [] → IsFlag name → Opened w ws named flags plain
    → (more : List Word) × (flags ≡ name ∷ more) × AreParts ws named more plain
opened_flag name dashes a_name some a_flag (is_apart other value rest others is b_name b_some valued next may first are) =
    absurd (valued (subst IsFlag (behind_same _ _ _ dashes is) a_flag))
opened_flag name dashes a_name some a_flag (is_joined other value others is b_name first are) = absurd (no_equals name other value a_name (behind_same _ _ _ dashes is))
opened_flag name dashes a_name some a_flag (is_flag other more is b_flag first are) = (more, first ∙ ap (λ x. x ∷ more) (behind_same _ _ _ is dashes), are)
opened_flag name dashes a_name some a_flag (is_word words plain first are) = absurd (dashes_not_plain _ _ dashes plain)
opened_flag name dashes a_name some a_flag (is_behind is no_named no_flag rest) = absurd (some (behind_same _ _ [] dashes is))

-- what the words behind an option's name give
abbrev pub IsValued : Word → List Word → List Named → List Word → List Word → Type 0
IsValued name ws named flags plain = (value : Word) × (rest : List Word) × (others : List Named) × (ws ≡ value ∷ rest) × MayBeValue name value × (named ≡ (name, value) ∷ others) × AreParts rest others flags plain

pub opened_name : {w : Word} {ws : List Word} {named : List Named} {flags plain : List Word} (name : Word) → w ≡ codes "--" ++ name → IsName name → name ≢ [] → (IsFlag name → ⊥) → Opened w ws named flags plain
    → IsValued name ws named flags plain
opened_name {ws = ws} {named} {flags} {plain} name dashes a_name some valued (is_apart other value rest others is b_name b_some b_valued next may first are) =
    subst (λ x. IsValued x ws named flags plain) (behind_same _ _ _ is dashes) (value, rest, others, next, may, first, are)
opened_name name dashes a_name some valued (is_joined other value others is b_name first are) = absurd (no_equals name other value a_name (behind_same _ _ _ dashes is))
opened_name name dashes a_name some valued (is_flag other more is b_flag first are) = absurd (valued (subst IsFlag (behind_same _ _ _ is dashes) b_flag))
opened_name name dashes a_name some valued (is_word words plain first are) = absurd (dashes_not_plain _ _ dashes plain)
opened_name name dashes a_name some valued (is_behind is no_named no_flag rest) = absurd (some (behind_same _ _ [] dashes is))

pub opened_joined : {w : Word} {ws : List Word} {named : List Named} {flags plain : List Word} (name value : Word) → w ≡ codes "--" ++ (name ++ (61 ∷ value)) → IsName name → Opened w ws named flags plain
    → (others : List Named) × (named ≡ (name, value) ∷ others) × AreParts ws others flags plain
opened_joined name value dashes a_name (is_apart other held rest others is b_name some valued next may first are) = absurd (no_equals other name value b_name (behind_same _ _ _ is dashes))
opened_joined name value dashes a_name (is_joined other held others is b_name first are) =
    let same = same_split other name held value b_name a_name (behind_same _ _ _ is dashes) in
    (others, first ∙ ap (λ x. (x, held) ∷ others) same.0 ∙ ap (λ x. (name, x) ∷ others) same.1, are)
opened_joined name value dashes a_name (is_flag other more is b_flag first are) = absurd (flag_no_equals other name value b_flag (behind_same _ _ _ is dashes))
opened_joined name value dashes a_name (is_word words plain first are) = absurd (dashes_not_plain _ _ dashes plain)
opened_joined name value dashes a_name (is_behind is no_named no_flag rest) = absurd (some_split name value (sym (behind_same _ [] _ is dashes)))
