-- What a mask keeps of positions where it marks all or none.
use Rattle.std.proofs.Common.{◌≡◌, ℕ, zero, suc, ◌<◌, Bool, true, false, if◌then◌else◌, List, [], ◌∷◌, get_or, filter, length, refl, ap, sym, ◌∙◌, arith}
use Rattle.std.specs.List.{AllByRecursion, list_all, list_any}
use Rattle.std.proofs.lemmas.Bool.{and_parts}
use Rattle.std.proofs.lemmas.List.Elements.{recursion_from_All}
use Rattle.vectors.specs.Selection.{IsSelection, Positions}

all_set : (mask : List Bool) (p : ℕ) → p < length mask → list_all (λ m. m) mask ≡ true → get_or mask p false ≡ true
all_set [] p lt all = absurd (omega (arith, lt))
all_set (m ∷ ms) zero lt all = (and_parts m (list_all (λ m. m) ms) all).0
all_set (m ∷ ms) (suc p) lt all = all_set ms p (omega (arith, lt)) (and_parts m (list_all (λ m. m) ms) all).1

pub none_set : (mask : List Bool) (p : ℕ) → list_any (λ m. m) mask ≡ false → get_or mask p false ≡ false
none_set [] p none = refl
none_set (true ∷ ms) p none = absurd cc
none_set (false ∷ ms) zero none = refl
none_set (false ∷ ms) (suc p) none = none_set ms p none

all_kept : (keep : ℕ → Bool) (n : ℕ) (ps : List ℕ) → ((p : ℕ) → p < n → keep p ≡ true) → AllByRecursion (λ p. p < n) ps → filter keep ps ≡ ps
all_kept keep n [] each all = refl
all_kept keep n (p ∷ ps) each all =
    ap (λ (b : Bool). if b then p ∷ filter keep ps else filter keep ps) (each p all.0) ∙ ap (λ (qs : List ℕ). p ∷ qs) (all_kept keep n ps each all.1)

abbrev left : Positions → (ℕ → Bool) → Positions
left s keep = record { below = s.below; list = filter keep s.list }

-- all positions stay
pub keeps_all : (mask : List Bool) (s : Positions) (all : Bool) → length mask ≡ s.below → IsSelection s → all ≡ list_all (λ m. m) mask → all ≡ true → s ≡ left s (λ p. get_or mask p false)
keeps_all mask s all long sound known is =
    ap (λ (ps : List ℕ). record { below = s.below; list = ps })
    (sym (all_kept (λ p. get_or mask p false) s.below s.list (λ p below. all_set mask p (omega (arith, below, long)) (sym known ∙ is)) (recursion_from_All (λ p. p < s.below) s.list sound.within)))

-- none stays
pub keeps_none : (mask : List Bool) (s : Positions) (any : Bool) → any ≡ list_any (λ m. m) mask → any ≡ false → left s (λ _. false) ≡ left s (λ p. get_or mask p false)
keeps_none mask s any known is = λ i. left s (λ p. sym (none_set mask p (sym known ∙ is)) i)
