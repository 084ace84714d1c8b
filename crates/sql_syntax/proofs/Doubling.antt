-- Texts with their quotes doubled, and back.
use Rattle.std.proofs.Common.{◌≡◌, ℕ, ◌+◌, ◌<◌, Bool, true, false, cond, eqb, not, List, [], ◌∷◌, ◌++◌, length, get_or, refl, sym, ap, subst, ◌∙◌, arith}
use Rattle.std.specs.List.{before_first, after_first, position_or_len}
use Rattle.std.proofs.lemmas.Bool.{eqb-true}
use Rattle.std.proofs.lemmas.List.{append-nil, length-append}
use Rattle.std.proofs.lemmas.List.Sums.{split_at_first, passes_at_first}
use Rattle.meaning.proofs.Tests.{not_true}
use Rattle.sql_syntax.specs.CanonicalTokens.{doubled}
use Rattle.sql_syntax.specs.Phrases.{undoubled}
use Rattle.sql_syntax.specs.Quoting.{without_quote}
use Rattle.sql_syntax.proofs.Names.{AllPass, run_passes}
use Rattle.sql_syntax.proofs.Canonical.{undouble_other}

abbrev is_quote : ℕ → Bool
is_quote b = eqb b 39

abbrev is_other : ℕ → Bool
is_other b = not (eqb b 39)

doubled_front : (f rest : List ℕ) → AllPass is_other f → doubled (f ++ rest) ≡ f ++ doubled rest
doubled_front [] rest all = refl
doubled_front (b ∷ f) rest all = rw (not_true (eqb b 39) all.0) (ap (λ (x : List ℕ). b ∷ x) (doubled_front f rest all.1))

undoubled_front : (f rest : List ℕ) → AllPass is_other f → undoubled (f ++ rest) ≡ f ++ undoubled rest
undoubled_front [] rest all = refl
undoubled_front (b ∷ f) rest all = undouble_other b (f ++ rest) (not_true (eqb b 39) all.0) ∙ ap (λ (x : List ℕ). b ∷ x) (undoubled_front f rest all.1)

front_passes : (bs : List ℕ) → AllPass is_other (before_first is_quote bs)
front_passes bs = run_passes is_other bs

pub parts : (bs f t : List ℕ) → position_or_len is_quote bs < length bs → f ≡ before_first is_quote bs → t ≡ after_first is_quote bs → bs ≡ f ++ 39 ∷ t
parts bs f t within front behind =
    let quote : get_or bs (position_or_len is_quote bs) 0 ≡ 39 = eqb-true _ 39 (passes_at_first is_quote bs 0 within) in
    split_at_first is_quote bs 0 within ∙ (λ i. sym front i ++ quote i ∷ sym behind i)

front_is : (bs f : List ℕ) → f ≡ before_first is_quote bs → AllPass is_other f
front_is bs f is = subst (AllPass is_other) (sym is) (front_passes bs)

pub doubled_cut : (bs f t : List ℕ) → (position_or_len is_quote bs < length bs) × (f ≡ before_first is_quote bs) × (t ≡ after_first is_quote bs) → doubled bs ≡ f ++ (39 ∷ 39 ∷ doubled t)
doubled_cut bs f t cut = ap doubled (parts bs f t cut.0 cut.1 cut.2) ∙ doubled_front f (39 ∷ t) (front_is bs f cut.1)

without : (c : ℕ) (bs : List ℕ) (test : Bool) → cond test (39 ∷ undoubled bs) (39 ∷ undoubled (c ∷ bs)) ≡ 39 ∷ undoubled (cond test bs (c ∷ bs))
without c bs true = refl
without c bs false = refl

at_quote : (t : List ℕ) → undoubled (39 ∷ t) ≡ 39 ∷ undoubled (without_quote t)
at_quote [] = refl
at_quote (c ∷ bs) = without c bs (eqb c 39)

pub undoubled_cut : (bs f t : List ℕ) → (position_or_len is_quote bs < length bs) × (f ≡ before_first is_quote bs) × (t ≡ after_first is_quote bs) → undoubled bs ≡ f ++ (39 ∷ undoubled (without_quote t))
undoubled_cut bs f t cut = ap undoubled (parts bs f t cut.0 cut.1 cut.2) ∙ undoubled_front f (39 ∷ t) (front_is bs f cut.1) ∙ ap (λ (x : List ℕ). f ++ x) (at_quote t)

none_at : (b : ℕ) (bs : List ℕ) (test : Bool) → eqb b 39 ≡ test → (position_or_len is_quote bs ≡ length bs → AllPass is_other bs) → position_or_len is_quote (b ∷ bs) ≡ length (b ∷ bs) → AllPass is_other (b ∷ bs)
none_at b bs true is rest h = absurd (let e : position_or_len is_quote (b ∷ bs) ≡ 0 = rw is refl in omega (arith, e, h))
none_at b bs false is rest h =
    let e : position_or_len is_quote (b ∷ bs) ≡ 1 + position_or_len is_quote bs = rw is refl in
    (ap not is, rest (omega (arith, e, h)))

no_quote : (bs : List ℕ) → position_or_len is_quote bs ≡ length bs → AllPass is_other bs
no_quote [] h = tt
no_quote (b ∷ bs) h = none_at b bs (eqb b 39) refl (no_quote bs) h

pub doubled_same : (bs : List ℕ) → position_or_len is_quote bs ≡ length bs → doubled bs ≡ bs
doubled_same bs h = ap doubled (sym (append-nil bs)) ∙ doubled_front bs [] (no_quote bs h) ∙ append-nil bs

pub undoubled_same : (bs : List ℕ) → position_or_len is_quote bs ≡ length bs → undoubled bs ≡ bs
undoubled_same bs h = ap undoubled (sym (append-nil bs)) ∙ undoubled_front bs [] (no_quote bs h) ∙ append-nil bs

pub shorter_cut : (bs f t : List ℕ) → (position_or_len is_quote bs < length bs) × (f ≡ before_first is_quote bs) × (t ≡ after_first is_quote bs) → length t < length bs
shorter_cut bs f t cut = omega (arith, ap length (parts bs f t cut.0 cut.1 cut.2), length-append f (39 ∷ t))
