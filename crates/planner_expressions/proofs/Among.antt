-- Elements of lists.
use Rattle.std.proofs.Common.{◌≡◌, ℕ, suc, ◌<◌, ◌⊎◌, inl, inr, Bool, true, false, List, [], ◌∷◌, map, filter, length, cond, refl, ap, subst, sym, ◌∙◌, arith}
use Rattle.std.specs.Prelude.{Contains}
use Rattle.std.specs.List.{list_all, AllByRecursion}
use Rattle.meaning.proofs.Tests.{all_first, all_rest}

-- x is one of the elements
abbrev pub Among : {X : Type 0} → List X → X → Type 0
Among [] x = ⊥
Among (y ∷ ys) x = (y ≡ x) ⊎ Among ys x

zero_first : (n : ℕ) → 0 < suc n
zero_first n = omega arith

module _ {X : Type 0} where
  kept_first : (test : X → Bool) (x y : X) (ys : List X) (b : Bool) → test y ≡ b → y ≡ x → test x ≡ true → Among (cond b (y ∷ ys) ys) x
  kept_first test x y ys true is same passes = inl same
  kept_first test x y ys false is same passes = let wrong : true ≡ false = sym passes ∙ ap test (sym same) ∙ is in absurd cc

  kept_rest : (x y : X) (ys : List X) (b : Bool) → Among ys x → Among (cond b (y ∷ ys) ys) x
  kept_rest x y ys true there = inr there
  kept_rest x y ys false there = there

  pub among_filter : (test : X → Bool) (xs : List X) (x : X) → test x ≡ true → Among xs x → Among (filter test xs) x
  among_filter test [] x passes there = there
  among_filter test (y ∷ ys) x passes (inl same) = kept_first test x y (filter test ys) (test y) refl same passes
  among_filter test (y ∷ ys) x passes (inr there) = kept_rest x y (filter test ys) (test y) (among_filter test ys x passes there)

  from_cond : (test : X → Bool) (x y : X) (ys zs : List X) (b : Bool) → test y ≡ b → (Among zs x → Among ys x × (test x ≡ true)) → Among (cond b (y ∷ zs) zs) x
      → ((y ≡ x) ⊎ Among ys x) × (test x ≡ true)
  from_cond test x y ys zs true is rest (inl same) = (inl same, ap test (sym same) ∙ is)
  from_cond test x y ys zs true is rest (inr there) = let found = rest there in (inr found.0, found.1)
  from_cond test x y ys zs false is rest there = let found = rest there in (inr found.0, found.1)

  pub filter_among : (test : X → Bool) (xs : List X) (x : X) → Among (filter test xs) x → Among xs x × (test x ≡ true)
  filter_among test [] x there = absurd there
  filter_among test (y ∷ ys) x there = from_cond test x y ys (filter test ys) (test y) refl (filter_among test ys x) there

  pub all_at : (P : X → Type 0) (xs : List X) (x : X) → AllByRecursion P xs → Among xs x → P x
  all_at P [] x all there = absurd there
  all_at P (y ∷ ys) x all (inl same) = subst P same all.0
  all_at P (y ∷ ys) x all (inr there) = all_at P ys x all.1 there

  pub test_at : (test : X → Bool) (xs : List X) (x : X) → list_all test xs ≡ true → Among xs x → test x ≡ true
  test_at test [] x all there = absurd there
  test_at test (y ∷ ys) x all (inl same) = ap test (sym same) ∙ all_first test y ys all
  test_at test (y ∷ ys) x all (inr there) = test_at test ys x (all_rest test y ys all) there

  pub among_contains : (xs : List X) (x : X) → Among xs x → Contains xs x
  among_contains [] x there = absurd there
  among_contains (y ∷ ys) x (inl same) = (0, zero_first (length ys), same)
  among_contains (y ∷ ys) x (inr there) = let found = among_contains ys x there in let below = found.1 in (suc found.0, omega (arith, below), found.2)

pub among_map : {X Y : Type 0} (f : X → Y) (xs : List X) (x : X) → Among xs x → Among (map f xs) (f x)
among_map f [] x there = absurd there
among_map f (y ∷ ys) x (inl same) = inl (ap f same)
among_map f (y ∷ ys) x (inr there) = inr (among_map f ys x there)

pub all_by : {X Y : Type 0} (P : X → Type 0) (Q : Y → Type 0) (f : X → Y) (xs : List X) → ((x : X) → P x → Q (f x)) → AllByRecursion P xs → AllByRecursion Q (map f xs)
all_by P Q f [] made all = tt
all_by P Q f (x ∷ xs) made all = (made x all.0, all_by P Q f xs made all.1)

kept_all : {X : Type 0} (P : X → Type 0) (x : X) (xs : List X) (b : Bool) → P x → AllByRecursion P xs → AllByRecursion P (cond b (x ∷ xs) xs)
kept_all P x xs true here all = (here, all)
kept_all P x xs false here all = all

pub all_kept : {X : Type 0} (P : X → Type 0) (test : X → Bool) (xs : List X) → AllByRecursion P xs → AllByRecursion P (filter test xs)
all_kept P test [] all = tt
all_kept P test (x ∷ xs) all = kept_all P x (filter test xs) (test x) all.0 (all_kept P test xs all.1)
