-- What is chosen by a test of integers, as the bits of comparisons.
use Rattle.std.specs.Prelude.{◌≡◌, ℕ, ℤ, Bool, true, false, cond, int_lt, List, [], ◌∷◌, map}
use Rattle.std.proofs.Common.{refl, arith, ◌∙◌, Fits, Fits-lit, w8}
use Rattle.std.specs.Int.{from_bool}
use Rattle.std.specs.declared.cmp.Ordering.{Ordering}
use Rattle.std.specs.declared.cmp.Ordering.TheVariants.{Less, Equal, Greater}
use Rattle.std.specs.Ordering.{int_cmp, int_eq, is_eq, is_ne, is_lt, is_le, is_gt, is_ge}
use Rattle.std.specs.Simd.Lanes.{zip2, Each1}
use Rattle.std.proofs.lemmas.Int.{ints}
use Rattle.std.proofs.lemmas.Simd.{Each1-zip2, Each2-all}

abbrev ordered : Bool → Bool → Ordering
ordered less more = cond less Less (cond more Greater Equal)

equal_bit : (o : Ordering) → cond {A = ℕ} (is_eq o) 1 0 ≡ from_bool (is_eq o)
equal_bit Less = refl
equal_bit Equal = refl
equal_bit Greater = refl

not_equal_bit : (o : Ordering) → cond {A = ℕ} (is_eq o) 0 1 ≡ from_bool (is_ne o)
not_equal_bit Less = refl
not_equal_bit Equal = refl
not_equal_bit Greater = refl

less_bit : (less more : Bool) → cond {A = ℕ} less 1 0 ≡ from_bool (is_lt (ordered less more))
less_bit true more = refl
less_bit false true = refl
less_bit false false = refl

greater_or_equal_bit : (less more : Bool) → cond {A = ℕ} less 0 1 ≡ from_bool (is_ge (ordered less more))
greater_or_equal_bit true more = refl
greater_or_equal_bit false true = refl
greater_or_equal_bit false false = refl

-- no integer is both less and greater
apart : (a b : ℤ) → int_lt a b ≡ true → int_lt b a ≡ false
apart a b less = grind (arith, ints)

greater_bit : (less more : Bool) → (less ≡ true → more ≡ false) → cond {A = ℕ} more 1 0 ≡ from_bool (is_gt (ordered less more))
greater_bit true more not_both = λ k. cond {A = ℕ} (not_both refl k) 1 0
greater_bit false true not_both = refl
greater_bit false false not_both = refl

less_or_equal_bit : (less more : Bool) → (less ≡ true → more ≡ false) → cond {A = ℕ} more 0 1 ≡ from_bool (is_le (ordered less more))
less_or_equal_bit true more not_both = λ k. cond {A = ℕ} (not_both refl k) 0 1
less_or_equal_bit false true not_both = refl
less_or_equal_bit false false not_both = refl

turned : (f : ℤ → ℤ → ℕ) (xs ys : List ℤ) → zip2 (λ b a. f a b) ys xs ≡ zip2 f xs ys
turned f [] [] = refl
turned f [] (y ∷ ys) = refl
turned f (x ∷ xs) [] = refl
turned f (x ∷ xs) (y ∷ ys) = λ k. f x y ∷ turned f xs ys k

bit_fits : (b : Bool) → Fits w8 (from_bool b)
bit_fits true = Fits-lit tt
bit_fits false = Fits-lit tt

module _ (xs ys : List ℤ) where
  pub equal_bits : zip2 (λ a b. cond {A = ℕ} (int_eq a b) 1 0) xs ys ≡ zip2 (λ a b. from_bool (is_eq (int_cmp a b))) xs ys
  equal_bits k = zip2 (λ a b. equal_bit (int_cmp a b) k) xs ys

  pub not_equal_bits : zip2 (λ a b. cond {A = ℕ} (int_eq a b) 0 1) xs ys ≡ zip2 (λ a b. from_bool (is_ne (int_cmp a b))) xs ys
  not_equal_bits k = zip2 (λ a b. not_equal_bit (int_cmp a b) k) xs ys

  pub less_bits : zip2 (λ a b. cond {A = ℕ} (int_lt a b) 1 0) xs ys ≡ zip2 (λ a b. from_bool (is_lt (int_cmp a b))) xs ys
  less_bits k = zip2 (λ a b. less_bit (int_lt a b) (int_lt b a) k) xs ys

  pub greater_or_equal_bits : zip2 (λ a b. cond {A = ℕ} (int_lt a b) 0 1) xs ys ≡ zip2 (λ a b. from_bool (is_ge (int_cmp a b))) xs ys
  greater_or_equal_bits k = zip2 (λ a b. greater_or_equal_bit (int_lt a b) (int_lt b a) k) xs ys

  pub greater_bits : zip2 (λ b a. cond {A = ℕ} (int_lt b a) 1 0) ys xs ≡ zip2 (λ a b. from_bool (is_gt (int_cmp a b))) xs ys
  greater_bits = turned (λ a b. cond {A = ℕ} (int_lt b a) 1 0) xs ys ∙ (λ k. zip2 (λ a b. greater_bit (int_lt a b) (int_lt b a) (apart a b) k) xs ys)

  pub less_or_equal_bits : zip2 (λ b a. cond {A = ℕ} (int_lt b a) 0 1) ys xs ≡ zip2 (λ a b. from_bool (is_le (int_cmp a b))) xs ys
  less_or_equal_bits = turned (λ a b. cond {A = ℕ} (int_lt b a) 0 1) xs ys ∙ (λ k. zip2 (λ a b. less_or_equal_bit (int_lt a b) (int_lt b a) (apart a b) k) xs ys)

  -- eight bits hold each of them
  pub bits_fit : (t : ℤ → ℤ → Bool) → Each1 (Fits w8) (zip2 (λ a b. from_bool (t a b)) xs ys)
  bits_fit t = Each1-zip2 (λ a b. from_bool (t a b)) (Fits w8) xs ys (Each2-all (λ a b. Fits w8 (from_bool (t a b))) (λ a b. bit_fits (t a b)) xs ys)

-- the same beside one integer
module _ (xs : List ℤ) (y : ℤ) where
  pub equal_bits_to : map (λ a. cond {A = ℕ} (int_eq a y) 1 0) xs ≡ map (λ a. from_bool (is_eq (int_cmp a y))) xs
  equal_bits_to k = map (λ a. equal_bit (int_cmp a y) k) xs

  pub not_equal_bits_to : map (λ a. cond {A = ℕ} (int_eq a y) 0 1) xs ≡ map (λ a. from_bool (is_ne (int_cmp a y))) xs
  not_equal_bits_to k = map (λ a. not_equal_bit (int_cmp a y) k) xs

  pub less_bits_to : map (λ a. cond {A = ℕ} (int_lt a y) 1 0) xs ≡ map (λ a. from_bool (is_lt (int_cmp a y))) xs
  less_bits_to k = map (λ a. less_bit (int_lt a y) (int_lt y a) k) xs

  pub greater_or_equal_bits_to : map (λ a. cond {A = ℕ} (int_lt a y) 0 1) xs ≡ map (λ a. from_bool (is_ge (int_cmp a y))) xs
  greater_or_equal_bits_to k = map (λ a. greater_or_equal_bit (int_lt a y) (int_lt y a) k) xs

  pub greater_bits_to : map (λ a. cond {A = ℕ} (int_lt y a) 1 0) xs ≡ map (λ a. from_bool (is_gt (int_cmp a y))) xs
  greater_bits_to k = map (λ a. greater_bit (int_lt a y) (int_lt y a) (apart a y) k) xs

  pub less_or_equal_bits_to : map (λ a. cond {A = ℕ} (int_lt y a) 0 1) xs ≡ map (λ a. from_bool (is_le (int_cmp a y))) xs
  less_or_equal_bits_to k = map (λ a. less_or_equal_bit (int_lt a y) (int_lt y a) (apart a y) k) xs

pub each_bit_fits : (t : ℤ → Bool) (xs : List ℤ) → Each1 (Fits w8) (map (λ a. from_bool (t a)) xs)
each_bit_fits t [] = tt
each_bit_fits t (x ∷ xs) = (bit_fits (t x), each_bit_fits t xs)
