-- The least width that holds a number.
use Rattle.std.proofs.Common.{◌≡◌, ℕ, ◌+◌, ◌-◌, ◌*◌, ◌^◌, ◌<◌, ◌≤◌, Bool, true, false, refl, sym, ap, subst, ◌∙◌, suc, zero, arith, lit<, Some, zero-add}
use Rattle.std.specs.Prelude.{nat_lt, unwrap_or}
use Rattle.std.specs.List.{range_with_len, find}
use Rattle.std.specs.Int.Count.{count_leading_zeros}
use Rattle.std.proofs.lemmas.Bool.{lt-ltb, le-ltb}
use Rattle.std.proofs.lemmas.Nat.{leading_length, pow-add}
use Rattle.std.proofs.Math.Nat.{pow-le-pow_right}
use Rattle.bit_packing.specs.Widths.{IsWidth}

find_first : (p : ℕ → Bool) (a k m : ℕ) → m < k → p (a + m) ≡ true → ((j : ℕ) → j < m → p (a + j) ≡ false) → find p (range_with_len a k) ≡ Some (a + m)
find_first p a zero m l t f = absurd (omega arith)
find_first p a (suc k) zero l t f = let e : a + 0 ≡ a = omega arith in let q : p a ≡ true = ap p (sym e) ∙ t in rw (q, e) refl
find_first p a (suc k) (suc m) l t f =
    let e : a + 0 ≡ a = omega arith in
    let q : p a ≡ false = ap p (sym e) ∙ f 0 (omega arith) in
    let g : (a + 1) + m ≡ a + suc m = omega arith in
    rw q (find_first p (a + 1) k m (omega arith) (ap p g ∙ t) (λ j h. let i : (a + 1) + j ≡ a + suc j = omega arith in ap p i ∙ f (suc j) (omega arith)) ∙ ap Some g)

below_width : (n m j : ℕ) → 2 ^ m ≤ 2 * n + 1 → j < m → nat_lt n (2 ^ j) ≡ false
below_width n m j h l =
    let next : j + 1 ≤ m = omega arith in
    let grows : 2 ^ (j + 1) ≤ 2 ^ m = pow-le-pow_right (lit< tt) next in
    let double : 2 ^ (j + 1) ≡ 2 ^ j * 2 = pow-add 2 j 1 in
    le-ltb n (2 ^ j) (omega arith)

pub width_is : (n : ℕ) → n < 2 ^ 64 → IsWidth n (64 - count_leading_zeros 64 n)
width_is n h =
    let l = leading_length 64 n h in
    let m = l.0 in
    let few : m ≤ 64 = omega (arith, l.1) in
    let e : 64 - count_leading_zeros 64 n ≡ m = let c = l.1 in omega arith in
    let found : find (λ width. nat_lt n (2 ^ width)) (range_with_len 0 65) ≡ Some (0 + m) =
    find_first (λ width. nat_lt n (2 ^ width)) 0 65 m (omega arith) (lt-ltb n (2 ^ (0 + m)) (rw zero-add l.2)) (λ j k. rw zero-add (below_width n m j l.3 k)) in
    let facts : IsWidth n m = record { holds = l.2; needed = l.3; least = sym (ap (λ o. unwrap_or o 64) found ∙ zero-add m); bound = few } in
    subst (λ (w : ℕ). IsWidth n w) (sym e) facts
