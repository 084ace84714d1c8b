-- Lanes that are stored some at a time.
use Rattle.std.specs.Prelude.{◌≡◌, ℕ, ◌+◌, ◌-◌, ◌<◌, ◌≤◌, true, false, List, length, get_or}
use Rattle.std.proofs.Common.{refl, subst, arith, ◌∙◌, ltb, ltb-true, ltb-false}
use Rattle.std.specs.Simd.Lanes.{put_chunk}
use Rattle.std.proofs.lemmas.Simd.{length-put_chunk, get_or-put_chunk_below, get_or-put_chunk_at}
use Rattle.lane_kernels.specs.Lanes.{AreFilled}

module _ {X : Type 0} (blank : X) (n : ℕ) (meant : ℕ → X) where
  -- some lanes more are filled
  pub stored_more : (out ys : List X) (start k : ℕ) → AreFilled blank n start meant out → length ys ≡ k → start + k ≤ n
      → ((j : ℕ) → j < k → get_or ys j blank ≡ meant (start + j)) → AreFilled blank n (start + k) meant (put_chunk start out ys)
  stored_more out ys start k so_far long room lanes = record { long = length-put_chunk start out ys ∙ so_far.long; each = each } where
    each : (j : ℕ) → j < start + k → get_or (put_chunk start out ys) j blank ≡ meant j
    each j below = elim (ltb j start) as (λ b. ltb j start ≡ b → get_or (put_chunk start out ys) j blank ≡ meant j) [
      | true ↦ λ e. let before : j < start = ltb-true j start e in get_or-put_chunk_below start out ys j blank before ∙ so_far.each j before
      | false ↦ λ e.
          let past : start ≤ j = ltb-false j start e in
          let at : start + (j - start) ≡ j = omega (arith, past) in
          let near : j - start < k = omega (arith, past, below) in
          subst (λ (i : ℕ). get_or (put_chunk start out ys) i blank ≡ meant i) at
          (get_or-put_chunk_at start out ys (j - start) blank (omega (arith, near, long)) (omega (arith, long, room, so_far.long)) ∙ lanes (j - start) near)
    ] refl
