-- One more answer changes the cell of its fragment alone.
use Rattle.std.specs.Prelude.{◌≡◌, ℕ, zero, suc, ◌+◌, ◌<◌, ◌≢◌, cond, List, [], ◌∷◌, ◌++◌, map, length, slice_set, slice_index_or}
use Rattle.std.specs.List.{range_with_len}
use Rattle.std.proofs.Common.{refl, sym, ap, ◌∙◌, arith}
use Rattle.std.proofs.lemmas.Bool.{eq-eqb, ne_eqb}
use Rattle.std.proofs.lemmas.List.FromFn.{get_or-map-range_with_len}
use Rattle.meaning.specs.Said.{Body}
use Rattle.meaning.specs.Said.{Answer}
use Rattle.meaning.specs.declared.answer.Cell.TheVariants.{Nothing, One}
use Rattle.meaning.specs.Cut.{Cut}
use Rattle.meaning.specs.Gather.{join_cells, cell_of, said_of, joined}
use Rattle.meaning_laws.proofs.Cells.{cell_of-append, said_of-append}

module _ {X : Type 0} (f g : ℕ → X) (k : ℕ) (same : (j : ℕ) → j ≢ k → g j ≡ f j) where
  beyond : (a m : ℕ) → k < a → map g (range_with_len a m) ≡ map f (range_with_len a m)
  beyond a zero past = refl
  beyond a (suc m) past =
      let next = beyond (a + 1) m (omega arith) in
      let here = same a (omega arith) in
      λ i. here i ∷ next i

  -- two lists of answers by fragment, which differ at one fragment alone
  changed_at : (a m i : ℕ) → a + i ≡ k → map g (range_with_len a m) ≡ slice_set (map f (range_with_len a m)) i (g k)
  changed_at a zero zero e = refl
  changed_at a zero (suc i) e = refl
  changed_at a (suc m) zero e =
      let next = beyond (a + 1) m (omega arith) in
      let at_k : a ≡ k = omega arith in
      λ i. g (at_k i) ∷ next i
  changed_at a (suc m) (suc i) e =
      let here = same a (omega arith) in
      let next = changed_at (a + 1) m i (omega arith) in
      λ j. here j ∷ next j

module _ (answers : List Answer) (a : Answer) where
  at_own : cell_of (said_of a.k (answers ++ a ∷ [])) ≡ join_cells (cell_of (said_of a.k answers)) (One a.body)
  at_own =
      ap cell_of (said_of-append a.k answers (a ∷ [])) ∙ cell_of-append (said_of a.k answers) (said_of a.k (a ∷ []))
      ∙ ap (λ b. join_cells (cell_of (said_of a.k answers)) (cell_of (map (λ x. x.body) (cond b (a ∷ []) []))))
      (eq-eqb a.k a.k refl)

  append_nil : (xs : List Body) → xs ++ [] ≡ xs
  append_nil [] = refl
  append_nil (x ∷ xs) = ap (λ ys. x ∷ ys) (append_nil xs)

  elsewhere : (k : ℕ) → k ≢ a.k → cell_of (said_of k (answers ++ a ∷ [])) ≡ cell_of (said_of k answers)
  elsewhere k other =
      ap cell_of (said_of-append k answers (a ∷ [])
      ∙ ap (λ b. said_of k answers ++ map (λ (x : Answer). x.body) (cond b (a ∷ []) []))
      (ne_eqb a.k k (λ e. other (sym e))) ∙ append_nil (said_of k answers))

  -- the state with one more answer
  pub joined-push : (cut : Cut) → a.k < length cut → joined cut (answers ++ a ∷ [])
      ≡ slice_set (joined cut answers) a.k (join_cells (slice_index_or (joined cut answers) a.k Nothing) (One a.body))
  joined-push cut below =
      changed_at (λ k. cell_of (said_of k answers)) (λ k. cell_of (said_of k (answers ++ a ∷ []))) a.k elsewhere 0
      (length cut) a.k (omega arith)
      ∙ ap (slice_set (joined cut answers) a.k)
      (at_own ∙ ap (λ c. join_cells c (One a.body))
      (sym (get_or-map-range_with_len (λ k. cell_of (said_of k answers)) 0 (length cut) a.k a.k Nothing below
      (omega arith))))
