-- The fault and the kept rows of the whole, from those of its fragments.
use Rattle.std.specs.Prelude.{◌≡◌, ℕ, List, [], ◌∷◌, ◌++◌, filter_map, flat_map, length, sum, Option, Some, None}
use Rattle.std.specs.List.{range_with_len, cons_option}
use Rattle.std.proofs.Common.{refl, sym, ap, ◌∙◌}
use Rattle.meaning.specs.declared.plan.Plan.{Plan}
use Rattle.meaning.specs.declared.answer.RowFault.{RowFault}
use Rattle.meaning.specs.Order.{Row, lesser, least}
use Rattle.meaning.specs.Cut.{Cut, numbered, fragment, part}
use Rattle.meaning.specs.Judge.{row_fault, kept_rows, fault_cmp}
use Rattle.meaning_laws.proofs.Combine.{row_fault-append, kept_rows-append}
use Rattle.meaning_laws.proofs.Cuts.{part-all}

module _ (plan : Plan) (dims : List (List Row)) (cut : Cut) (rows : List Row) where
  abbrev fault_at : ℕ → Option RowFault
  fault_at k = row_fault plan dims (fragment cut k rows)

  least-filter_map : (k : ℕ) (ks : List ℕ) → lesser fault_cmp (fault_at k) (least fault_cmp (filter_map fault_at ks))
      ≡ least fault_cmp (filter_map fault_at (k ∷ ks))
  least-filter_map k ks = elim (fault_at k) as
      (λ f. lesser fault_cmp f (least fault_cmp (filter_map fault_at ks))
      ≡ least fault_cmp (cons_option f (filter_map fault_at ks))) [ None ↦ refl | Some f ↦ refl ]

  faults : (ks : List ℕ) → row_fault plan dims (part cut ks rows) ≡ least fault_cmp (filter_map fault_at ks)
  faults [] = refl
  faults (k ∷ ks) = row_fault-append plan dims (fragment cut k rows) (part cut ks rows)
      ∙ ap (lesser fault_cmp (fault_at k)) (faults ks) ∙ least-filter_map k ks

  kept : (ks : List ℕ) → kept_rows plan dims (part cut ks rows)
      ≡ flat_map (λ k. kept_rows plan dims (fragment cut k rows)) ks
  kept [] = refl
  kept (k ∷ ks) = kept_rows-append plan dims (fragment cut k rows) (part cut ks rows)
      ∙ ap (λ rest. kept_rows plan dims (fragment cut k rows) ++ rest) (kept ks)

  pub fault_of_whole : sum cut ≡ length rows → row_fault plan dims (numbered rows)
      ≡ least fault_cmp (filter_map fault_at (range_with_len 0 (length cut)))
  fault_of_whole whole = ap (row_fault plan dims) (sym (part-all cut rows whole))
      ∙ faults (range_with_len 0 (length cut))

  pub kept_of_whole : sum cut ≡ length rows → kept_rows plan dims (numbered rows)
      ≡ flat_map (λ k. kept_rows plan dims (fragment cut k rows)) (range_with_len 0 (length cut))
  kept_of_whole whole = ap (kept_rows plan dims) (sym (part-all cut rows whole)) ∙ kept (range_with_len 0 (length cut))
