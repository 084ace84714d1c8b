-- Worked examples: which answers fit a plan and a cut.
use Rattle.std.proofs.Common.{◌≡◌, ℕ, ℤ, pos, negsuc, true, false, Bool, [], ◌∷◌, map, replicate, Some, None, Option, refl}
use Rattle.std.specs.Str.{is_utf8, chars}
use lib.Utf8.{encode}
use Rattle.meaning.specs.declared.value.Value.{Value}
use Rattle.meaning.specs.declared.value.Value.TheVariants.{Null, Int, Text}
use Rattle.meaning.specs.declared.value.ColType.TheVariants as of_type
use Rattle.meaning.specs.declared.plan.AggregateKind.{AggregateKind}
use Rattle.meaning.specs.declared.plan.AggregateKind.TheVariants.{CountRows, Count, Sum, Min}
use Rattle.meaning.specs.declared.plan.Plan.{Plan}
use Rattle.meaning.specs.declared.answer.Statistics.{Statistics}
use Rattle.meaning.specs.declared.answer.Group.{Group}
use Rattle.meaning.specs.Said.{Body}
use Rattle.meaning.specs.declared.answer.Body.TheVariants.{Groups, Fault}
use Rattle.meaning.specs.Order.{Row}
use Rattle.meaning.specs.Aggregate.{no_statistics}
use Rattle.meaning.specs.Fitting.{fits}
use Rattle.meaning_laws.proofs.WorkedTables.{a, b, q, t, agg, totals}

-- SELECT t, SUM(q) FROM sales GROUP BY t
abbrev sums : Plan
sums = record (totals (agg Sum q ∷ []) []) { keys = record { expr = t; col_type = of_type.Text } ∷ [] }

-- SELECT KIND(q) FROM sales
abbrev total_of : AggregateKind → Plan
total_of kind = totals (agg kind q ∷ []) []

-- whether an answer for fragment 1, of the rows 2 to 4, fits
abbrev fits_at_1 : Plan → Body → Bool
fits_at_1 plan body = fits plan (2 ∷ 3 ∷ []) (record { k = 1; body = body })

abbrev summed : ℕ → ℤ → Statistics
summed count sum = record no_statistics { count = count; sum = sum }

abbrev group : Row → ℕ → Statistics → Group
group key rows state = record { key = key; rows = rows; states = state ∷ [] }

-- ---- keys, shape, order

fitting : fits_at_1 sums (Groups (group (Null ∷ []) 1 (summed 0 (pos 0)) ∷ group (a ∷ []) 2 (summed 2 (pos 7)) ∷ []))
    ≡ true
unfolding is_utf8 chars encode
fitting = refl

no_groups : fits_at_1 sums (Groups []) ≡ true
no_groups = refl

outside_the_cut : fits sums (2 ∷ 3 ∷ []) (record { k = 2; body = Groups [] }) ≡ false
outside_the_cut = refl

-- an integer for a text, no UTF-8, no key, two keys
keys_of_another_type : map (λ key. fits_at_1 sums (Groups (group key 1 (summed 1 (pos 7)) ∷ [])))
    ((Int (pos 1) ∷ []) ∷ (Text (255 ∷ []) ∷ []) ∷ [] ∷ (a ∷ b ∷ []) ∷ []) ≡ replicate 4 false
unfolding is_utf8 chars encode
keys_of_another_type = refl

-- a descending pair, and the same key twice
keys_out_of_order : map (λ key. fits_at_1 sums (Groups (group (b ∷ []) 1 (summed 1 (pos 7))
    ∷ group key 1 (summed 1 (pos 7)) ∷ []))) ((a ∷ []) ∷ (b ∷ []) ∷ []) ≡ replicate 2 false
unfolding is_utf8 chars encode
keys_out_of_order = refl

-- no state, two states
states_missing : map (λ states. fits_at_1 sums (Groups (record { key = a ∷ []; rows = 1; states = states } ∷ [])))
    ([] ∷ (summed 1 (pos 7) ∷ summed 1 (pos 7) ∷ []) ∷ []) ≡ replicate 2 false
unfolding is_utf8 chars encode
states_missing = refl

-- SUM keeps no least value
more_than_is_kept : fits_at_1 sums (Groups (group (a ∷ []) 1
    (record no_statistics { count = 1; sum = pos 7; least = Some (Int (pos 7)) }) ∷ [])) ≡ false
unfolding is_utf8 chars encode
more_than_is_kept = refl

-- ---- numbers

-- no row, as many as there are, one more
numbers_of_rows : map (λ rows. fits_at_1 sums (Groups (group (a ∷ []) rows (summed 0 (pos 0)) ∷ [])))
    (0 ∷ 3 ∷ 4 ∷ []) ≡ false ∷ true ∷ false ∷ []
unfolding is_utf8 chars encode
numbers_of_rows = refl

-- in two groups together
rows_together : map (λ rows. fits_at_1 sums (Groups (group (a ∷ []) 2 (summed 0 (pos 0))
    ∷ group (b ∷ []) rows (summed 0 (pos 0)) ∷ []))) (1 ∷ 2 ∷ []) ≡ true ∷ false ∷ []
unfolding is_utf8 chars encode
rows_together = refl

-- more entries than rows; a sum of no entry; the least sum of two entries, and one less
sums_of_entries : map (λ (p : ℕ × ℤ). fits_at_1 sums (Groups (group (a ∷ []) 2 (summed p.0 p.1) ∷ [])))
    ((3, pos 0) ∷ (0, pos 1) ∷ (2, negsuc 18446744073709551615) ∷ (2, negsuc 18446744073709551616) ∷ [])
    ≡ false ∷ false ∷ true ∷ false ∷ []
unfolding is_utf8 chars encode
sums_of_entries = refl

-- COUNT(*) counts each row
rows_counted : map (λ count. fits_at_1 (total_of CountRows) (Groups (group [] 2 (summed count (pos 0)) ∷ [])))
    (1 ∷ 2 ∷ []) ≡ false ∷ true ∷ []
rows_counted = refl

-- MIN has a value just where there is an entry, and it isn't NULL
least_there : map (λ (p : ℕ × Option Value). fits_at_1 (total_of Min)
    (Groups (group [] 2 (record no_statistics { count = p.0; least = p.1 }) ∷ [])))
    ((1, Some (Int (pos 7))) ∷ (1, None) ∷ (0, Some (Int (pos 7))) ∷ (1, Some Null) ∷ (1, Some a) ∷ (0, None) ∷ [])
    ≡ true ∷ false ∷ false ∷ false ∷ false ∷ true ∷ []
unfolding is_utf8 chars encode
least_there = refl

-- without GROUP BY there is one group, also of no rows
one_group : map (λ gs. fits_at_1 (total_of Count) (Groups gs))
    ([] ∷ (group [] 0 (summed 0 (pos 0)) ∷ []) ∷ (group [] 3 (summed 1 (pos 0)) ∷ []) ∷ []) ≡ false ∷ true ∷ true ∷ []
one_group = refl

-- ---- faults

-- in the rows 1 to 5, and of the codes 0 to 3
fault_rows : map (λ row. fits_at_1 sums (Fault (record { row = row; code = 1 }))) (1 ∷ 2 ∷ 4 ∷ 5 ∷ [])
    ≡ false ∷ true ∷ true ∷ false ∷ []
fault_rows = refl

fault_codes : map (λ code. fits_at_1 sums (Fault (record { row = 2; code = code }))) (0 ∷ 1 ∷ 2 ∷ 3 ∷ [])
    ≡ false ∷ true ∷ true ∷ false ∷ []
fault_codes = refl
