-- Results in a row, of which the first fault counts.
use Rattle.std.specs.Prelude.{List, [], ◌∷◌, Result, Ok, Err}

-- a result in front of others: its fault comes first
abbrev pub with_result : {X E : Type 0} → Result X E → Result (List X) E → Result (List X) E
with_result (Err c) others = Err c
with_result (Ok x) (Err c) = Err c
with_result (Ok x) (Ok xs) = Ok (x ∷ xs)

-- all the results, or the first fault
abbrev pub all_ok : {X E : Type 0} → List (Result X E) → Result (List X) E
all_ok [] = Ok []
all_ok (r ∷ rs) = with_result r (all_ok rs)

-- what goes on from a result
abbrev pub and_then : {X Y E : Type 0} → Result X E → (X → Result Y E) → Result Y E
and_then (Err c) next = Err c
and_then (Ok x) next = next x
