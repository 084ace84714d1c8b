-- The records of a text are as many as end among its bytes and at its end.
use Rattle.std.proofs.Common.{◌≡◌, ◌+◌, ◌==◌, ◌∙◌, ℕ, suc, Bool, true, false, List, [], ◌∷◌, ◌++◌, length, Some, None, refl, ap, arith}
use Rattle.std.specs.Prelude.{Option, ◌||◌, if◌then◌else◌}
use Rattle.std.specs.Int.{from_bool}
use Rattle.csv.specs.declared.parser.State.{State}
use Rattle.csv.specs.declared.parser.State.TheVariants as st
use Rattle.csv.specs.declared.parser.Action.{Action}
use Rattle.csv.specs.declared.parser.Action.TheVariants as act
use Rattle.csv.specs.Machine.{Read, next_record, step, is_end, fields_after, field_after, ends_at_end, start_field}
use Rattle.csv.specs.Reading.{Reached, default_config, records}
use Rattle.meaning.specs.Records.{Record}
use Rattle.loader.specs.Counting.{settled, next_state, ends_record, records_left}
use Rattle.loader.proofs.CsvRecords.{all_records}

-- a line feed behind a carriage return is passed over, as it is before a record
line_feed_first : (cr lf : Bool) (other : State × Action) → (if cr || lf then (st.StartRecord, act.Skip) else other) ≡ (if lf then (st.StartRecord, act.Skip) else (if cr || lf then (st.StartRecord, act.Skip) else other))
line_feed_first true true other = refl
line_feed_first true false other = refl
line_feed_first false true other = refl
line_feed_first false false other = refl

step_settled : (s : State) (c : ℕ) → (next_state (settled s) c ≡ settled (step default_config s c).0) × (ends_record (settled s) c ≡ is_end (step default_config s c).1)
unfolding next_state ends_record
step_settled st.StartRecord c = (refl, refl)
step_settled st.StartField c = (refl, refl)
step_settled st.InField c = (refl, refl)
step_settled st.InQuoted c = (refl, refl)
step_settled st.AfterQuote c = (refl, refl)
step_settled st.InEscape c = (refl, refl)
step_settled st.InComment c = (refl, refl)
step_settled st.AfterCr c =
    let same = line_feed_first (c == 13) (c == 10) (start_field default_config c) in
    (ap (λ (q : State × Action). settled q.0) same, ap (λ (q : State × Action). is_end q.1) same)

end_settled : (s : State) → ends_at_end (settled s) ≡ ends_at_end s
end_settled st.StartRecord = refl
end_settled st.StartField = refl
end_settled st.InField = refl
end_settled st.InQuoted = refl
end_settled st.AfterQuote = refl
end_settled st.InEscape = refl
end_settled st.InComment = refl
end_settled st.AfterCr = refl

-- a byte, and what is left behind it
left_behind : (s : State) (c : ℕ) (xs : List ℕ) → records_left (settled s) (c ∷ xs) ≡ from_bool (is_end (step default_config s c).1) + records_left (settled (step default_config s c).0) xs
left_behind s c xs =
    let (goes, ends) = step_settled s c in
    rw (goes, ends) (omega arith)

-- the record that the end of a text ends, if it does
abbrev last_record : Bool → Record → Option Read
last_record b fields = if b then Some (fields, st.StartRecord, []) else None

at_end : (s : State) (b : Bool) (fields : Record) (p : Read) → ends_at_end s ≡ b → last_record b fields ≡ Some p → records_left (settled s) [] ≡ suc (records_left (settled p.1) p.2)
at_end s true fields p ends e =
    let state : p.1 ≡ st.StartRecord = cc e in
    let rest : p.2 ≡ [] = cc e in
    rw (state, rest, end_settled s, ends) refl
at_end s false fields p ends e = cc e

-- one record more ends in a text than behind its first
one_more : (xs : List ℕ) (s : State) (fields : Record) (field : List ℕ) (p : Read) → next_record default_config s fields field xs ≡ Some p → records_left (settled s) xs ≡ suc (records_left (settled p.1) p.2)
unfolding next_record
one_more [] s fields field p e = at_end s (ends_at_end s) (fields ++ field ∷ []) p refl e
one_more (c ∷ xs) s fields field p e = by (is_end (step default_config s c).1) refl e (one_more xs (step default_config s c).0 _ _ p)
  where
    by : (b : Bool) → is_end (step default_config s c).1 ≡ b
        → (if b then Some (fields_after (step default_config s c).1 fields field, (step default_config s c).0, xs) else next_record default_config (step default_config s c).0 (fields_after (step default_config s c).1 fields field) (field_after (step default_config s c).1 c field) xs) ≡ Some p
        → (next_record default_config (step default_config s c).0 (fields_after (step default_config s c).1 fields field) (field_after (step default_config s c).1 c field) xs ≡ Some p → records_left (settled (step default_config s c).0) xs ≡ suc (records_left (settled p.1) p.2))
        → records_left (settled s) (c ∷ xs) ≡ suc (records_left (settled p.1) p.2)
    by true ends first behind =
        let state : p.1 ≡ (step default_config s c).0 = cc first in
        let rest : p.2 ≡ xs = cc first in
        left_behind s c xs ∙ rw (ends, state, rest) (omega arith)
    by false ends more behind =
        let later = behind more in
        left_behind s c xs ∙ rw (ends, later) (omega arith)

at_last : (s : State) (b : Bool) (fields : Record) → ends_at_end s ≡ b → last_record b fields ≡ None → records_left (settled s) [] ≡ 0
at_last s true fields ends e = cc e
at_last s false fields ends e = rw (end_settled s, ends) refl

-- where there is no record, none ends
no_more : (xs : List ℕ) (s : State) (fields : Record) (field : List ℕ) → next_record default_config s fields field xs ≡ None → records_left (settled s) xs ≡ 0
unfolding next_record
no_more [] s fields field e = at_last s (ends_at_end s) (fields ++ field ∷ []) refl e
no_more (c ∷ xs) s fields field e = by (is_end (step default_config s c).1) refl e (no_more xs (step default_config s c).0 _ _)
  where
    by : (b : Bool) → is_end (step default_config s c).1 ≡ b
        → (if b then Some (fields_after (step default_config s c).1 fields field, (step default_config s c).0, xs) else next_record default_config (step default_config s c).0 (fields_after (step default_config s c).1 fields field) (field_after (step default_config s c).1 c field) xs) ≡ None
        → (next_record default_config (step default_config s c).0 (fields_after (step default_config s c).1 fields field) (field_after (step default_config s c).1 c field) xs ≡ None → records_left (settled (step default_config s c).0) xs ≡ 0)
        → records_left (settled s) (c ∷ xs) ≡ 0
    by true ends first behind = cc first
    by false ends more behind =
        let later = behind more in
        left_behind s c xs ∙ rw (ends, later) (omega arith)

counted_to : (rows : List Record) (s s2 : State) (xs ys : List ℕ) → Reached default_config s xs rows s2 ys → records_left (settled s) xs ≡ length rows + records_left (settled s2) ys
unfolding Reached
counted_to [] s s2 xs ys (state, bytes) = rw (state, bytes) (omega arith)
counted_to (r ∷ rows) s s2 xs ys (p, next, same, more) =
    let first = one_more xs s [] [] p next in
    let others = counted_to rows p.1 s2 p.2 ys more in
    first ∙ omega (arith, others)

pub all_counted : (bytes : List ℕ) → length (records default_config bytes) ≡ records_left st.StartRecord bytes
all_counted bytes =
    let (s2, ys, reached, end) = all_records default_config bytes in
    let counted = counted_to (records default_config bytes) st.StartRecord s2 bytes ys reached in
    let none = no_more ys s2 [] [] end in
    omega (arith, counted, none)
