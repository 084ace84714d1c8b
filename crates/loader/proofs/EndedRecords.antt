-- The records that end among bytes, one byte after the other.
use Rattle.std.proofs.Common.{◌≡◌, ◌-◌, ◌≤◌, ◌+◌, ◌==◌, ◌∙◌, ℕ, zero, suc, Bool, true, false, not, List, [], ◌∷◌, ◌++◌, length, take, refl, sym, ap, arith, subst}
use Rattle.std.specs.Prelude.{◌&&◌, ◌||◌, if◌then◌else◌, slice_get, Some}
use Rattle.std.specs.List.{list_any}
use Rattle.std.proofs.lemmas.Bool.{eqb-true}
use Rattle.std.proofs.lemmas.List.{length-take}
use borrow.Author.Tests.{ne_eqb}
use Rattle.std.specs.Int.{from_bool}
use Rattle.csv.specs.declared.parser.State.{State}
use Rattle.csv.specs.declared.parser.State.TheVariants as st
use Rattle.csv.specs.declared.parser.Action.{Action}
use Rattle.csv.specs.declared.parser.Action.TheVariants as act
use Rattle.csv.specs.Machine.{is_end, ends_at_end, in_field, start_field, after_end}
use Rattle.csv.specs.Reading.{default_config}
use Rattle.loader.proofs.Judging.{taken}
use Rattle.loader.specs.declared.record_state.RecordState.{RecordState}
use Rattle.loader.specs.declared.record_state.RecordState.TheVariants as record_state
use Rattle.loader.specs.Counting.{settled, next_state, ends_record, state_behind, ended_in, records_left, is_unquoted, is_quote, is_line_end, state_at}

-- ---- lists of bytes

pub ended_append : (xs ys : List ℕ) (s : State) → ended_in s (xs ++ ys) ≡ ended_in s xs + ended_in (state_behind s xs) ys
ended_append [] ys s = omega arith
ended_append (x ∷ xs) ys s = let behind = ended_append xs ys (next_state s x) in omega (arith, behind)

pub behind_append : (xs ys : List ℕ) (s : State) → state_behind s (xs ++ ys) ≡ state_behind (state_behind s xs) ys
behind_append [] ys s = refl
behind_append (x ∷ xs) ys s = behind_append xs ys (next_state s x)

pub left_append : (xs ys : List ℕ) (s : State) → records_left s (xs ++ ys) ≡ ended_in s xs + records_left (state_behind s xs) ys
left_append xs ys s =
    let ended = ended_append xs ys s in
    let last = ap (λ (state : State). from_bool (ends_at_end state)) (behind_append xs ys s) in
    omega (arith, ended, last)

pub from_bool_few : (b : Bool) → from_bool b ≤ 1
from_bool_few true = omega arith
from_bool_few false = omega arith

pub ended_few : (xs : List ℕ) (s : State) → ended_in s xs ≤ length xs
ended_few [] s = omega arith
ended_few (x ∷ xs) s =
    let behind = ended_few xs (next_state s x) in
    let here = from_bool_few (ends_record s x) in
    omega (arith, behind, here)

-- ---- one byte

-- a byte isn't two
another : (c a b : ℕ) (differ : (a == b) ≡ false) → (c == a) ≡ true → (c == b) ≡ false
another c a b differ is = let same = eqb-true c a is in rw same differ

no_line_end : (c a : ℕ) → (a == 13) ≡ false → (a == 10) ≡ false → (c == a) ≡ true → is_line_end c ≡ false
no_line_end c a cr lf is = let first = another c a 13 cr is in let second = another c a 10 lf is in rw (first, second) refl

-- what a byte does in a field that isn't quoted, by whether it is a comma or ends a line
abbrev field_step : Bool → Bool → State → State × Action
field_step comma ends after = if comma then (st.StartField, act.EndField) else if ends then (after, act.EndRecord) else (st.InField, act.Copy)

-- the state behind a line end
abbrev line_end_state : Bool → State
line_end_state cr = if cr then st.AfterCr else st.StartRecord

field_ends : (comma ends : Bool) (after : State) → (comma ≡ true → ends ≡ false) → is_end (field_step comma ends after).1 ≡ ends
field_ends true ends after apart = sym (apart refl)
field_ends false true after apart = refl
field_ends false false after apart = refl

-- in a field that isn't quoted, a line end ends the record
in_field_ends : (c : ℕ) → is_end (in_field default_config c).1 ≡ is_line_end c
in_field_ends c = field_ends (c == 44) (is_line_end c) (after_end default_config.terminator c) (no_line_end c 44 refl refl)

quoted_ends : (quote ends : Bool) (x : State) (other : State × Action) → (quote ≡ true → ends ≡ false) → is_end other.1 ≡ ends → is_end (if quote then (x, act.Skip) else other).1 ≡ ends
quoted_ends true ends x other apart is = sym (apart refl)
quoted_ends false ends x other apart is = is

copied_ends : (quote ends : Bool) (x : State) (other : State × Action) → (quote ≡ true → ends ≡ false) → is_end other.1 ≡ ends → is_end (if quote then (x, act.Copy) else other).1 ≡ ends
copied_ends true ends x other apart is = sym (apart refl)
copied_ends false ends x other apart is = is

never_ends : (ends : Bool) (x : State) (other : State × Action) → is_end other.1 ≡ ends → is_end (if ends then (x, act.Skip) else other).1 ≡ false
never_ends true x other is = refl
never_ends false x other is = is

abbrev quoted_step : Bool → State → State → State × Action
quoted_step quote x y = if quote then (x, act.Skip) else (y, act.Copy)

within_quotes : (quote : Bool) (x y : State) → is_end (quoted_step quote x y).1 ≡ false
within_quotes true x y = refl
within_quotes false x y = refl

start_ends : (c : ℕ) → is_end (start_field default_config c).1 ≡ is_line_end c
start_ends c = quoted_ends (c == 34) (is_line_end c) st.InQuoted (in_field default_config c) (no_line_end c 34 refl refl) (in_field_ends c)

-- whether a byte ends a record, from state to state
pub between_ends : (c : ℕ) → ends_record st.StartRecord c ≡ false
unfolding ends_record
between_ends c = never_ends (is_line_end c) st.StartRecord (start_field default_config c) (start_ends c)

pub start_field_ends : (c : ℕ) → ends_record st.StartField c ≡ is_line_end c
unfolding ends_record
start_field_ends c = start_ends c

pub field_ends_at : (c : ℕ) → ends_record st.InField c ≡ is_line_end c
unfolding ends_record
field_ends_at c = in_field_ends c

pub quoted_ends_never : (c : ℕ) → ends_record st.InQuoted c ≡ false
unfolding ends_record
quoted_ends_never c = within_quotes (c == 34) st.AfterQuote st.InQuoted

pub quote_end_ends : (c : ℕ) → ends_record st.AfterQuote c ≡ is_line_end c
unfolding ends_record
quote_end_ends c = copied_ends (c == 34) (is_line_end c) st.InQuoted (in_field default_config c) (no_line_end c 34 refl refl) (in_field_ends c)

-- before a record, line ends are passed over
ends_settled : (comma cr lf : Bool) → (comma ≡ true → (cr || lf) ≡ false) → (cr || lf) ≡ true → settled (field_step comma (cr || lf) (line_end_state cr)).0 ≡ st.StartRecord
ends_settled true cr lf apart e = let not_so = apart refl in cc (e, not_so)
ends_settled false true lf apart e = refl
ends_settled false false true apart e = refl
ends_settled false false false apart e = cc e

-- a line end leads to the next record
pub line_end_settles : (c : ℕ) → is_line_end c ≡ true → settled (in_field default_config c).0 ≡ st.StartRecord
line_end_settles c ends = ends_settled (c == 44) (c == 13) (c == 10) (no_line_end c 44 refl refl) ends

passed_over : (ends quote : Bool) (other : State × Action) → (quote ≡ true → ends ≡ false) → (ends ≡ true → settled other.0 ≡ st.StartRecord)
    → settled (if ends then (st.StartRecord, act.Skip) else if quote then (st.InQuoted, act.Skip) else other).0 ≡ settled (if quote then (st.InQuoted, act.Skip) else other).0
passed_over true true other apart settles = let not_so = apart refl in cc not_so
passed_over true false other apart settles = sym (settles refl)
passed_over false quote other apart settles = refl

-- before a record it goes on as at the beginning of a field
pub between_goes : (c : ℕ) → next_state st.StartRecord c ≡ settled (start_field default_config c).0
unfolding next_state
between_goes c = passed_over (is_line_end c) (c == 34) (in_field default_config c) (no_line_end c 34 refl refl) (line_end_settles c)

-- ---- bytes among which no quote is

not_so : (b : Bool) → b && false ≡ false
not_so true = refl
not_so false = refl

so : (b : Bool) → b && true ≡ b
so true = refl
so false = refl

unquoted_start : (quote : Bool) (x : State) (a : Action) (other : State × Action) → quote ≡ false → (if quote then (x, a) else other) ≡ other
unquoted_start true x a other e = cc e
unquoted_start false x a other e = refl

-- where a byte that is no quote leads, outside of quotes
pub plain_next : (s : State) (c : ℕ) → is_unquoted s ≡ true → is_quote c ≡ false → next_state s c ≡ settled (in_field default_config c).0
unfolding next_state
plain_next st.StartRecord c out plain = between_goes c ∙ ap (λ (q : State × Action). settled q.0) (unquoted_start (c == 34) st.InQuoted act.Skip (in_field default_config c) plain)
plain_next st.StartField c out plain = ap (λ (q : State × Action). settled q.0) (unquoted_start (c == 34) st.InQuoted act.Skip (in_field default_config c) plain)
plain_next st.InField c out plain = refl
plain_next st.InQuoted c out plain = cc out
plain_next st.AfterQuote c out plain = ap (λ (q : State × Action). settled q.0) (unquoted_start (c == 34) st.InQuoted act.Copy (in_field default_config c) plain)
plain_next st.InEscape c out plain = cc out
plain_next st.InComment c out plain = cc out
plain_next st.AfterCr c out plain = cc out

pub plain_ends : (s : State) (c : ℕ) → is_unquoted s ≡ true → ends_record s c ≡ (is_line_end c && ends_at_end s)
plain_ends st.StartRecord c out = between_ends c ∙ sym (not_so (is_line_end c))
plain_ends st.StartField c out = start_field_ends c ∙ sym (so (is_line_end c))
plain_ends st.InField c out = field_ends_at c ∙ sym (so (is_line_end c))
plain_ends st.InQuoted c out = cc out
plain_ends st.AfterQuote c out = quote_end_ends c ∙ sym (so (is_line_end c))
plain_ends st.InEscape c out = cc out
plain_ends st.InComment c out = cc out
plain_ends st.AfterCr c out = cc out

stays_out : (comma cr lf : Bool) → is_unquoted (settled (field_step comma (cr || lf) (line_end_state cr)).0) ≡ true
stays_out true cr lf = refl
stays_out false true lf = refl
stays_out false false true = refl
stays_out false false false = refl

opens : (comma cr lf : Bool) → (comma ≡ true → (cr || lf) ≡ false) → ends_at_end (settled (field_step comma (cr || lf) (line_end_state cr)).0) ≡ not (cr || lf)
opens true cr lf apart = ap not (sym (apart refl))
opens false true lf apart = refl
opens false false true apart = refl
opens false false false apart = refl

pub plain_out : (c : ℕ) → is_unquoted (settled (in_field default_config c).0) ≡ true
plain_out c = stays_out (c == 44) (c == 13) (c == 10)

pub plain_open : (c : ℕ) → ends_at_end (settled (in_field default_config c).0) ≡ not (is_line_end c)
plain_open c = opens (c == 44) (c == 13) (c == 10) (no_line_end c 44 refl refl)

pub either_false : (a b : Bool) → (a || b) ≡ false → (a ≡ false) × (b ≡ false)
either_false true b e = cc e
either_false false b e = (refl, e)

no_quote : (xs : List ℕ) (i c : ℕ) → list_any is_quote xs ≡ false → slice_get xs i ≡ Some c → is_quote c ≡ false
no_quote [] i c none there = cc there
no_quote (x ∷ xs) zero c none there = let same : x ≡ c = cc there in subst (λ y. is_quote y ≡ false) same (either_false _ _ none).0
no_quote (x ∷ xs) (suc i) c none there = no_quote xs i c (either_false _ _ none).1 there

module _ (s : State) (block : List ℕ) where
  -- as many records end in front of a byte
  abbrev pub HasEnded : ℕ → ℕ → Type 0
  HasEnded i records = records ≡ ended_in s (take i block)

  pub few_ended : (i records : ℕ) → i ≤ length block → HasEnded i records → records ≤ i
  few_ended i records short so_far =
      let few = ended_few (take i block) s in
      let count = length-take i block in
      omega (arith, short, few, count, so_far)

  pub one_ended : (i c records : ℕ) → slice_get block i ≡ Some c → HasEnded i records → HasEnded (i + 1) (records + from_bool (ends_record (state_behind s (take i block)) c))
  one_ended i c records there so_far =
      let last = ended_append (take i block) (c ∷ []) s in
      let more = ap (ended_in s) (taken block i c there) in
      omega (arith, last, more, so_far)

  pub one_behind : (i c : ℕ) → slice_get block i ≡ Some c → state_behind s (take (i + 1) block) ≡ next_state (state_behind s (take i block)) c
  one_behind i c there = ap (state_behind s) (taken block i c there) ∙ behind_append (take i block) (c ∷ []) s

-- the state behind bytes without quotes is that behind the last
pub behind_last : (xs : List ℕ) (s : State) (c d : ℕ) → list_any is_quote (d ∷ xs) ≡ false → is_unquoted s ≡ true → slice_get (d ∷ xs) (length xs) ≡ Some c → state_behind s (d ∷ xs) ≡ settled (in_field default_config c).0
behind_last [] s c d plain out there =
    let same : d ≡ c = cc there in
    plain_next s d out (no_quote (d ∷ []) 0 d plain refl) ∙ ap (λ (x : ℕ). settled (in_field default_config x).0) same
behind_last (x ∷ xs) s c d plain out there =
    let next = plain_next s d out (no_quote (d ∷ x ∷ xs) 0 d plain refl) in
    behind_last xs (next_state s d) c x (either_false _ _ plain).1 (ap is_unquoted next ∙ plain_out d) there

pub behind_all : (xs : List ℕ) (s : State) (c : ℕ) → list_any is_quote xs ≡ false → is_unquoted s ≡ true → slice_get xs (length xs - 1) ≡ Some c → state_behind s xs ≡ settled (in_field default_config c).0
behind_all [] s c plain out there = cc there
behind_all (d ∷ xs) s c plain out there =
    let at_last : suc (length xs) - 1 ≡ length xs = omega arith in
    behind_last xs s c d plain out (ap (slice_get (d ∷ xs)) (sym at_last) ∙ there)

-- ---- from state to state

-- a byte ends a record if it is a line end within one, outside of quotes
pub ends_by_parts : (p : RecordState) (c : ℕ) → ends_record (state_at p) c ≡ ((is_line_end c && ends_at_end (state_at p)) && is_unquoted (state_at p))
ends_by_parts record_state.Between c = plain_ends st.StartRecord c refl ∙ sym (so (is_line_end c && false))
ends_by_parts record_state.FieldStart c = plain_ends st.StartField c refl ∙ sym (so (is_line_end c && true))
ends_by_parts record_state.Field c = plain_ends st.InField c refl ∙ sym (so (is_line_end c && true))
ends_by_parts record_state.Quoted c = quoted_ends_never c ∙ sym (not_so (is_line_end c && true))
ends_by_parts record_state.QuoteEnd c = plain_ends st.AfterQuote c refl ∙ sym (so (is_line_end c && true))

quoted_goes : (c : ℕ) → (c ≡ 34 → ⊥) → next_state st.InQuoted c ≡ st.InQuoted
unfolding next_state
quoted_goes c is_not = let other = ne_eqb c 34 is_not in rw other refl

-- within quotes it stays there
pub stays_quoted : (p : RecordState) (c : ℕ) → is_unquoted (state_at p) ≡ false → (c ≡ 34 → ⊥) → st.InQuoted ≡ next_state (state_at p) c
stays_quoted record_state.Between c out is_not = cc out
stays_quoted record_state.FieldStart c out is_not = cc out
stays_quoted record_state.Field c out is_not = cc out
stays_quoted record_state.Quoted c out is_not = sym (quoted_goes c is_not)
stays_quoted record_state.QuoteEnd c out is_not = cc out

pub goes_plain : (s : State) (c : ℕ) → is_unquoted s ≡ true → (c ≡ 34 → ⊥) → settled (in_field default_config c).0 ≡ next_state s c
goes_plain s c out is_not = sym (plain_next s c out (ne_eqb c 34 is_not))

pub quote_begins : next_state st.StartRecord 34 ≡ st.InQuoted
unfolding next_state
quote_begins = refl

pub quote_begins_field : next_state st.StartField 34 ≡ st.InQuoted
unfolding next_state
quote_begins_field = refl

pub quote_stands : next_state st.InField 34 ≡ st.InField
unfolding next_state
quote_stands = refl

pub quote_closes : next_state st.InQuoted 34 ≡ st.AfterQuote
unfolding next_state
quote_closes = refl

pub quote_doubled : next_state st.AfterQuote 34 ≡ st.InQuoted
unfolding next_state
quote_doubled = refl
