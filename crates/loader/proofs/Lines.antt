-- Lines of bytes among which no quote is.
use Rattle.std.proofs.Common.{◌≡◌, ◌≤◌, ◌<◌, ◌+◌, ◌∙◌, ℕ, suc, Bool, true, false, not, List, [], ◌∷◌, ◌++◌, Option, Some, None, length, take, drop, slice_index, refl, sym, ap, subst, arith}
use Rattle.std.specs.Prelude.{◌&&◌, ◌||◌, is_some, nat_lt}
use Rattle.std.specs.List.{list_any}
use Rattle.std.specs.Int.{from_bool}
use Rattle.std.proofs.lemmas.Bool.{lt-ltb}
use Rattle.std.proofs.lemmas.List.{drop_more, get_or-take, length-append, length-take, take-append-drop}
use Rattle.std.proofs.lemmas.List.Folds.{list_any_at}
use Rattle.csv.specs.declared.parser.State.{State}
use Rattle.csv.specs.declared.parser.State.TheVariants as st
use Rattle.csv.specs.Machine.{ends_at_end}
use Rattle.memchr.specs.Find.{IsFirstByte, NoneBefore, Passes}
use Rattle.loader.specs.Counting.{EndsLine, IsOneLine, ended_in, ends_record, is_line_end, is_quote, is_unquoted, next_state}
use Rattle.loader.proofs.EndedRecords.{either_false, from_bool_few, line_end_settles, plain_ends, plain_next, plain_open, plain_out}

-- ---- the first byte that passes

none_passes : (test : ℕ → Bool) (bytes : List ℕ) → ((k : ℕ) → k < length bytes → test (slice_index bytes k) ≡ true → ⊥) → list_any test bytes ≡ false
none_passes test [] none = refl
none_passes test (b ∷ bytes) none = elim (test b) as (λ t. test b ≡ t → (t || list_any test bytes) ≡ false) [
  | true ↦ λ is. absurd (none 0 (omega arith) is)
  | false ↦ λ _. none_passes test bytes (λ k lt. none (suc k) (omega (arith, lt)))
] refl

pub is_found_any : (test : ℕ → Bool) (bytes : List ℕ) (found : Option ℕ) → IsFirstByte test bytes found → is_some found ≡ list_any test bytes
is_found_any test bytes (Some k) (first, passes) = sym (list_any_at test bytes k 0 first.high passes)
is_found_any test bytes None nowhere = sym (none_passes test bytes (λ k lt. nowhere k (omega arith) lt))

pub one_line : (bytes : List ℕ) (found : Option ℕ) → found ≡ None → IsFirstByte is_line_end bytes found → IsOneLine bytes
one_line bytes found none first = sym (is_found_any is_line_end bytes found first) ∙ ap is_some none

pub ends_line : (bytes : List ℕ) (k : ℕ) → NoneBefore (Passes is_line_end bytes) 0 (length bytes) k → Passes is_line_end bytes k → EndsLine bytes (nat_lt 0 k) (drop (k + 1) bytes)
ends_line bytes k first passes =
    let long : length (take k bytes) ≡ k = let l = length-take k bytes in let h = first.high in omega (arith, l, h) in (
      take k bytes,
      slice_index bytes k,
      sym (take-append-drop k bytes) ∙ ap (λ (xs : List ℕ). take k bytes ++ xs) (drop_more bytes k 0 first.high),
      none_passes is_line_end (take k bytes) (λ j lt is. let below : j < k = omega (arith, lt, long) in first.before j (omega arith) below (subst (λ (b : ℕ). is_line_end b ≡ true) (get_or-take k bytes j 0 below) is)),
      passes,
      ap (nat_lt 0) (sym long),
    )

-- ---- a line

or_true : (b : Bool) → from_bool (b || true) ≡ 1
or_true true = refl
or_true false = refl

or_nothing : (b : Bool) → b ≡ (b || false)
or_nothing true = refl
or_nothing false = refl

-- no record ends at a byte that is no line end
goes_on : (s : State) (c : ℕ) → is_unquoted s ≡ true → is_line_end c ≡ false → from_bool (ends_record s c) ≡ 0
goes_on s c out no_end = ap from_bool (plain_ends s c out ∙ ap (λ b. b && ends_at_end s) no_end)

out_there : (s : State) (c : ℕ) → is_unquoted s ≡ true → is_quote c ≡ false → is_unquoted (next_state s c) ≡ true
out_there s c out plain = ap is_unquoted (plain_next s c out plain) ∙ plain_out c

open_there : (s : State) (c : ℕ) → is_unquoted s ≡ true → is_quote c ≡ false → is_line_end c ≡ false → ends_at_end (next_state s c) ≡ true
open_there s c out plain no_end = ap ends_at_end (plain_next s c out plain) ∙ plain_open c ∙ ap not no_end

-- a line end ends a record where one was open or bytes stand before it
line_counted : (line : List ℕ) (end : ℕ) (others : List ℕ) (s : State) → is_unquoted s ≡ true → list_any is_quote (line ++ end ∷ others) ≡ false → IsOneLine line → is_line_end end ≡ true
    → ended_in s (line ++ end ∷ others) ≡ from_bool (ends_at_end s || nat_lt 0 (length line)) + ended_in st.StartRecord others
line_counted [] end others s out plain one is =
    let no_quote = (either_false (is_quote end) (list_any is_quote others) plain).0 in
    let here : ends_record s end ≡ (ends_at_end s || false) = plain_ends s end out ∙ ap (λ b. b && ends_at_end s) is ∙ or_nothing (ends_at_end s) in
    let next : next_state s end ≡ st.StartRecord = plain_next s end out no_quote ∙ line_end_settles end is in
    rw (here, next) refl
line_counted (c ∷ line) end others s out plain one is =
    let quotes = either_false (is_quote c) (list_any is_quote (line ++ end ∷ others)) plain in
    let ends = either_false (is_line_end c) (list_any is_line_end line) one in
    let none = goes_on s c out ends.0 in
    let opened = open_there s c out quotes.0 ends.0 in
    let more = line_counted line end others (next_state s c) (out_there s c out quotes.0) quotes.1 ends.1 is in
    let once : from_bool (ends_at_end (next_state s c) || nat_lt 0 (length line)) ≡ 1 = ap (λ b. from_bool (b || nat_lt 0 (length line))) opened in
    let some : from_bool (ends_at_end s || nat_lt 0 (suc (length line))) ≡ 1 = ap (λ b. from_bool (ends_at_end s || b)) (lt-ltb 0 (suc (length line)) (omega arith)) ∙ or_true (ends_at_end s) in
    omega (arith, none, more, once, some)

line_open : (bytes : List ℕ) (s : State) → is_unquoted s ≡ true → list_any is_quote bytes ≡ false → IsOneLine bytes → ended_in s bytes ≡ 0
line_open [] s out plain one = refl
line_open (c ∷ bytes) s out plain one =
    let quotes = either_false (is_quote c) (list_any is_quote bytes) plain in
    let ends = either_false (is_line_end c) (list_any is_line_end bytes) one in
    let none = goes_on s c out ends.0 in
    let more = line_open bytes (next_state s c) (out_there s c out quotes.0) quotes.1 ends.1 in
    omega (arith, none, more)

no_quote_behind : (xs ys : List ℕ) → list_any is_quote (xs ++ ys) ≡ false → list_any is_quote ys ≡ false
no_quote_behind [] ys plain = plain
no_quote_behind (x ∷ xs) ys plain = no_quote_behind xs ys (either_false (is_quote x) (list_any is_quote (xs ++ ys)) plain).1

-- ---- line after line

module _ (start : State) (block : List ℕ) where
  -- so many records ended before what is left, which begins within a record or not
  pub record IsCounted (within : Bool) (records : ℕ) (rest : List ℕ) : Type 0 where
    pub state : State
    pub out : is_unquoted state ≡ true
    pub is_within : within ≡ ends_at_end state
    pub plain : list_any is_quote rest ≡ false
    pub counted : records + ended_in state rest ≡ ended_in start block
    pub few : records + length rest ≤ length block

  pub none_counted : is_unquoted start ≡ true → list_any is_quote block ≡ false → IsCounted (ends_at_end start) 0 block
  none_counted out plain = record { state = start; out = out; is_within = refl; plain = plain; counted = omega arith; few = omega arith }

  module _ (within : Bool) (records : ℕ) (rest : List ℕ) (so_far : IsCounted within records rest) where
    pub line_more : (some : Bool) (others : List ℕ) → EndsLine rest some others → IsCounted false (records + from_bool (within || some)) others
    line_more some others (line, end, whole, one, is, before) =
        let plain : list_any is_quote (line ++ end ∷ others) ≡ false = subst (λ (xs : List ℕ). list_any is_quote xs ≡ false) whole so_far.plain in
        let here = ap (ended_in so_far.state) whole ∙ line_counted line end others so_far.state so_far.out plain one is in
        let same : from_bool (within || some) ≡ from_bool (ends_at_end so_far.state || nat_lt 0 (length line)) = rw (so_far.is_within, before) refl in
        let long = ap length whole ∙ length-append line (end ∷ others) in
        let once = from_bool_few (within || some) in
        let counted = so_far.counted in
        let few = so_far.few in
        record {
          state = st.StartRecord;
          out = refl;
          is_within = refl;
          plain = (either_false (is_quote end) (list_any is_quote others) (no_quote_behind line (end ∷ others) plain)).1;
          counted = omega (arith, here, same, counted);
          few = omega (arith, long, once, few);
        }

    pub line_shorter : (some : Bool) (others : List ℕ) → EndsLine rest some others → length others < length rest
    line_shorter some others (line, end, whole, one, is, before) = let long = ap length whole ∙ length-append line (end ∷ others) in omega (arith, long)

    pub all_counted : IsOneLine rest → records ≡ ended_in start block
    all_counted one =
        let none = line_open rest so_far.state so_far.out so_far.plain one in
        let counted = so_far.counted in
        omega (arith, none, counted)
