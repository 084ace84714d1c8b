-- The words gone through so far, and the line that they are.
use Rattle.std.proofs.Common.{◌≡◌, ℕ, ◌+◌, ◌<◌, ◌≤◌, ⊎_elim, arith, List, [], ◌∷◌, ◌++◌, length, take, get_or, refl, sym, ap, subst, ◌∙◌}
use Rattle.std.proofs.lemmas.Bool.{cases_lt, false≢true}
use Rattle.std.proofs.lemmas.List.{take_all, take_more}
use Rattle.std.specs.Prelude.{Option, None, Some, Result, Ok, Err, IfOk, IfSome, false, is_some}
use Rattle.std.specs.Option.{option_or}
use Rattle.refusals.specs.declared.entries.Entry.{Entry}
use Rattle.refusals.specs.Lines.{IsOf}
use Rattle.refusals.specs.Texts.{is_plain}
use Rattle.tools.specs.Explained.{BeginsPlain, BeginsPlainWithin, BeginsWithCode, IsEntryOf, IsLongest, line_of, with_word, with_words}

-- no line of the first words, up to so many of them, is one without an error code
abbrev pub AreNoLines : List (List ℕ) → ℕ → Type 0
AreNoLines words most = (count : ℕ) → count ≤ most → is_plain (line_of words count) ≡ false

pub record IsSoFar (words : List (List ℕ)) (count : ℕ) (line : List ℕ) (found : Option Entry) : Type 0 where
  pub line_is : line ≡ line_of words count
  pub known : IfSome found (BeginsPlainWithin words count)
  pub none : is_some found ≡ false → AreNoLines words count

one_more : (line : List ℕ) (words : List (List ℕ)) (word : List ℕ) → with_words line (words ++ word ∷ []) ≡ with_word (with_words line words) word
one_more line [] word = refl
one_more line (first ∷ words) word = one_more (with_word line first) words word

-- one word more makes no such line
no_longer : (words : List (List ℕ)) (count most : ℕ) → is_plain (line_of words (most + 1)) ≡ false → IsLongest words count most → IsLongest words count (most + 1)
no_longer words count most plain longest = λ more over within. ⊎_elim
    (λ less. longest more over (omega (arith, less)))
    (λ last. let same : most + 1 ≡ more = omega (arith, within, last) in subst (λ n. is_plain (line_of words n) ≡ false) same plain)
    (cases_lt more (most + 1))

still : (words : List (List ℕ)) (most : ℕ) (found : Option Entry) → is_plain (line_of words (most + 1)) ≡ false → IfSome found (BeginsPlainWithin words most) → IfSome found (BeginsPlainWithin words (most + 1))
still words most None plain before = before
still words most (Some entry) plain (count, is, of, longest) = (count, is, of, no_longer words count most plain longest)

-- the line of all words so far is the longest
either : (words : List (List ℕ)) (count : ℕ) (here found : Option Entry) → is_some here ≡ is_plain (line_of words (count + 1)) → IfSome here (IsOf (line_of words (count + 1))) → IfSome found (BeginsPlainWithin words count)
    → IfSome (option_or here found) (BeginsPlainWithin words (count + 1))
either words count None found plain of before = still words count found (sym plain) before
either words count (Some entry) found plain of before = (count + 1, sym plain, of, λ more over within. absurd (omega (arith, over, within)))

-- neither this line nor one before it
none_more : (words : List (List ℕ)) (count : ℕ) (here found : Option Entry) → is_some here ≡ is_plain (line_of words (count + 1)) → (is_some found ≡ false → AreNoLines words count) → is_some (option_or here found) ≡ false → AreNoLines words (count + 1)
none_more words count None found plain before none = λ n within. ⊎_elim
    (λ less. before none n (omega (arith, less)))
    (λ last. let same : count + 1 ≡ n = omega (arith, within, last) in subst (λ k. is_plain (line_of words k) ≡ false) same (sym plain))
    (cases_lt n (count + 1))
none_more words count (Some entry) found plain before none = absurd (false≢true (sym none))

pub no_word : (words : List (List ℕ)) → AreNoLines words 0
no_word words = λ n within. let same : 0 ≡ n = omega (arith, within) in subst (λ k. is_plain (line_of words k) ≡ false) same refl

-- the line of one word more
pub next_line : (words : List (List ℕ)) (count : ℕ) (word line after : List ℕ) → count < length words → word ≡ get_or words count word → line ≡ line_of words count → after ≡ with_word line word → after ≡ line_of words (count + 1)
next_line words count word line after below is before more =
    more ∙ ap (λ (l : List ℕ). with_word l word) before ∙ sym (one_more [] (take count words) word)
    ∙ ap (λ (w : List ℕ). with_words [] (take count words ++ w ∷ [])) is ∙ ap (with_words []) (sym (take_more words count word below))

-- that of all words
pub whole_line : (words : List (List ℕ)) (count : ℕ) (line : List ℕ) → length words ≤ count → line ≡ line_of words count → line ≡ with_words [] words
whole_line words count line all is = is ∙ ap (with_words []) (take_all count words all)

pub next_word : (words : List (List ℕ)) (count : ℕ) (word line after : List ℕ) (here found : Option Entry) → count < length words → word ≡ get_or words count word → IsSoFar words count line found → after ≡ with_word line word
    → is_some here ≡ is_plain after → IfSome here (IsOf after) → IsSoFar words (count + 1) after (option_or here found)
next_word words count word line after here found below is before more plain of =
    let all : after ≡ line_of words (count + 1) = next_line words count word line after below is before.line_is more in
    record {
      line_is = all;
      known = either words count here found (plain ∙ ap is_plain all) (subst (λ l. IfSome here (IsOf l)) all of) before.known;
      none = none_more words count here found (plain ∙ ap is_plain all) before.none;
    }

shorter : (words : List (List ℕ)) (most : ℕ) (entry : Entry) → length words ≤ most → BeginsPlainWithin words most entry → BeginsPlain words entry
shorter words most entry all (count, is, of, longest) = (count, is, of, λ more over within. longest more over (omega (arith, all, within)))

-- all words were gone through
pub all_words : (words : List (List ℕ)) (count : ℕ) (line : List ℕ) (found : Option Entry) → length words ≤ count → IsSoFar words count line found → IfSome found (BeginsPlain words)
all_words words count line None all so = so.known
all_words words count line (Some entry) all so = shorter words count entry all so.known

-- beyond the last word the line stays as it is
none_beyond : (words : List (List ℕ)) (most count : ℕ) → length words ≤ most → AreNoLines words most → is_plain (line_of words count) ≡ false
none_beyond words most count all none = ⊎_elim
    (λ less. none count (omega (arith, less)))
    (λ over.
    let same : line_of words most ≡ line_of words count = ap (with_words []) (take_all most words all ∙ sym (take_all count words (omega (arith, all, over)))) in
    sym (ap is_plain same) ∙ none most (omega arith))
    (cases_lt count most)

pub no_line : (words : List (List ℕ)) (count : ℕ) (line : List ℕ) (found : Option Entry) → length words ≤ count → IsSoFar words count line found → found ≡ None → (entry : Entry) → BeginsPlain words entry → ⊥
no_line words count line found all so none entry (n, is, of, longest) = false≢true (sym (none_beyond words count n all (so.none (ap is_some none))) ∙ is)

pub no_entry : {E : Type 0} (words : List (List ℕ)) (result : Result (Option Entry) E) → ((entry : Entry) → BeginsWithCode words entry → ⊥)
    → IfOk result (λ found. found ≡ None → (entry : Entry) → BeginsPlain words entry → ⊥) → IfOk result (λ found. found ≡ None → (entry : Entry) → IsEntryOf words entry → ⊥)
no_entry words (Err e) no_code no_plain = no_plain
no_entry words (Ok found) no_code no_plain = λ none entry explained. ⊎_elim (λ code. no_code entry code) (λ plain. no_plain none entry plain) explained
