-- Which words are kept, and which are left.
use Rattle.std.proofs.Common.{◌≡◌, ℕ, ◌+◌, ◌<◌, ◌≤◌, Bool, true, false, List, [], ◌∷◌, ◌++◌, length, drop, map, get_or, refl, sym, ap, subst, ◌∙◌, append_assoc, append-nil, arith, Bor}
use Rattle.std.specs.Prelude.{if◌then◌else◌}
use Rattle.std.proofs.lemmas.List.{drop_all, drop_more, get_or-map, length-map, map-append}
use Rattle.xcols.specs.Progress.{unflagged_from}
use Rattle.xcols.specs.declared.progress_word.Next.{Next}
use Rattle.xcols.specs.declared.progress_word.Next.TheVariants.{Any, Value, Plain}

-- the word at the index is the first of those that are left
word_at : (words : List (Bor (List ℕ))) (i : ℕ) (blank : Bor (List ℕ)) → i < length words
    → drop i (map (λ w. w.now) words) ≡ (get_or words i blank).now ∷ drop (i + 1) (map (λ w. w.now) words)
word_at words i blank below =
    let texts = map (λ w. w.now) words in
    let within : i < length texts = omega (arith, below, length-map words (λ w. w.now)) in
    drop_more texts i blank.now within ∙ ap (λ x. x ∷ drop (i + 1) texts) (get_or-map (λ w. w.now) words i blank blank.now below)

-- nothing is kept yet
pub none_kept : (all : List (List ℕ)) (words : List (List ℕ)) (kept : List (Bor (List ℕ))) (next : Next) → kept ≡ [] → unflagged_from next words ≡ all → all ≡ map (λ w. w.now) kept ++ unflagged_from next words
none_kept all words kept next none first = sym first ∙ ap (λ (l : List (Bor (List ℕ))). map (λ w. w.now) l ++ unflagged_from next words) (sym none)

-- one word more was judged
pub one_judged : (all : List (List ℕ)) (words : List (Bor (List ℕ))) (i : ℕ) (blank : Bor (List ℕ)) (kept new : List (List ℕ)) (next after : Next) → i < length words
    → all ≡ kept ++ unflagged_from next (drop i (map (λ w. w.now) words))
    → ((ws : List (List ℕ)) → kept ++ unflagged_from next ((get_or words i blank).now ∷ ws) ≡ new ++ unflagged_from after ws)
    → all ≡ new ++ unflagged_from after (drop (i + 1) (map (λ w. w.now) words))
one_judged all words i blank kept new next after below so step =
    so ∙ ap (λ l. kept ++ unflagged_from next l) (word_at words i blank below) ∙ step (drop (i + 1) (map (λ w. w.now) words))

none_left : (next : Next) → unflagged_from next [] ≡ []
none_left Any = refl
none_left Value = refl
none_left Plain = refl

-- all were judged
pub all_judged : (all : List (List ℕ)) (words : List (Bor (List ℕ))) (i : ℕ) (kept : List (List ℕ)) (next : Next) → length words ≤ i → all ≡ kept ++ unflagged_from next (drop i (map (λ w. w.now) words)) → kept ≡ all
all_judged all words i kept next over so =
    let over_texts : length (map (λ w. w.now) words) ≤ i = omega (arith, over, length-map words (λ w. w.now)) in
    sym (so ∙ ap (λ l. kept ++ unflagged_from next l) (drop_all i (map (λ w. w.now) words) over_texts) ∙ ap (λ l. kept ++ l) (none_left next) ∙ append-nil kept)

-- the word stays, or it doesn't
pub word_kept : (stays : Bool) (old new : List (Bor (List ℕ))) (word : Bor (List ℕ)) (rest after : List (List ℕ)) → stays ≡ true → new ≡ old ++ word ∷ [] → rest ≡ (if stays then word.now ∷ after else after)
    → map (λ w. w.now) old ++ rest ≡ map (λ w. w.now) new ++ after
word_kept true old new word rest after sure more is =
    ap (λ l. map (λ w. w.now) old ++ l) is
    ∙ sym (ap (λ (l : List (Bor (List ℕ))). map (λ w. w.now) l ++ after) more ∙ ap (λ l. l ++ after) (map-append (λ w. w.now) old (word ∷ [])) ∙ append_assoc (map (λ w. w.now) old) (word.now ∷ []) after)
word_kept false old new word rest after sure more is = cc sure

pub word_dropped : (stays : Bool) (kept : List (List ℕ)) (word : List ℕ) (rest after : List (List ℕ)) → stays ≡ false → rest ≡ (if stays then word ∷ after else after) → kept ++ rest ≡ kept ++ after
word_dropped false kept word rest after sure is = ap (λ l. kept ++ l) is
word_dropped true kept word rest after sure is = cc sure
