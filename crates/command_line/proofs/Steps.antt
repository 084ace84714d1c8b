-- How a word goes on with those behind it.
use Rattle.std.proofs.Common.{◌≡◌, ◌≢◌, ℕ, ◌+◌, ◌<◌, List, [], ◌∷◌, ◌++◌, length, drop, map, get_or, refl, sym, subst, ap, ◌∙◌, append_assoc, append-nil, codes, arith, Bor, ◌≤◌, ◌⊎◌, inl, inr, Option, Some, None}
use Rattle.std.specs.Vec.{vec_items}
use Rattle.std.proofs.lemmas.List.{drop_all, drop_more, get_or-map, length-map}
use Rattle.command_line.specs.Words.{AreParts, MayBeValue, Named, Word, IsFlag, IsName, IsPlain, named_of}
use Rattle.command_line.specs.Words.AreParts.{nothing, apart, joined, flag, word, behind}
use Rattle.command_line.specs.Steps.{AreOnly, Goes, Moves, Takes, flags_of, given_of, plain_of}
use Rattle.command_line.specs.declared.parts.Parts.{Parts}
use Rattle.command_line.specs.declared.reading.Next.{Next}
use Rattle.command_line.specs.declared.reading.Next.TheVariants.{Any, ValueOf, Plain}
use Rattle.command_line.proofs.Opened.{opened, opened_dashes, opened_flag, opened_joined, opened_name, opened_nothing, opened_word}

-- one more behind, and the rest
one_more : {X : Type 0} (old new rest : List X) (x : X) → new ≡ old ++ (x ∷ []) → old ++ (x ∷ rest) ≡ new ++ rest
one_more old new rest x is = sym (ap (λ xs. xs ++ rest) is ∙ append_assoc old (x ∷ []) rest)

none_more : {X : Type 0} (old new rest : List X) → new ≡ old → old ++ rest ≡ new ++ rest
none_more old new rest is = ap (λ xs. xs ++ rest) (sym is)

-- an option with its value was read
pub option_read : (old new : Parts) (before : Next) (w name value : Word) → given_of new ≡ given_of old ++ ((name, value) ∷ []) → flags_of new ≡ flags_of old → plain_of new ≡ plain_of old
    → ((ws : List Word) (named : List Named) (flags plain : List Word) → AreParts ws named flags plain → Goes before (w ∷ ws) ((name, value) ∷ named) flags plain)
    → ((ws : List Word) (named : List Named) (flags plain : List Word) → Goes before (w ∷ ws) named flags plain → (others : List Named) × (named ≡ (name, value) ∷ others) × AreParts ws others flags plain)
    → Moves old new before w Any
option_read old new before w name value given flags plain goes comes = record {
  goes = λ ws named others words rest. ((name, value) ∷ named, others, words, goes ws named others words rest, (one_more _ _ _ _ given, none_more _ _ _ flags, none_more _ _ _ plain));
  comes = λ ws named others words all.
      let front = comes ws named others words all in
      (front.0, others, words, front.2, (ap (λ xs. given_of old ++ xs) front.1 ∙ one_more _ _ _ _ given, none_more _ _ _ flags, none_more _ _ _ plain));
}

-- a flag was read
pub flag_read : (old new : Parts) (name : Word) → given_of new ≡ given_of old → flags_of new ≡ flags_of old ++ (name ∷ []) → plain_of new ≡ plain_of old
    → IsName name → name ≢ [] → IsFlag name → Moves old new Any (codes "--" ++ name) Any
flag_read old new name given flags plain a_name some a_flag = record {
  goes = λ ws named others words rest. (named, name ∷ others, words, flag name a_flag rest, (none_more _ _ _ given, one_more _ _ _ _ flags, none_more _ _ _ plain));
  comes = λ ws named others words all.
      let front = opened_flag name refl a_name some a_flag (opened all) in
      (named, front.0, words, front.2, (none_more _ _ _ given, ap (λ xs. flags_of old ++ xs) front.1 ∙ one_more _ _ _ _ flags, none_more _ _ _ plain));
}

-- a plain word was read
pub word_read : (old new : Parts) (before after : Next) (w : Word) → given_of new ≡ given_of old → flags_of new ≡ flags_of old → plain_of new ≡ plain_of old ++ (w ∷ [])
    → ((ws : List Word) (named : List Named) (flags plain : List Word) → Goes after ws named flags plain → Goes before (w ∷ ws) named flags (w ∷ plain))
    → ((ws : List Word) (named : List Named) (flags plain : List Word) → Goes before (w ∷ ws) named flags plain → (words : List Word) × (plain ≡ w ∷ words) × Goes after ws named flags words)
    → Moves old new before w after
word_read old new before after w given flags plain goes comes = record {
  goes = λ ws named others words rest. (named, others, w ∷ words, goes ws named others words rest, (none_more _ _ _ given, none_more _ _ _ flags, one_more _ _ _ _ plain));
  comes = λ ws named others words all.
      let front = comes ws named others words all in
      (named, others, front.0, front.2, (none_more _ _ _ given, none_more _ _ _ flags, ap (λ xs. plain_of old ++ xs) front.1 ∙ one_more _ _ _ _ plain));
}

-- nothing is known yet of what the word says
pub nothing_read : (parts : Parts) (before after : Next) (w : Word)
    → ((ws : List Word) (named : List Named) (flags plain : List Word) → Goes after ws named flags plain → Goes before (w ∷ ws) named flags plain)
    → ((ws : List Word) (named : List Named) (flags plain : List Word) → Goes before (w ∷ ws) named flags plain → Goes after ws named flags plain)
    → Moves parts parts before w after
nothing_read parts before after w goes comes = record {
  goes = λ ws named others words rest. (named, others, words, goes ws named others words rest, (refl, refl, refl));
  comes = λ ws named others words all. (named, others, words, comes ws named others words all, (refl, refl, refl));
}

-- the parts with these are all
abbrev AreAll : Parts → List Named → List Word → List Word → List Named → List Word → List Word → Type 0
AreAll parts others more words named flags plain = (named ≡ given_of parts ++ others) × (flags ≡ flags_of parts ++ more) × (plain ≡ plain_of parts ++ words)

-- what the words that are left give, with the parts, are the parts of all, and there are no other
pub record Reaches (words left : List Word) (parts : Parts) (next : Next) : Type 0 where
  pub goes : (named : List Named) (flags plain : List Word) → Goes next left named flags plain → AreParts words (given_of parts ++ named) (flags_of parts ++ flags) (plain_of parts ++ plain)
  pub comes : (named : List Named) (flags plain : List Word) → AreParts words named flags plain → (others : List Named) × (more last : List Word) × Goes next left others more last × AreAll parts others more last named flags plain

-- the same parts
same_parts : (words : List Word) (named named' : List Named) (flags flags' plain plain' : List Word) → named ≡ named' → flags ≡ flags' → plain ≡ plain' → AreParts words named flags plain → AreParts words named' flags' plain'
same_parts words named named' flags flags' plain plain' named_is flags_are plain_is are =
    subst (λ xs. AreParts words named' flags' xs) plain_is (subst (λ xs. AreParts words named' xs plain) flags_are (subst (λ xs. AreParts words xs flags plain) named_is are))

pub reached : (words left : List Word) (w : Word) (old new : Parts) (before after : Next) → Reaches words (w ∷ left) old before → Moves old new before w after → Reaches words left new after
reached words left w old new before after so step = record {
  goes = λ named flags plain rest.
      let more = step.goes left named flags plain rest in
      same_parts words _ _ _ _ _ _ more.4.0 more.4.1 more.4.2 (so.goes more.0 more.1 more.2 more.3);
  comes = λ named flags plain all.
      let here = so.comes named flags plain all in
      let more = step.comes left here.0 here.1 here.2 here.3 in
      (more.0, more.1, more.2, more.3, (here.4.0 ∙ more.4.0, here.4.1 ∙ more.4.1, here.4.2 ∙ more.4.2));
}

same_end : (words : List Word) (parts : Parts) → AreParts words (given_of parts ++ []) (flags_of parts ++ []) (plain_of parts ++ []) → AreParts words (given_of parts) (flags_of parts) (plain_of parts)
same_end words parts are = same_parts words _ _ _ _ _ _ (append-nil _) (append-nil _) (append-nil _) are

pub ended_any : (words left : List Word) (parts : Parts) → Reaches words left parts Any → left ≡ [] → AreParts words (given_of parts) (flags_of parts) (plain_of parts)
ended_any words left parts so none = same_end words parts (so.goes [] [] [] (subst (λ xs. AreParts xs [] [] []) (sym none) nothing))

pub ended_plain : (words left : List Word) (parts : Parts) → Reaches words left parts Plain → left ≡ [] → AreParts words (given_of parts) (flags_of parts) (plain_of parts)
ended_plain words left parts so none = same_end words parts (so.goes [] [] [] (refl, refl, sym none))

-- ---- no other parts

-- behind the last word, which is no option's name, nothing more is given
nothing_more : (next : Next) (named : List Named) (flags plain : List Word) → (next ≡ Any) ⊎ (next ≡ Plain) → Goes next [] named flags plain → (named ≡ []) × (flags ≡ []) × (plain ≡ [])
nothing_more next named flags plain (inl any) all = opened (subst (λ n. Goes n [] named flags plain) any all)
nothing_more next named flags plain (inr last) all = subst (λ n. Goes n [] named flags plain) last all

with_nothing : {X : Type 0} (all front more : List X) → all ≡ front ++ more → more ≡ [] → all ≡ front
with_nothing all front more is none = is ∙ ap (λ xs. front ++ xs) none ∙ append-nil front

pub only_these : (words left : List Word) (parts : Parts) (next : Next) → Reaches words left parts next → left ≡ [] → (next ≡ Any) ⊎ (next ≡ Plain) → AreOnly words (Some parts)
only_these words left parts next so none end = λ named flags plain all.
    let here = so.comes named flags plain all in
    let more = nothing_more next here.0 here.1 here.2 end (subst (λ ws. Goes next ws here.0 here.1 here.2) none here.3) in
    (with_nothing _ _ _ here.4.0 more.0, with_nothing _ _ _ here.4.1 more.1, with_nothing _ _ _ here.4.2 more.2)

no_value : {X : Type 0} (x : X) (xs : List X) → [] ≡ x ∷ xs → ⊥
no_value x xs is = cc

pub only_without_value : (words left : List Word) (parts : Parts) (next : Next) (name : Bor (List ℕ)) → Reaches words left parts next → left ≡ [] → next ≡ ValueOf name → AreOnly words None
only_without_value words left parts next name so none is = λ named flags plain all.
    let here = so.comes named flags plain all in
    let valued = subst (λ n. Goes n left here.0 here.1 here.2) is here.3 in
    no_value _ _ (sym none ∙ valued.3)

pub only_stopped : (words left : List Word) (w : Word) (old new : Parts) (next : Next) → Reaches words (w ∷ left) old next → Takes old new next w None → AreOnly words None
only_stopped words left w old new next so stop = λ named flags plain all.
    let here = so.comes named flags plain all in
    stop left here.0 here.1 here.2 here.3

-- the word is two dashes and what stands behind them
pub behind_dashes : (w option : Word) (n : ℕ) → w ≡ 45 ∷ 45 ∷ drop n w → option ≡ drop n w → w ≡ codes "--" ++ option
behind_dashes w option n is behind_n = is ∙ ap (λ xs. 45 ∷ 45 ∷ xs) (sym behind_n)

pub nothing_behind : (w option : Word) → w ≡ codes "--" ++ option → length option ≡ 0 → w ≡ codes "--"
nothing_behind w [] is none = is
nothing_behind w (x ∷ xs) is none = absurd (omega (arith, none))

pub some_text : (w : Word) → 0 < length w → w ≢ []
some_text w some none = let long : length w ≡ 0 = ap length none in omega (arith, some, long)

-- the word is the end of the options
pub end_read : (parts : Parts) (w : Word) → w ≡ codes "--" → Moves parts parts Any w Plain
end_read parts w is = nothing_read parts Any Plain w
    (λ ws named flags plain rest.
    subst (λ x. AreParts (x ∷ ws) named flags plain) (sym is) (same_parts (codes "--" ∷ ws) _ _ _ _ _ _ (sym rest.0) (sym rest.1) (sym rest.2) (behind ws)))
    (λ ws named flags plain all. opened_dashes is (opened all))

-- the word is an option with its value
pub joined_read : (old new : Parts) (w option name value : Word) → given_of new ≡ given_of old ++ ((name, value) ∷ []) → flags_of new ≡ flags_of old → plain_of new ≡ plain_of old
    → w ≡ codes "--" ++ option → option ≡ name ++ (61 ∷ value) → IsName name → Moves old new Any w Any
joined_read old new w option name value given flags plain is split_at a_name =
    let whole : w ≡ codes "--" ++ (name ++ (61 ∷ value)) = is ∙ ap (λ xs. codes "--" ++ xs) split_at in
    option_read old new Any w name value given flags plain
    (λ ws named others words rest. subst (λ x. AreParts (x ∷ ws) ((name, value) ∷ named) others words) (sym whole) (joined name value a_name rest))
    (λ ws named others words all. opened_joined name value whole a_name (opened all))

-- the word is an option's name, whose value is the next word
pub name_read : (parts : Parts) (name : Bor (List ℕ)) → IsName name.now → name.now ≢ [] → (IsFlag name.now → ⊥) → Moves parts parts Any (codes "--" ++ name.now) (ValueOf name)
name_read parts name a_name some valued = nothing_read parts Any (ValueOf name) (codes "--" ++ name.now)
    (λ ws named flags plain next.
    same_parts _ _ _ _ _ _ _ (sym next.5) refl refl (subst (λ xs. AreParts ((codes "--" ++ name.now) ∷ xs) ((name.now, next.0) ∷ next.2) flags plain) (sym next.3)
    (apart name.now next.0 a_name some valued next.4 next.6)))
    (λ ws named flags plain all. opened_name name.now refl a_name some valued (opened all))

-- the word is no option
pub plain_read : (old new : Parts) (w : Word) → given_of new ≡ given_of old → flags_of new ≡ flags_of old → plain_of new ≡ plain_of old ++ (w ∷ []) → IsPlain w → Moves old new Any w Any
plain_read old new w given flags plain is_plain = word_read old new Any Any w given flags plain
    (λ ws named others words rest. word w is_plain rest)
    (λ ws named others words all. opened_word is_plain (opened all))

-- no words begin with a word that is neither plain nor an option
pub nothing_stands : (old new : Parts) (w : Word) → (IsPlain w → ⊥) → ((rest : Word) → w ≢ codes "--" ++ rest) → Takes old new Any w None
nothing_stands old new w not_plain other = λ ws named flags plain all. opened_nothing not_plain other (opened all)

first_same : {X : Type 0} (x y : X) (xs ys : List X) → x ∷ xs ≡ y ∷ ys → x ≡ y
first_same x y xs ys is = ap (λ zs. get_or zs 0 x) is

rest_same : {X : Type 0} (x y : X) (xs ys : List X) → x ∷ xs ≡ y ∷ ys → xs ≡ ys
rest_same x y xs ys is = ap (drop 1) is

pub value_read : (old new : Parts) (name : Bor (List ℕ)) (value : Word) → given_of new ≡ given_of old ++ ((name.now, value) ∷ []) → flags_of new ≡ flags_of old → plain_of new ≡ plain_of old
    → MayBeValue name.now value → Takes old new (ValueOf name) value (Some Any)
value_read old new name value given flags plain may = option_read old new (ValueOf name) value name.now value given flags plain
    (λ ws named others words rest. (value, ws, named, refl, may, refl, rest))
    (λ ws named others words all.
    let same = first_same value all.0 ws all.1 all.3 in
    let front = rest_same value all.0 ws all.1 all.3 in
    (all.2, all.5 ∙ ap (λ x. (name.now, x) ∷ all.2) (sym same), subst (λ xs. AreParts xs all.2 others words) (sym front) all.6))

pub value_refused : (old new : Parts) (name : Bor (List ℕ)) (value : Word) → (MayBeValue name.now value → ⊥) → Takes old new (ValueOf name) value None
value_refused old new name value not_may = λ ws named flags plain all.
    not_may (subst (MayBeValue name.now) (sym (first_same value all.0 ws all.1 all.3)) all.4)

-- behind the end of the options each word is plain
pub plain_behind : (old new : Parts) (w : Word) → given_of new ≡ given_of old → flags_of new ≡ flags_of old → plain_of new ≡ plain_of old ++ (w ∷ []) → Takes old new Plain w (Some Plain)
plain_behind old new w given flags plain = word_read old new Plain Plain w given flags plain
    (λ ws named others words rest. (rest.0, rest.1, ap (λ xs. w ∷ xs) rest.2))
    (λ ws named others words all. (ws, all.2, (all.0, all.1, refl)))

-- before the first word
pub none_read : (words : List Word) (parts : Parts) → vec_items parts.given ≡ [] → vec_items parts.flags ≡ [] → vec_items parts.plain ≡ [] → Reaches words words parts Any
none_read words parts no_given no_flag no_plain = record {
  goes = λ named flags plain rest. same_parts words _ _ _ _ _ _
      (sym (ap (λ xs. map named_of xs ++ named) no_given))
      (sym (ap (λ xs. map (λ w. w.now) xs ++ flags) no_flag))
      (sym (ap (λ xs. map (λ w. w.now) xs ++ plain) no_plain)) rest;
  comes = λ named flags plain all. (
    named,
    flags,
    plain,
    all,
    (
      sym (ap (λ xs. map named_of xs ++ named) no_given),
      sym (ap (λ xs. map (λ w. w.now) xs ++ flags) no_flag),
      sym (ap (λ xs. map (λ w. w.now) xs ++ plain) no_plain),
    ),
  );
}

-- the word at the index is the first of those that are left
word_at : (words : List (Bor (List ℕ))) (i : ℕ) (blank : Bor (List ℕ)) → i < length words
    → drop i (map (λ w. w.now) words) ≡ (get_or words i blank).now ∷ drop (i + 1) (map (λ w. w.now) words)
word_at words i blank below =
    let texts = map (λ w. w.now) words in
    let within : i < length texts = omega (arith, below, length-map words (λ w. w.now)) in
    drop_more texts i blank.now within ∙ ap (λ x. x ∷ drop (i + 1) texts) (get_or-map (λ w. w.now) words i blank blank.now below)

pub one_read : (words : List (Bor (List ℕ))) (i : ℕ) (blank : Bor (List ℕ)) (old new : Parts) (before after : Next) (read : Option Next) → i < length words
    → Reaches (map (λ w. w.now) words) (drop i (map (λ w. w.now) words)) old before → Takes old new before (get_or words i blank).now read → read ≡ Some after
    → Reaches (map (λ w. w.now) words) (drop (i + 1) (map (λ w. w.now) words)) new after
one_read words i blank old new before after read below so step is =
    let texts = map (λ w. w.now) words in
    let w = (get_or words i blank).now in
    reached texts (drop (i + 1) texts) w old new before after (subst (λ xs. Reaches texts xs old before) (word_at words i blank below) so) (subst (Takes old new before w) is step)

pub none_further : (words : List (Bor (List ℕ))) (i : ℕ) (blank : Bor (List ℕ)) (old new : Parts) (before : Next) (read : Option Next) → i < length words
    → Reaches (map (λ w. w.now) words) (drop i (map (λ w. w.now) words)) old before → Takes old new before (get_or words i blank).now read → read ≡ None
    → AreOnly (map (λ w. w.now) words) None
none_further words i blank old new before read below so step is =
    let texts = map (λ w. w.now) words in
    let w = (get_or words i blank).now in
    only_stopped texts (drop (i + 1) texts) w old new before (subst (λ xs. Reaches texts xs old before) (word_at words i blank below) so) (subst (Takes old new before w) is step)

none_left : (words : List (Bor (List ℕ))) (i : ℕ) → length words ≤ i → drop i (map (λ w. w.now) words) ≡ []
none_left words i over = drop_all i (map (λ w. w.now) words) (omega (arith, over, length-map words (λ w. w.now)))

pub all_read : (words : List (Bor (List ℕ))) (i : ℕ) (parts : Parts) (next : Next) → length words ≤ i → Reaches (map (λ w. w.now) words) (drop i (map (λ w. w.now) words)) parts next
    → (next ≡ Any) ⊎ (next ≡ Plain) → AreParts (map (λ w. w.now) words) (given_of parts) (flags_of parts) (plain_of parts)
all_read words i parts next over so (inl any) =
    let texts = map (λ w. w.now) words in
    ended_any texts _ parts (subst (λ n. Reaches texts (drop i texts) parts n) any so) (none_left words i over)
all_read words i parts next over so (inr plain) =
    let texts = map (λ w. w.now) words in
    ended_plain texts _ parts (subst (λ n. Reaches texts (drop i texts) parts n) plain so) (none_left words i over)

pub all_these : (words : List (Bor (List ℕ))) (i : ℕ) (parts : Parts) (next : Next) → length words ≤ i → Reaches (map (λ w. w.now) words) (drop i (map (λ w. w.now) words)) parts next
    → (next ≡ Any) ⊎ (next ≡ Plain) → AreOnly (map (λ w. w.now) words) (Some parts)
all_these words i parts next over so end = only_these _ _ parts next so (none_left words i over) end

pub all_but_value : (words : List (Bor (List ℕ))) (i : ℕ) (parts : Parts) (next : Next) (name : Bor (List ℕ)) → length words ≤ i → Reaches (map (λ w. w.now) words) (drop i (map (λ w. w.now) words)) parts next
    → next ≡ ValueOf name → AreOnly (map (λ w. w.now) words) None
all_but_value words i parts next name over so is = only_without_value _ _ parts next name so (none_left words i over) is
