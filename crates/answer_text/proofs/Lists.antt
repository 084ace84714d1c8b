-- Parts that are shown one after the other.
use Rattle.std.proofs.Common.{◌≡◌, ◌≢◌, false, ℕ, ◌+◌, ◌<◌, List, [], ◌∷◌, ◌++◌, length, codes, eqb, take, get_or, Ok, Err, refl, sym, ap, ◌∙◌, append_assoc, append-nil}
use Rattle.std.proofs.lemmas.List.{take_more}
use Rattle.wire.specs.Reading.{◌>>=◌, Read}
use Rattle.answer_fields.specs.LayoutReading.{state_at, states_at}
use Rattle.answer_fields.specs.declared.fault.DecodeFault.{DecodeFault}
use Rattle.meaning.specs.declared.answer.Statistics.{Statistics}
use Rattle.answer_fields.specs.declared.shape.AggregateShape.{AggregateShape}
use Rattle.meaning.specs.declared.value.Value.{Value}
use Rattle.std.specs.Prelude.{OnOk, Result, flat_map, if◌then◌else◌, is_ok}
use Rattle.std.proofs.lemmas.Grind.{flat_map-append}
use Rattle.answer_text.specs.declared.detail.Detail.{Detail}
use Rattle.answer_text.specs.declared.detail.Detail.TheVariants as of_detail
use Rattle.answer_text.specs.Texts.{aggregate_text, aggregates_text, key_text, listed, state_text, states_text, value_text, where_groups}

-- what stands before the next part
abbrev pub before_next : {X : Type 0} → List ℕ → List X → List ℕ
before_next first [] = first
before_next first (x ∷ xs) = codes ", "

pub listed_none : {X : Type 0} (first : List ℕ) (text : X → List ℕ) → listed first text [] ≡ []
unfolding listed
listed_none first text = refl

always : {X : Type 0} (xs : List X) → before_next (codes ", ") xs ≡ codes ", "
always [] = refl
always (x ∷ xs) = refl

pub listed_more : {X : Type 0} (first : List ℕ) (text : X → List ℕ) (xs : List X) (x : X) → listed first text (xs ++ x ∷ []) ≡ listed first text xs ++ (before_next first xs ++ text x)
unfolding listed
listed_more first text [] x = ap (λ t. first ++ t) (append-nil (text x))
listed_more first text (y ∷ ys) x =
    ap (λ t. first ++ (text y ++ t)) (listed_more (codes ", ") text ys x ∙ ap (λ b. listed (codes ", ") text ys ++ (b ++ text x)) (always ys))
    ∙ ap (λ t. first ++ t) (sym (append_assoc (text y) (listed (codes ", ") text ys) (codes ", " ++ text x)))
    ∙ sym (append_assoc first (text y ++ listed (codes ", ") text ys) (codes ", " ++ text x))

pub next_of_more : {X : Type 0} (first : List ℕ) (xs : List X) (x : X) → before_next first (xs ++ x ∷ []) ≡ codes ", "
next_of_more first [] x = refl
next_of_more first (y ∷ ys) x = refl

pub listed_start : {X : Type 0} (first : List ℕ) (text : X → List ℕ) (old : List ℕ) → old ≡ old ++ listed first text []
unfolding listed
listed_start first text old = sym (append-nil old)

pub listed_behind : {X : Type 0} (first : List ℕ) (text : X → List ℕ) (xs : List X) (x : X) (old out between mid word after : List ℕ) → out ≡ old ++ listed first text xs → between ≡ before_next first xs
    → mid ≡ out ++ between → word ≡ text x → after ≡ mid ++ word → after ≡ old ++ listed first text (xs ++ x ∷ [])
listed_behind first text xs x old out between mid word after so_far comma one said two =
    two ∙ ap (λ m. m ++ word) one ∙ append_assoc out between word ∙ ap (λ o. o ++ (between ++ word)) so_far ∙ append_assoc old (listed first text xs) (between ++ word)
    ∙ ap (λ t. old ++ t) ((λ i. listed first text xs ++ (comma i ++ said i)) ∙ sym (listed_more first text xs x))

pub listed_at : {X : Type 0} (first : List ℕ) (text : X → List ℕ) (xs : List X) (i : ℕ) (d : X) (old out between mid word after : List ℕ) → i < length xs → out ≡ old ++ listed first text (take i xs)
    → between ≡ before_next first (take i xs) → mid ≡ out ++ between → word ≡ text (get_or xs i d) → after ≡ mid ++ word → after ≡ old ++ listed first text (take (i + 1) xs)
listed_at first text xs i d old out between mid word after below so_far comma one said two =
    listed_behind first text (take i xs) (get_or xs i d) old out between mid word after so_far comma one said two ∙ ap (λ l. old ++ listed first text l) (sym (take_more xs i d below))

pub comma_at : {X : Type 0} (first : List ℕ) (xs : List X) (i : ℕ) (d : X) → i < length xs → codes ", " ≡ before_next first (take (i + 1) xs)
comma_at first xs i d below = sym (ap (before_next first) (take_more xs i d below) ∙ next_of_more first (take i xs) (get_or xs i d))

-- words behind what was written
pub pushed : {A E : Type 0} (r : Result A E) (new mid words all : List ℕ) → new ≡ (if is_ok r then mid ++ words else mid) → mid ++ words ≡ all → OnOk r (new ≡ all)
pushed (Ok done) new mid words all is same = is ∙ same
pushed (Err e) new mid words all is same = tt

-- some aggregates
pub some_aggregates : (all : List AggregateShape) → eqb (length all) 0 ≡ false → aggregates_text all ≡ listed (codes "aggregates: ") aggregate_text all ++ codes "\n"
some_aggregates [] some = absurd cc
some_aggregates (a ∷ others) some = refl

-- a key of some values
pub some_key : (key : List Value) (n : ℕ) → length key ≡ n → n ≢ 0 → key_text key ≡ listed (codes "  ") value_text key
some_key [] n is some = absurd (some (sym is))
some_key (v ∷ vs) n is some = refl

-- ---- the statistics of a group

-- so many statistics were shown, and those of these aggregates are left
abbrev pub AreShown : List AggregateShape → List AggregateShape → List Statistics → List ℕ → Type 0
AreShown shapes left states shown = (others : List Statistics) → states_text shapes (states ++ others) ≡ shown ++ states_text left others

pub states_none : (states : List Statistics) → states_text [] states ≡ []
unfolding states_text
states_none states = refl

pub none_shown : (shapes : List AggregateShape) → AreShown shapes shapes [] []
none_shown shapes others = refl

pub one_shown : (shapes left : List AggregateShape) (a : AggregateShape) (states : List Statistics) (s : Statistics) (shown : List ℕ) → AreShown shapes (a ∷ left) states shown
    → AreShown shapes left (states ++ s ∷ []) (shown ++ state_text a s)
unfolding states_text
one_shown shapes left a states s shown are others =
    ap (states_text shapes) (append_assoc states (s ∷ []) others) ∙ are (s ∷ others) ∙ sym (append_assoc shown (state_text a s) (states_text left others))

abbrev pub states_behind : List Statistics → List AggregateShape → List ℕ → Read DecodeFault (List Statistics)
states_behind before shapes bytes = states_at shapes bytes >>= λ behind. Ok (before ++ behind.0, behind.1)

begun : (read : Read DecodeFault (List Statistics)) → (read >>= λ behind. Ok ([] ++ behind.0, behind.1)) ≡ read
begun (Ok p) = refl
begun (Err e) = refl

pub states_begin : (shapes : List AggregateShape) (bytes : List ℕ) → states_behind [] shapes bytes ≡ states_at shapes bytes
states_begin shapes bytes = begun (states_at shapes bytes)

abbrev behind_all : List Statistics → Read DecodeFault (List Statistics) → Read DecodeFault (List Statistics)
behind_all before read = read >>= λ behind. Ok (before ++ behind.0, behind.1)

abbrev behind_one : Statistics → Read DecodeFault (List Statistics) → Read DecodeFault (List Statistics)
behind_one s read = read >>= λ others. Ok (s ∷ others.0, others.1)

moved : (before : List Statistics) (s : Statistics) (read : Read DecodeFault (List Statistics)) → behind_all before (behind_one s read) ≡ behind_all (before ++ s ∷ []) read
moved before s (Ok p) = ap (λ (xs : List Statistics). Ok (xs, p.1)) (sym (append_assoc before (s ∷ []) p.0))
moved before s (Err e) = refl

pub states_go_on : (before : List Statistics) (a : AggregateShape) (left : List AggregateShape) (bytes : List ℕ) (s : Statistics) (rest : List ℕ) (all : Read DecodeFault (List Statistics)) → state_at a.kind bytes ≡ Ok (s, rest)
    → states_behind before (a ∷ left) bytes ≡ all → states_behind (before ++ s ∷ []) left rest ≡ all
unfolding states_at
states_go_on before a left bytes s rest all is so_far =
    let one : states_behind before (a ∷ left) bytes ≡ states_behind (before ++ s ∷ []) left rest = rw is (moved before s (states_at left rest)) in
    sym one ∙ so_far

pub states_fail : (before : List Statistics) (a : AggregateShape) (left : List AggregateShape) (bytes : List ℕ) (e : DecodeFault) (all : Read DecodeFault (List Statistics)) → state_at a.kind bytes ≡ Err e
    → states_behind before (a ∷ left) bytes ≡ all → all ≡ Err e
unfolding states_at
states_fail before a left bytes e all is so_far =
    let one : states_behind before (a ∷ left) bytes ≡ Err e = rw is refl in
    sym so_far ∙ one

pub states_finish : (before : List Statistics) (left : List AggregateShape) (bytes : List ℕ) (all : Read DecodeFault (List Statistics)) → left ≡ [] → states_behind before left bytes ≡ all → all ≡ Ok (before, bytes)
unfolding states_at
states_finish before left bytes all none so_far =
    let one : states_behind before left bytes ≡ Ok (before, bytes) = rw none (ap (λ (xs : List Statistics). Ok (xs, bytes)) (append-nil before)) in
    sym so_far ∙ one

-- all of them were shown
pub all_shown : (shapes left : List AggregateShape) (states : List Statistics) (shown : List ℕ) → left ≡ [] → AreShown shapes left states shown → states_text shapes states ≡ shown
all_shown shapes left states shown none are =
    ap (states_text shapes) (sym (append-nil states)) ∙ are [] ∙ ap (λ l. shown ++ states_text l []) none ∙ ap (λ t. shown ++ t) (states_none []) ∙ append-nil shown

-- ---- groups

pub groups_start : {X : Type 0} (detail : Detail) (text : X → List ℕ) (old : List ℕ) → old ≡ old ++ where_groups detail (flat_map text [])
groups_start of_detail.Nothing text old = sym (append-nil old)
groups_start of_detail.Count text old = sym (append-nil old)
groups_start of_detail.Groups text old = sym (append-nil old)

one_more : {X : Type 0} (text : X → List ℕ) (xs : List X) (x : X) → flat_map text (xs ++ x ∷ []) ≡ flat_map text xs ++ text x
one_more text xs x = flat_map-append text xs (x ∷ []) ∙ ap (λ t. flat_map text xs ++ t) (append-nil (text x))

pub groups_more : {X : Type 0} (detail : Detail) (text : X → List ℕ) (xs : List X) (x : X) (old out new : List ℕ) → out ≡ old ++ where_groups detail (flat_map text xs) → new ≡ out ++ where_groups detail (text x)
    → new ≡ old ++ where_groups detail (flat_map text (xs ++ x ∷ []))
groups_more of_detail.Nothing text xs x old out new so_far more = more ∙ append-nil out ∙ so_far
groups_more of_detail.Count text xs x old out new so_far more = more ∙ append-nil out ∙ so_far
groups_more of_detail.Groups text xs x old out new so_far more =
    more ∙ ap (λ t. t ++ text x) so_far ∙ append_assoc old (flat_map text xs) (text x) ∙ ap (λ t. old ++ t) (sym (one_more text xs x))
