-- What is shown of parts that are read one after the other.
use Rattle.std.proofs.Common.{◌≡◌, ◌≢◌, ℕ, zero, suc, List, [], ◌∷◌, ◌++◌, length, refl, sym, ap, ◌∙◌, append_assoc}
use Rattle.std.specs.Prelude.{Result, Ok, Err}
use Rattle.wire.specs.Reading.{◌>>=◌, Read, repeat_at}
use Rattle.answer_fields.specs.declared.fault.DecodeFault.{DecodeFault}
use Rattle.answer_text.specs.declared.damage.Stop.{Stop}
use Rattle.answer_text.specs.declared.damage.Stop.TheVariants as stop
use Rattle.answer_text.specs.Reading.{Shows, fault_in}

abbrev D : Type 0
D = DecodeFault

-- one part behind another that was shown
pub shows_next : {A B Y : Type 0} (read : Read D A) (next : A → List ℕ → Read D B) (make : A → B → Y) (front : A → List ℕ) (behind : A → B → List ℕ) (text : Y → List ℕ)
    → (a : A) (between : List ℕ) → read ≡ Ok (a, between) → (r : Result (Unit {0}) Stop) (old mid new rest : List ℕ) → mid ≡ old ++ front a
    → ((b : B) → next a between ≡ Ok (b, rest) → text (make a b) ≡ front a ++ behind a b)
    → Shows (behind a) r mid new rest (next a between) → Shows text r old new rest (read >>= λ x. next x.0 x.1 >>= λ y. Ok (make x.0 y.0, y.1))
shows_next read next make front behind text a between is (Ok done) old mid new rest so_far texts (b, there, more) =
    (make a b, rw (is, there) refl, more ∙ ap (λ t. t ++ behind a b) so_far ∙ append_assoc old (front a) (behind a b) ∙ ap (λ t. old ++ t) (sym (texts b there)))
shows_next read next make front behind text a between is (Err e) old mid new rest so_far texts stops = λ other. rw (is, stops other) refl

-- the same, where what is read behind it is the whole
pub shows_last : {A Y : Type 0} (read : Read D A) (next : A → List ℕ → Read D Y) (front : A → List ℕ) (behind text : Y → List ℕ) (a : A) (between : List ℕ) → read ≡ Ok (a, between)
    → (r : Result (Unit {0}) Stop) (old mid new rest : List ℕ) → mid ≡ old ++ front a → ((y : Y) → next a between ≡ Ok (y, rest) → text y ≡ front a ++ behind y)
    → Shows behind r mid new rest (next a between) → Shows text r old new rest (read >>= λ x. next x.0 x.1)
shows_last read next front behind text a between is (Ok done) old mid new rest so_far texts (y, there, more) =
    (y, rw (is, there) refl, more ∙ ap (λ t. t ++ behind y) so_far ∙ append_assoc old (front a) (behind y) ∙ ap (λ t. old ++ t) (sym (texts y there)))
shows_last read next front behind text a between is (Err e) old mid new rest so_far texts stops = λ other. rw (is, stops other) refl

-- the same part, as another makes it
pub shows_as : {A Y : Type 0} (read : Read D A) (make : A → Y) (shown : A → List ℕ) (text : Y → List ℕ) → ((a : A) → text (make a) ≡ shown a)
    → (r : Result (Unit {0}) Stop) (old new rest : List ℕ) → Shows shown r old new rest read → Shows text r old new rest (read >>= λ x. Ok (make x.0, x.1))
shows_as read make shown text same (Ok done) old new rest (a, is, more) = (make a, rw is refl, more ∙ ap (λ t. old ++ t) (sym (same a)))
shows_as read make shown text same (Err e) old new rest stops = λ other. rw (stops other) refl

-- the same part, of which more is known
pub shows_same : {Y : Type 0} (read : Read D Y) (shown text : Y → List ℕ) (r : Result (Unit {0}) Stop) (old new rest : List ℕ) → ((y : Y) → read ≡ Ok (y, rest) → text y ≡ shown y)
    → Shows shown r old new rest read → Shows text r old new rest read
shows_same read shown text (Ok done) old new rest same (y, is, more) = (y, is, more ∙ ap (λ t. old ++ t) (sym (same y is)))
shows_same read shown text (Err e) old new rest same stops = stops

-- a part behind some words
pub shows_in_front : {Y : Type 0} (read : Read D Y) (shown text : Y → List ℕ) (words : List ℕ) (r : Result (Unit {0}) Stop) (old mid new rest : List ℕ) → mid ≡ old ++ words → ((y : Y) → text y ≡ words ++ shown y)
    → Shows shown r mid new rest read → Shows text r old new rest read
shows_in_front read shown text words (Ok done) old mid new rest so_far texts (y, is, more) =
    (y, is, more ∙ ap (λ t. t ++ shown y) so_far ∙ append_assoc old words (shown y) ∙ ap (λ t. old ++ t) (sym (texts y)))
shows_in_front read shown text words (Err e) old mid new rest so_far texts stops = stops

-- a part behind another of which nothing is shown
pub shows_behind : {A Y : Type 0} (read : Read D A) (next : A → List ℕ → Read D Y) (text : Y → List ℕ) (a : A) (between : List ℕ) → read ≡ Ok (a, between)
    → (r : Result (Unit {0}) Stop) (old new rest : List ℕ) → Shows text r old new rest (next a between) → Shows text r old new rest (read >>= λ x. next x.0 x.1)
shows_behind read next text a between is (Ok done) old new rest (y, there, more) = (y, rw (is, there) refl, more)
shows_behind read next text a between is (Err e) old new rest stops = λ other. rw (is, stops other) refl

-- a part that was shown by itself, and then as `view` has its text
pub shows_through : {Y : Type 0} (read : Read D Y) (text : Y → List ℕ) (view : List ℕ → List ℕ) (r : Result (Unit {0}) Stop) (line old new rest : List ℕ)
    → Shows text r [] line rest read → new ≡ old ++ view line → Shows (λ y. view (text y)) r old new rest read
shows_through read text view (Ok done) line old new rest (y, is, more) put = (y, is, put ∙ ap (λ t. old ++ view t) more)
shows_through read text view (Err e) line old new rest stops put = stops

-- ---- so many parts

bind_ok : {A B : Type 0} (r : Result A D) (f : A → Result B D) (y : B) → (r >>= f) ≡ Ok y → (x : A) × (r ≡ Ok x) × (f x ≡ Ok y)
bind_ok (Ok x) f y e = (x, refl, e)
bind_ok (Err d) f y e = absurd cc

ok_is : {A : Type 0} (x y : A) → (let r : Result A D = Ok x in r) ≡ Ok y → x ≡ y
ok_is x y e = cc

pub repeat_length : {X : Type 0} (part : List ℕ → Read D X) (n : ℕ) (bytes : List ℕ) (p : List X × List ℕ) → repeat_at part n bytes ≡ Ok p → length p.0 ≡ n
unfolding repeat_at
repeat_length {X} part zero bytes p e = let none : List X × List ℕ = ([], bytes) in ap (λ (q : List X × List ℕ). length q.0) (sym (ok_is none p e))
repeat_length {X} part (suc n) bytes p e =
    let a = bind_ok (part bytes) (λ first. repeat_at part n first.1 >>= λ others. Ok (first.0 ∷ others.0, others.1)) p e in
    let b = bind_ok (repeat_at part n a.0.1) (λ others. Ok (a.0.0 ∷ others.0, others.1)) p a.2 in
    let made : List X × List ℕ = (a.0.0 ∷ b.0.0, b.0.1) in
    ap (λ (q : List X × List ℕ). length q.0) (sym (ok_is made p b.2)) ∙ ap suc (repeat_length part n a.0.1 b.0 b.1)

-- so many parts behind their number
pub shows_counted : {X Y : Type 0} (part : List ℕ → Read D X) (count : Read D ℕ) (make : List X → Y) (front : ℕ → List ℕ) (behind : List X → List ℕ) (text : Y → List ℕ) → ((xs : List X) → text (make xs) ≡ front (length xs) ++ behind xs)
    → (n : ℕ) (between : List ℕ) → count ≡ Ok (n, between) → (r : Result (Unit {0}) Stop) (old mid new rest : List ℕ) → mid ≡ old ++ front n
    → Shows behind r mid new rest (repeat_at part n between) → Shows text r old new rest (count >>= λ x. repeat_at part x.0 x.1 >>= λ y. Ok (make y.0, y.1))
shows_counted {X} {Y} part count make front behind text texts n between is r old mid new rest so_far shown =
    shows_next count (λ x bytes. repeat_at part x bytes) (λ x xs. make xs) front (λ x xs. behind xs) text n between is r old mid new rest so_far
    (λ xs read. texts xs ∙ ap (λ k. front k ++ behind xs) (repeat_length part n between (xs, rest) read)) shown

pub shows_list : {X : Type 0} (part : List ℕ → Read D X) (count : Read D ℕ) (front : ℕ → List ℕ) (behind text : List X → List ℕ) → ((xs : List X) → text xs ≡ front (length xs) ++ behind xs)
    → (n : ℕ) (between : List ℕ) → count ≡ Ok (n, between) → (r : Result (Unit {0}) Stop) (old mid new rest : List ℕ) → mid ≡ old ++ front n
    → Shows behind r mid new rest (repeat_at part n between) → Shows text r old new rest (count >>= λ x. repeat_at part x.0 x.1)
shows_list {X} part count front behind text texts n between is r old mid new rest so_far shown =
    shows_last count (λ x bytes. repeat_at part x bytes) front behind text n between is r old mid new rest so_far
    (λ xs read. texts xs ∙ ap (λ k. front k ++ behind xs) (repeat_length part n between (xs, rest) read)) shown
