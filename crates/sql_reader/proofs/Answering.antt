-- What is read of a text is its tree, and the refusal that is returned stands in it.
use Rattle.std.proofs.Common.{◌≡◌, ◌⊎◌, ℕ, zero, suc, ◌-◌, ◌<◌, ◌≤◌, Bool, true, false, cond, List, [], ◌∷◌, length, get_or, drop, Result, Ok, Err, IsUtf8, refl, sym, ap, ◌∙◌, subst, arith, inl, inr}
use Rattle.std.specs.Prelude.{nat_le, IfOk, IfErr}
use Rattle.std.proofs.lemmas.List.{length-map}
use Rattle.std.specs.Result.{IsErr, IsErrAnd}
use Rattle.meaning.specs.Limits.{max_query_bytes}
use Rattle.sql_syntax.specs.declared.token.Lexeme.{Lexeme}
use Rattle.sql_syntax.specs.declared.tree.Query.{Query}
use Rattle.sql_syntax.specs.Tokens as terminal
use Rattle.sql_syntax.specs.Tokens.{Terminal, Located, all_located, located, terminals, terminal_of, tokens_of}
use Rattle.sql_syntax.specs.Queries.{open_in_query}
use Rattle.sql_syntax.specs.Canonical.{canonical}
use Rattle.sql_reader.specs.declared.fault.SqlFault.{SqlFault}
use Rattle.sql_reader.specs.declared.fault.SqlFault.TheVariants as fault
use Rattle.sql_expressions.specs.declared.stop.Stop.{Stop}
use Rattle.sql_expressions.specs.declared.stop.Stop.TheVariants as stop
use Rattle.sql_expressions.specs.Rules.{terms, Stops}
use Rattle.sql_reader.specs.Rules.{query_at, within}
use Rattle.sql_reader.specs.Grammar.{IsTree, IsShallow, IsWithin, GivesQuery, refusal, refusal_at, refusal_of, IsFirstUnexpected, HasNone, StopsAs, IsRefusal}
use Rattle.sql_reader.specs.Refusing.{Reports, IsKept, Refuses, no_memory, no_query, too_long, IsAnswer}
use Rattle.sql_reader.proofs.CompleteQuery.{complete_query, unique_query}
use Rattle.sql_reader.proofs.SoundQuery.{query_sound}
use Rattle.sql_reader.proofs.Unexpected.{first_unexpected}

-- ---- tokens with their offsets

-- the refusal from an index on is that of the token there
pub refusal_here : (end i : ℕ) (ls : List Lexeme) (d l : Lexeme) → i < length ls → l ≡ get_or ls i d → refusal_at end (drop i (all_located ls)) ≡ refusal (terminal_of l.token) l.offset
refusal_here end i [] d l h is = absurd (omega arith)
refusal_here end zero (x ∷ ls) d l h is = ap (λ (y : Lexeme). refusal (terminal_of y.token) y.offset) (sym is)
refusal_here end (suc i) (x ∷ ls) d l h is = refusal_here end i ls d l (omega arith) is

pub reported_at : (end i : ℕ) (ls : List Lexeme) (d l : Lexeme) (returned : SqlFault) → i < length ls → l ≡ get_or ls i d → Reports returned (refusal (terminal_of l.token) l.offset) → Reports returned (refusal_at end (drop i (all_located ls)))
reported_at end i ls d l returned h is e = subst (λ (x : SqlFault). Reports returned x) (sym (refusal_here end i ls d l h is)) e

-- behind the last token it is that of the end
pub end_here : (end i : ℕ) (ls : List Lexeme) → length ls ≤ i → refusal_at end (drop i (all_located ls)) ≡ fault.UnexpectedToken end
end_here end zero [] h = refl
end_here end (suc i) [] h = refl
end_here end zero (x ∷ ls) h = absurd (omega arith)
end_here end (suc i) (x ∷ ls) h = end_here end i ls (omega arith)

pub length_located : (ls : List Lexeme) → length (all_located ls) ≡ length ls
length_located ls = length-map ls located

-- what is returned is what is meant, or memory ran out
meant_or_memory : (returned meant : SqlFault) → Reports returned meant → (returned ≡ fault.Memory) ⊎ (meant ≡ returned)
meant_or_memory fault.Memory meant e = inl refl
meant_or_memory fault.NotUtf8 meant e = inr e
meant_or_memory fault.TooDeep meant e = inr e
meant_or_memory fault.TooLong meant e = inr e
meant_or_memory (fault.UnknownCharacter at) meant e = inr e
meant_or_memory (fault.TextNotClosed at) meant e = inr e
meant_or_memory (fault.IntegerOutOfRange at) meant e = inr e
meant_or_memory (fault.UnexpectedToken at) meant e = inr e
meant_or_memory (fault.LeftOut at w) meant e = inr e

pub terminals_terms : (ls : List Lexeme) → terminals (all_located ls) ≡ terms ls
terminals_terms [] = refl
terminals_terms (l ∷ ls) = ap (λ (ts : List Terminal). terminal_of l.token ∷ ts) (terminals_terms ls)

-- ---- what the tokens give

read_as : (ls : List Lexeme) (r : Result Query Stop) → query_at within (terms ls) ≡ r → query_at within (terminals (all_located ls)) ≡ r
read_as ls r e = ap (query_at within) (terminals_terms ls) ∙ e

pub kept_answers : (end : ℕ) (ls : List Lexeme) (q : Query) (r : Result Query SqlFault) → query_at within (terms ls) ≡ Ok q → IsKept q r → IsAnswer end (all_located ls) r
kept_answers end ls q (Ok r) e k = (read_as ls (Ok r) (e ∙ ap (λ (x : Query). Ok x) (sym k.0)), subst (λ (x : Query). length (canonical x) ≤ max_query_bytes) (sym k.0) k.1)
kept_answers end ls q (Err fault.Memory) e k = no_memory
kept_answers end ls q (Err fault.TooLong) e k = too_long q (read_as ls (Ok q) e) k
kept_answers end ls q (Err fault.NotUtf8) e k = absurd k
kept_answers end ls q (Err fault.TooDeep) e k = absurd k
kept_answers end ls q (Err (fault.UnknownCharacter at)) e k = absurd k
kept_answers end ls q (Err (fault.TextNotClosed at)) e k = absurd k
kept_answers end ls q (Err (fault.IntegerOutOfRange at)) e k = absurd k
kept_answers end ls q (Err (fault.UnexpectedToken at)) e k = absurd k
kept_answers end ls q (Err (fault.LeftOut at w)) e k = absurd k

-- a refusal that is meant is why the tokens aren't read
refuses_or_memory : (end : ℕ) (ps : List Located) (returned meant : SqlFault) → (returned ≡ fault.Memory) ⊎ (meant ≡ returned) → Refuses end ps meant → Refuses end ps returned
refuses_or_memory end ps returned meant (inl m) r = subst (λ (x : SqlFault). Refuses end ps x) (sym m) no_memory
refuses_or_memory end ps returned meant (inr e) r = subst (λ (x : SqlFault). Refuses end ps x) e r

pub stopped_answers : (end : ℕ) (ls : List Lexeme) (reason : Stop) (returned : SqlFault) → Stops reason (query_at within (terms ls)) → Reports returned (refusal_of end (all_located ls) reason) → Refuses end (all_located ls) returned
stopped_answers end ls stop.Memory returned s e = refuses_or_memory end (all_located ls) returned fault.Memory (meant_or_memory returned fault.Memory e) no_memory
stopped_answers end ls stop.TooDeep returned s e = refuses_or_memory end (all_located ls) returned fault.TooDeep (meant_or_memory returned fault.TooDeep e) (no_query stop.TooDeep fault.TooDeep (read_as ls (Err stop.TooDeep) s) refl)
stopped_answers end ls (stop.At left) returned s e =
    let meant : SqlFault = refusal_of end (all_located ls) (stop.At left) in
    refuses_or_memory end (all_located ls) returned meant (meant_or_memory returned meant e) (no_query (stop.At left) meant (read_as ls (Err (stop.At left)) s) refl)

-- where memory runs out for the tokens
pub from_memory : (end : ℕ) (ps : List Located) (r : Result Query SqlFault) → IsErr r → IsErrAnd r (λ (returned : SqlFault). returned ≡ fault.Memory) → IsAnswer end ps r
from_memory end ps (Ok q) is h = absurd cc
from_memory end ps (Err returned) is h = subst (λ (x : SqlFault). Refuses end ps x) (sym h) no_memory

-- ---- what that says of the text

-- what has a tree no deeper and no more open than allowed is read
shallow_read : (bs : List ℕ) (q : Query) (tree : IsTree bs q) → IsShallow bs q tree → query_at within (terminals (tokens_of bs)) ≡ Ok q
shallow_read bs q tree s =
    let opened : open_in_query tree.spells ≤ 256 = s.opens in
    complete_query tree.spells 128 257 (omega arith) s.deep

none_shallow : (bs : List ℕ) (reason : Stop) → query_at within (terminals (tokens_of bs)) ≡ Err reason → HasNone bs
none_shallow bs reason stops q tree s = let found : ◌≡◌ {A = Result Query Stop} (Err reason) (Ok q) = sym stops ∙ shallow_read bs q tree s in absurd cc found

pub within_read : (bs : List ℕ) (q : Query) → IsUtf8 bs → length bs ≤ max_query_bytes → query_at within (terminals (tokens_of bs)) ≡ Ok q → length (canonical q) ≤ max_query_bytes → IsWithin bs q
within_read bs q utf8 short e printed =
    let t = query_sound (terminals (tokens_of bs)) q e in
    record { tree = record { utf8 = utf8; spells = t.spells }; shallow = record { deep = t.bounded; opens = t.opens }; short = record { text = short; printed = printed } }

-- a refusal at a limit, or this
abbrev IsLimitOr : SqlFault → Type 0 → Type 0
IsLimitOr fault.Memory A = Unit {0}
IsLimitOr fault.TooDeep A = Unit {0}
IsLimitOr returned A = A

-- a refusal of a token or a depth, and not of the whole text
abbrev IsOfToken : SqlFault → Type 0
IsOfToken fault.NotUtf8 = ⊥
IsOfToken fault.TooLong = ⊥
IsOfToken returned = Unit {0}

token_refusal : (t : Terminal) (at : ℕ) → IsOfToken (refusal t at)
token_refusal (terminal.keyword k) at = tt
token_refusal (terminal.name n) at = tt
token_refusal (terminal.integer n) at = chosen (nat_le n 9223372036854775807)
  where
    chosen : (b : Bool) → IsOfToken (cond b (fault.UnexpectedToken at) (fault.IntegerOutOfRange at))
    chosen true = tt
    chosen false = tt
token_refusal (terminal.text t) at = tt
token_refusal (terminal.sign_is s) at = tt
token_refusal (terminal.left_out w) at = tt
token_refusal terminal.out_of_range at = tt
token_refusal terminal.not_closed at = tt
token_refusal terminal.unknown at = tt

front_refusal : (end : ℕ) (rest : List Located) → IsOfToken (refusal_at end rest)
front_refusal end [] = tt
front_refusal end (p ∷ ps) = token_refusal p.terminal p.offset

stop_refusal : (end : ℕ) (ps : List Located) (reason : Stop) → IsOfToken (refusal_of end ps reason)
stop_refusal end ps stop.Memory = tt
stop_refusal end ps stop.TooDeep = tt
stop_refusal end ps (stop.At left) = front_refusal end (drop (length ps - left) ps)

-- a refusal of a token is that of the first that isn't expected
of_token : (bs : List ℕ) (returned : SqlFault) (reason : Stop) → query_at within (terminals (tokens_of bs)) ≡ Err reason → refusal_of (length bs) (tokens_of bs) reason ≡ returned → IsLimitOr returned (IsFirstUnexpected (length bs) (tokens_of bs) returned)
of_token bs returned stop.Memory stops is = subst (λ (x : SqlFault). IsLimitOr x (IsFirstUnexpected (length bs) (tokens_of bs) x)) is tt
of_token bs returned stop.TooDeep stops is = subst (λ (x : SqlFault). IsLimitOr x (IsFirstUnexpected (length bs) (tokens_of bs) x)) is tt
of_token bs returned (stop.At left) stops is = always returned (first_unexpected (length bs) (tokens_of bs) left returned stops is)
  where
    always : (returned : SqlFault) {A : Type 0} → A → IsLimitOr returned A
    always fault.Memory a = tt
    always fault.TooDeep a = tt
    always fault.NotUtf8 a = a
    always fault.TooLong a = a
    always (fault.UnknownCharacter at) a = a
    always (fault.TextNotClosed at) a = a
    always (fault.IntegerOutOfRange at) a = a
    always (fault.UnexpectedToken at) a = a
    always (fault.LeftOut at w) a = a

stopped_refusal : (bs : List ℕ) (returned : SqlFault) → IsUtf8 bs → length bs ≤ max_query_bytes → HasNone bs → StopsAs bs returned → IsRefusal bs returned
stopped_refusal bs fault.Memory utf8 short none t = tt
stopped_refusal bs fault.TooDeep utf8 short none t = (short, utf8, none, t)
stopped_refusal bs fault.NotUtf8 utf8 short none t = absurd (subst IsOfToken t.reports (stop_refusal (length bs) (tokens_of bs) t.reason))
stopped_refusal bs fault.TooLong utf8 short none t = absurd (subst IsOfToken t.reports (stop_refusal (length bs) (tokens_of bs) t.reason))
stopped_refusal bs (fault.UnknownCharacter at) utf8 short none t = (short, utf8, of_token bs (fault.UnknownCharacter at) t.reason t.stops t.reports, t)
stopped_refusal bs (fault.TextNotClosed at) utf8 short none t = (short, utf8, of_token bs (fault.TextNotClosed at) t.reason t.stops t.reports, t)
stopped_refusal bs (fault.IntegerOutOfRange at) utf8 short none t = (short, utf8, of_token bs (fault.IntegerOutOfRange at) t.reason t.stops t.reports, t)
stopped_refusal bs (fault.UnexpectedToken at) utf8 short none t = (short, utf8, of_token bs (fault.UnexpectedToken at) t.reason t.stops t.reports, t)
stopped_refusal bs (fault.LeftOut at w) utf8 short none t = (short, utf8, of_token bs (fault.LeftOut at w) t.reason t.stops t.reports, t)

pub refuses_refusal : (bs : List ℕ) (returned : SqlFault) → IsUtf8 bs → length bs ≤ max_query_bytes → Refuses (length bs) (tokens_of bs) returned → IsRefusal bs returned
refuses_refusal bs returned utf8 short no_memory = tt
refuses_refusal bs returned utf8 short (no_query reason said e is) = stopped_refusal bs said utf8 short (none_shallow bs reason e) (record { reason = reason; stops = e; reports = is })
refuses_refusal bs returned utf8 short (too_long q e h) = inr (q, record { utf8 = utf8; spells = (query_sound (terminals (tokens_of bs)) q e).spells }, h)

-- a text that has a tree within the limits isn't refused
given_refused : (bs : List ℕ) (q : Query) (returned : SqlFault) → IsWithin bs q → Refuses (length bs) (tokens_of bs) returned → GivesQuery q (Err returned)
given_refused bs q returned w no_memory = tt
given_refused bs q returned w (no_query reason said e is) = absurd (none_shallow bs reason e q w.tree w.shallow)
given_refused bs q returned w (too_long r e h) =
    let found : ◌≡◌ {A = Result Query Stop} (Ok q) (Ok r) = sym (shallow_read bs q w.tree w.shallow) ∙ e in
    let same : q ≡ r = cc found in
    let short : length (canonical r) ≤ max_query_bytes = subst (λ (x : Query). length (canonical x) ≤ max_query_bytes) same w.short.printed in
    absurd (omega arith)

pub answer_given : (bs : List ℕ) (q : Query) (r : Result Query SqlFault) → IsWithin bs q → IsAnswer (length bs) (tokens_of bs) r → GivesQuery q r
answer_given bs q (Ok r) w a =
    let found : ◌≡◌ {A = Result Query Stop} (Ok r) (Ok q) = sym a.0 ∙ shallow_read bs q w.tree w.shallow in
    cc found
answer_given bs q (Err returned) w a = given_refused bs q returned w a

-- what is read of the text, which two names may name
pub tree_given : (bs ts : List ℕ) (r : Result Query SqlFault) → ts ≡ bs → IsUtf8 bs → length bs ≤ max_query_bytes → IsAnswer (length ts) (tokens_of ts) r → IfOk r (IsWithin bs)
tree_given bs ts (Ok q) same utf8 short a =
    let here : IsAnswer (length bs) (tokens_of bs) (Ok q) = subst (λ (x : List ℕ). IsAnswer (length x) (tokens_of x) (Ok q)) same a in
    within_read bs q utf8 short here.0 here.1
tree_given bs ts (Err returned) same utf8 short a = tt

pub refusal_given : (bs ts : List ℕ) (r : Result Query SqlFault) → ts ≡ bs → IsUtf8 bs → length bs ≤ max_query_bytes → IsAnswer (length ts) (tokens_of ts) r → IfErr r (IsRefusal bs)
refusal_given bs ts (Ok q) same utf8 short a = tt
refusal_given bs ts (Err returned) same utf8 short a = refuses_refusal bs returned utf8 short (subst (λ (x : List ℕ). IsAnswer (length x) (tokens_of x) (Err returned)) same a)

pub query_given : (bs ts : List ℕ) (r : Result Query SqlFault) → ts ≡ bs → IsAnswer (length ts) (tokens_of ts) r → (q : Query) → IsWithin bs q → GivesQuery q r
query_given bs ts r same a q w = answer_given bs q r w (subst (λ (x : List ℕ). IsAnswer (length x) (tokens_of x) r) same a)

-- a text has at most one tree
pub one_tree : (bs : List ℕ) (q r : Query) → IsTree bs q → IsTree bs r → q ≡ r
one_tree bs q r s t = unique_query s.spells t.spells
