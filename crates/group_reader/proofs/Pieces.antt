-- Bytes that come in pieces, each behind those that are there.
use Rattle.std.specs.Prelude.{◌≡◌, ℕ, ◌+◌, ◌≤◌, Bool, true, false, List, [], ◌++◌, length, take, drop, Result, Ok, Err, cond, nat_lt}
use Rattle.std.proofs.Common.{refl, sym, ap, ◌∙◌, arith, take_all}
use Rattle.std.proofs.Math.Seq.{drop-length}
use Rattle.std.proofs.lemmas.Bool.{ltb-true, lt-ltb}
use Rattle.std.proofs.lemmas.List.{take-append-drop, take-append-le, drop-append-le, length-append, length-take, length-drop}
use Rattle.wire.specs.declared.fault.WireFault.{WireFault}
use Rattle.wire.specs.declared.fault.WireFault.TheVariants.{Truncated}
use Rattle.wire.specs.Reading.{Read, bytes_at}
use Rattle.wire.proofs.Numbers.{bytes_again}
use Rattle.fragment_file.specs.declared.fault.FileFault.{FileFault}
use Rattle.fragment_file.specs.Fault.{from_wire}

-- bytes begin with others
abbrev pub BeginsWith : List ℕ → List ℕ → Type 0
BeginsWith a b = take (length a) b ≡ a

pub begins_all : (a : List ℕ) → BeginsWith a a
begins_all a = take_all (length a) a (omega arith)

pub behind_all : (a : List ℕ) → drop (length a) a ≡ []
behind_all a = drop-length a

pub begins_shorter : (a b : List ℕ) → BeginsWith a b → length a ≤ length b
begins_shorter a b begins = let same = ap length begins in omega (arith, same, length-take (length a) b)

pub begins_parts : (a b : List ℕ) → BeginsWith a b → b ≡ a ++ drop (length a) b
begins_parts a b begins = sym (take-append-drop (length a) b) ∙ ap (λ (front : List ℕ). front ++ drop (length a) b) begins

pub begins_then : (a b c : List ℕ) → BeginsWith a b → BeginsWith b c → BeginsWith a c
begins_then a b c first second =
    ap (take (length a)) (begins_parts b c second) ∙ take-append-le (length a) b (drop (length b) c) (begins_shorter a b first) ∙ first

-- what stands behind the first bytes, with another piece
pub behind_more : (a b c : List ℕ) → BeginsWith a b → BeginsWith b c → drop (length a) c ≡ drop (length a) b ++ drop (length b) c
behind_more a b c first second =
    ap (drop (length a)) (begins_parts b c second) ∙ drop-append-le (length a) b (drop (length b) c) (begins_shorter a b first)

pub from_ok : {X : Type 0} (r : Result X WireFault) (x : X) → from_wire r ≡ Ok x → r ≡ Ok x
from_ok (Ok y) x e = cc
from_ok (Err d) x e = absurd cc

abbrev bytes_or : Bool → ℕ → List ℕ → Read WireFault (List ℕ)
bytes_or b n rest = cond b (Err Truncated) (Ok (take n rest, drop n rest))

short_case : (b : Bool) (n : ℕ) (rest : List ℕ) (e : FileFault) → from_wire (bytes_or b n rest) ≡ Err e → (b ≡ true) × (from_wire (bytes_or true n rest) ≡ Err e)
short_case true n rest e is = (refl, is)
short_case false n rest e is = absurd cc

-- bytes that are wanting in a piece are wanting in all
pub piece_failed : (front mid rest : List ℕ) (size n : ℕ) (e : FileFault) → rest ≡ front ++ mid → length front + size ≤ n → from_wire (bytes_at size mid) ≡ Err e → from_wire (bytes_at n rest) ≡ Err e
unfolding bytes_at
piece_failed front mid rest size n e parts most is =
    let h = short_case (nat_lt (length mid) size) size mid e is in
    let few = ltb-true (length mid) size h.0 in
    let all : length rest ≡ length front + length mid = ap length parts ∙ length-append front mid in
    let short : nat_lt (length rest) n ≡ true = lt-ltb (length rest) n (omega (arith, few, all, most)) in
    ap (λ b. from_wire (bytes_or b n rest)) short ∙ h.1

-- all pieces were read
pub pieces_read : (front mid rest : List ℕ) (n : ℕ) → rest ≡ front ++ mid → length front ≡ n → from_wire (bytes_at n rest) ≡ Ok (front, mid)
pieces_read front mid rest n parts long = ap (λ (r : List ℕ). from_wire (bytes_at n r)) parts ∙ ap from_wire (bytes_again n front mid long)

pub length_behind : (a b : List ℕ) (n : ℕ) → length b ≡ length a + n → length (drop (length a) b) ≡ n
length_behind a b n long = omega (arith, long, length-drop (length a) b)

-- pieces behind nothing
pub word_read : (old new rest left : List ℕ) (m n : ℕ) → m ≡ n → old ≡ [] → from_wire (bytes_at m rest) ≡ Ok (drop (length old) new, left) → from_wire (bytes_at n rest) ≡ Ok (new, left)
word_read old new rest left m n same none read =
    ap (λ (k : ℕ). from_wire (bytes_at k rest)) (sym same) ∙ read ∙ ap (λ (front : List ℕ). Ok (drop (length front) new, left)) none

pub word_failed : (rest : List ℕ) (m n : ℕ) (e : FileFault) → m ≡ n → from_wire (bytes_at m rest) ≡ Err e → from_wire (bytes_at n rest) ≡ Err e
word_failed rest m n e same err = ap (λ (k : ℕ). from_wire (bytes_at k rest)) (sym same) ∙ err
