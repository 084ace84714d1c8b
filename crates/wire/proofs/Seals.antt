-- The magic and the seal: what is read is spelled so, and what is spelled is read again.
use Rattle.std.proofs.Common.{◌≡◌, ℕ, zero, suc, ◌-◌, ◌*◌, cond, eqb, List, [], ◌++◌, length, take, Ok, Err, refl, sym, ap, subst, ◌∙◌, arith}
use Rattle.std.specs.Prelude.{slice_index}
use Rattle.std.specs.Int.{w32, to_be_bytes}
use Rattle.std.specs.Cmp.Lexicographic.{bytes_decides}
use Rattle.std.proofs.lemmas.Bool.{eqb-true}
use Rattle.std.proofs.lemmas.List.{append-nil, nil_from_length, length-append, take_at}
use Rattle.sha2.specs.Sha256.{sha256, digest_bytes}
use Rattle.wire.specs.declared.fault.WireFault.TheVariants as refusal
use Rattle.wire.specs.Reading.{same_bytes, bytes_at, behind_magic, sealed_end}
use Rattle.wire.specs.Bytes.{seal_of}
use Rattle.wire.proofs.Numbers.{bind_ok, test_passed, test_not, ok_is, IsBytes, Takes, bytes_take, bytes_again}

-- ---- the magic

pub magic_takes : (magic bytes rest : List ℕ) → IsBytes bytes → behind_magic magic bytes ≡ Ok rest → Takes bytes magic rest
unfolding behind_magic
magic_takes magic bytes rest fits e =
    let a = bind_ok (bytes_at 4 bytes) (λ first. cond (same_bytes first.0 magic) (Ok first.1) (Err refusal.Magic)) rest e in
    let g = test_passed (same_bytes a.0.0 magic) refusal.Magic (Ok a.0.1) rest a.2 in
    let taken = bytes_take 4 bytes a.0.0 a.0.1 fits a.1 in
    let same : a.0.0 ≡ magic = (bytes_decides a.0.0 magic).0 g.0 in
    subst (λ (r : List ℕ). Takes bytes magic r) (ok_is a.0.1 rest g.1) (subst (λ (m : List ℕ). Takes bytes m a.0.1) same taken.0)

pub magic_again : (magic rest : List ℕ) → length magic ≡ 4 → behind_magic magic (magic ++ rest) ≡ Ok rest
unfolding behind_magic
magic_again magic rest len = rw (bytes_again 4 magic rest len, (bytes_decides magic magic).1 refl) refl

-- ---- the seal

pub seal_takes : (front seal rest end : List ℕ) → length seal ≡ 32 → sealed_end (front ++ (seal ++ rest)) seal rest ≡ Ok end → front ++ (seal ++ rest) ≡ front ++ seal_of front
unfolding sealed_end
seal_takes front seal rest end len e =
    let nothing = test_not (eqb (length rest) 0) refusal.TrailingBytes _ end e in
    let sealed = test_not (same_bytes seal (seal_of (take (length (front ++ (seal ++ rest)) - 32) (front ++ (seal ++ rest))))) refusal.Seal _ end nothing.1 in
    let none : rest ≡ [] = nil_from_length rest (eqb-true _ _ nothing.0) in
    let short : length (front ++ (seal ++ rest)) - 32 ≡ length front = omega (arith, length-append front (seal ++ rest), length-append seal rest, eqb-true _ _ nothing.0) in
    let taken : take (length (front ++ (seal ++ rest)) - 32) (front ++ (seal ++ rest)) ≡ front = rw short (take_at front (seal ++ rest) (length front) refl) in
    let same : seal ≡ seal_of front = (bytes_decides seal _).0 sealed.0 ∙ ap seal_of taken in
    ap (λ (r : List ℕ). front ++ (seal ++ r)) none ∙ ap (λ (s : List ℕ). front ++ s) (append-nil seal ∙ same)

length_digest : (h : List ℕ) (n : ℕ) → length (digest_bytes h n) ≡ 4 * n
unfolding digest_bytes
length_digest h zero = refl
length_digest h (suc n) = let len = length_digest h n in omega (arith, len, length-append (digest_bytes h n) (to_be_bytes w32 (slice_index h n)))

pub length_seal : (bytes : List ℕ) → length (seal_of bytes) ≡ 32
unfolding seal_of sha256
length_seal bytes = length_digest _ 8

pub seal_again : (front : List ℕ) → sealed_end (front ++ seal_of front) (seal_of front) [] ≡ Ok (seal_of front)
unfolding sealed_end
seal_again front =
    let short : length (front ++ seal_of front) - 32 ≡ length front = omega (arith, length-append front (seal_of front), length_seal front) in
    rw (short, take_at front (seal_of front) (length front) refl, (bytes_decides (seal_of front) (seal_of front)).1 refl) refl

-- the seal is all that is left
pub seal_left : (front : List ℕ) → bytes_at 32 (seal_of front) ≡ Ok (seal_of front, [])
seal_left front = ap (bytes_at 32) (sym (append-nil (seal_of front))) ∙ bytes_again 32 (seal_of front) [] (length_seal front)
