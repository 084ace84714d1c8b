-- How parts of bytes are read: a part is what it holds and the bytes behind it, or the first thing that is wrong.
use Rattle.std.specs.Prelude.{◌≡◌, ℕ, zero, suc, ℤ, ◌-◌, ◌==◌, nat_lt, nat_eq, Bool, not, if◌then◌else◌, List, [], ◌∷◌, length, take, drop, Result, Ok, Err}
use Rattle.std.specs.Int.{w64, w128, cast_signed}
use Rattle.std.specs.Str.{is_utf8}
use Rattle.std.specs.Cmp.Lexicographic.{pointwise}
use Rattle.byteorder.specs.Endian.{little_number}
use Rattle.wire.specs.declared.fault.WireFault.{WireFault}
use Rattle.wire.specs.declared.fault.WireFault.TheVariants.{Magic, Truncated, NotUtf8, TrailingBytes, Seal}
use Rattle.wire.specs.Bytes.{seal_of}

-- what follows, where nothing is wrong
infixl 10 ◌>>=◌
abbrev pub ◌>>=◌ : {E A B : Type 0} → Result A E → (A → Result B E) → Result B E
(Ok x) >>= next = next x
(Err e) >>= next = Err e

abbrev pub Read : Type 0 → Type 0 → Type 0
Read E X = Result (X × List ℕ) E

-- ---- what a call gave

-- what a call gave, seen by `view`, is what reading gives
abbrev pub Reads : {E X Y : Type 0} → (X → Y) → Result X E → Result Y E → Type 0
Reads view (Ok x) read = read ≡ Ok (view x)
Reads view (Err e) read = read ≡ Err e

-- ---- parts

abbrev pub same_bytes : List ℕ → List ℕ → Bool
same_bytes = pointwise nat_eq

-- n bytes
unfoldable pub bytes_at : ℕ → List ℕ → Read WireFault (List ℕ)
bytes_at n bytes = if nat_lt (length bytes) n then Err Truncated else Ok (take n bytes, drop n bytes)

-- a number of n bytes, the lowest first
unfoldable pub number_at : ℕ → List ℕ → Read WireFault ℕ
number_at n bytes = if nat_lt (length bytes) n then Err Truncated else Ok (little_number n bytes, drop n bytes)

-- numbers in two's complement
unfoldable pub i64_at : List ℕ → Read WireFault ℤ
i64_at bytes = do
  n ← number_at 8 bytes
  Ok (cast_signed w64 n.0, n.1)

unfoldable pub i128_at : List ℕ → Read WireFault ℤ
i128_at bytes = do
  n ← number_at 16 bytes
  Ok (cast_signed w128 n.0, n.1)

-- the bytes, where they are UTF-8
abbrev pub utf8_of : List ℕ → Result (List ℕ) WireFault
utf8_of bytes = if is_utf8 bytes then Ok bytes else Err NotUtf8

-- a text behind its length, which is a number of w bytes
unfoldable pub text_at : ℕ → List ℕ → Read WireFault (List ℕ)
text_at w bytes = do
  n ← number_at w bytes
  bytes ← bytes_at n.0 n.1
  text ← utf8_of bytes.0
  Ok (text, bytes.1)

-- n parts of one form
unfoldable pub repeat_at : {E X : Type 0} → (List ℕ → Read E X) → ℕ → List ℕ → Read E (List X)
repeat_at part zero bytes = Ok ([], bytes)
repeat_at part (suc n) bytes = do
  first ← part bytes
  others ← repeat_at part n first.1
  Ok (first.0 ∷ others.0, others.1)

-- ---- both ends of a file

-- the bytes behind the four that say what a file is
unfoldable pub behind_magic : List ℕ → List ℕ → Result (List ℕ) WireFault
behind_magic magic bytes = do
  first ← bytes_at 4 bytes
  if same_bytes first.0 magic then Ok first.1 else Err Magic

-- the seal is the end of the bytes, and then that of all bytes before it
unfoldable pub sealed_end : List ℕ → List ℕ → List ℕ → Result (List ℕ) WireFault
sealed_end bytes seal rest =
    if not (length rest == 0) then Err TrailingBytes
    else if not (same_bytes seal (seal_of (take (length bytes - 32) bytes))) then Err Seal
    else Ok seal
