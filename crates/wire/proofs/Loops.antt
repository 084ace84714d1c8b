-- Reading parts one after the other in a loop: those that are left are read behind those that were.
use Rattle.std.proofs.Common.{◌≡◌, ℕ, suc, ◌-◌, ◌+◌, ◌≤◌, ◌<◌, List, [], ◌∷◌, ◌++◌, Ok, Err, refl, sym, ap, ◌∙◌, append_assoc, arith}
use Rattle.std.proofs.lemmas.List.{append-nil}
use Rattle.wire.specs.Reading.{◌>>=◌, Read, repeat_at}

module _ {E X : Type 0} (part : List ℕ → Read E X) where
  -- what is read of `left` parts from the bytes, behind those that were read
  abbrev pub read_behind : List X → ℕ → List ℕ → Read E (List X)
  read_behind before left bytes = repeat_at part left bytes >>= λ behind. Ok (before ++ behind.0, behind.1)

  abbrev behind_all : List X → Read E (List X) → Read E (List X)
  behind_all before read = read >>= λ behind. Ok (before ++ behind.0, behind.1)

  abbrev behind_one : X → Read E (List X) → Read E (List X)
  behind_one x read = read >>= λ behind. Ok (x ∷ behind.0, behind.1)

  moved : (before : List X) (x : X) (read : Read E (List X)) → behind_all before (behind_one x read) ≡ behind_all (before ++ x ∷ []) read
  moved before x (Ok behind) = ap (λ (xs : List X). Ok (xs, behind.1)) (sym (append_assoc before (x ∷ []) behind.0))
  moved before x (Err e) = refl

  pub begins : (left : ℕ) (bytes : List ℕ) (read : Read E (List X)) → read ≡ repeat_at part left bytes → read_behind [] left bytes ≡ read
  begins left bytes (Ok p) e = ap (λ (r : Read E (List X)). r >>= λ behind. Ok ([] ++ behind.0, behind.1)) (sym e)
  begins left bytes (Err d) e = ap (λ (r : Read E (List X)). r >>= λ behind. Ok ([] ++ behind.0, behind.1)) (sym e)

  pub goes_on : (before : List X) (count i : ℕ) (bytes : List ℕ) (x : X) (rest : List ℕ) (all : Read E (List X)) → i < count → part bytes ≡ Ok (x, rest)
      → read_behind before (count - i) bytes ≡ all → read_behind (before ++ x ∷ []) (count - (i + 1)) rest ≡ all
  unfolding repeat_at
  goes_on before count i bytes x rest all lt first so_far =
      let left : count - i ≡ suc (count - (i + 1)) = omega arith in
      let one : read_behind before (count - i) bytes ≡ read_behind (before ++ x ∷ []) (count - (i + 1)) rest = rw (left, first) (moved before x (repeat_at part (count - (i + 1)) rest)) in
      sym one ∙ so_far

  pub fails : (before : List X) (count i : ℕ) (bytes : List ℕ) (e : E) (all : Read E (List X)) → i < count → part bytes ≡ Err e
      → read_behind before (count - i) bytes ≡ all → all ≡ Err e
  unfolding repeat_at
  fails before count i bytes e all lt first so_far =
      let left : count - i ≡ suc (count - (i + 1)) = omega arith in
      let one : read_behind before (count - i) bytes ≡ Err e = rw (left, first) refl in
      sym so_far ∙ one

  pub finishes : (before : List X) (count i : ℕ) (bytes : List ℕ) (all : Read E (List X)) → count ≤ i → read_behind before (count - i) bytes ≡ all → all ≡ Ok (before, bytes)
  unfolding repeat_at
  finishes before count i bytes all le so_far =
      let left : count - i ≡ 0 = omega arith in
      let one : read_behind before (count - i) bytes ≡ Ok (before, bytes) = rw left (ap (λ (xs : List X). Ok (xs, bytes)) (append-nil before)) in
      sym so_far ∙ one
