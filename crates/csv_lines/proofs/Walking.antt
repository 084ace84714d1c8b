-- A walk through bytes, from place to place.
use Rattle.std.proofs.Common.{◌≡◌, ◌∙◌, ◌+◌, ◌<◌, ℕ, Bool, true, false, List, [], ◌∷◌, ◌++◌, drop, get_or, length, take, Option, Some, None, refl, sym, ap, subst, append_assoc, arith}
use Rattle.std.specs.Prelude.{IfSome, if◌then◌else◌}
use Rattle.std.proofs.lemmas.Option.{slice_get-get_or}
use Rattle.loader.proofs.Judging.{from_index}
use Rattle.loader.specs.Counting.{Reads}
use Rattle.csv_lines.specs.Lines.{IsLineOf, Place, begins, behind, behind_byte, line_after, line_from, place_of, start}
use Rattle.csv_lines.specs.declared.line.Walk.{Walk}
use Rattle.csv_lines.specs.declared.line.Walked.{Walked}

-- ---- a byte

from_true : (b : Bool) (l : ℕ) (o : Option ℕ) (x : Option ℕ) → b ≡ true → (if b then Some l else o) ≡ x → Some l ≡ x
from_true true l o x is e = e
from_true false l o x is e = absurd cc is

from_false : (b : Bool) (l : ℕ) (o : Option ℕ) (x : Option ℕ) → b ≡ false → (if b then Some l else o) ≡ x → o ≡ x
from_false false l o x is e = e
from_false true l o x is e = absurd cc is

-- the next byte of a block, and those behind it
next_of : (block : List ℕ) (i : ℕ) → i < length block → drop i block ≡ get_or block i 0 ∷ drop (i + 1) block
next_of block i within = from_index block i (get_or block i 0) (slice_get-get_or block i 0 within)

pub found_here : (index : ℕ) (p : Place) (block rest : List ℕ) (i line : ℕ) (all : Option ℕ) → i < length block → begins index p (get_or block i 0) ≡ true → line ≡ p.lines + 1 → line_from index p (drop i block ++ rest) ≡ all → Some line ≡ all
found_here index p block rest i line all within is counted so_far =
    let byte = get_or block i 0 in
    let next = ap (λ xs. line_from index p (xs ++ rest)) (next_of block i within) in
    ap (λ n. Some n) counted ∙ from_true (begins index p byte) (p.lines + 1) (line_from index (behind_byte p byte) (drop (i + 1) block ++ rest)) all is (sym next ∙ so_far)

pub one_past : (index : ℕ) (p q : Place) (block rest : List ℕ) (i : ℕ) (all : Option ℕ) → i < length block → begins index p (get_or block i 0) ≡ false → q ≡ behind_byte p (get_or block i 0) → line_from index p (drop i block ++ rest) ≡ all → line_from index q (drop (i + 1) block ++ rest) ≡ all
one_past index p q block rest i all within is past so_far =
    let byte = get_or block i 0 in
    let next = ap (λ xs. line_from index p (xs ++ rest)) (next_of block i within) in
    ap (λ r. line_from index r (drop (i + 1) block ++ rest)) past ∙ from_false (begins index p byte) (p.lines + 1) (line_from index (behind_byte p byte) (drop (i + 1) block ++ rest)) all is (sym next ∙ so_far)

-- ---- what is found is such a line

behind_more : (p : Place) (front : List ℕ) (byte : ℕ) → behind p (front ++ byte ∷ []) ≡ behind_byte (behind p front) byte
behind_more p [] byte = refl
behind_more p (x ∷ front) byte = behind_more (behind_byte p x) front byte

line_past : (index : ℕ) (rest front : List ℕ) (line : ℕ) → line_from index (behind start front) rest ≡ Some line → IsLineOf (front ++ rest) index line
line_past index [] front line e = absurd cc e
line_past index (byte ∷ rest) front line e =
    let p = behind start front in
    elim (begins index p byte) as (λ b. begins index p byte ≡ b → IsLineOf (front ++ byte ∷ rest) index line) [
      | true ↦ λ is. record {
        front = front;
        first = byte;
        others = rest;
        whole = refl;
        begun = is;
        counted = let found : Some (p.lines + 1) ≡ Some line = from_true (begins index p byte) (p.lines + 1) (line_from index (behind_byte p byte) rest) (Some line) is e in cc found;
      }
      | false ↦ λ not_so.
          let next : line_from index (behind_byte p byte) rest ≡ Some line = from_false (begins index p byte) (p.lines + 1) (line_from index (behind_byte p byte) rest) (Some line) not_so e in
          subst (λ xs. IsLineOf xs index line) (append_assoc front (byte ∷ []) rest) (line_past index rest (front ++ byte ∷ []) line (ap (λ q. line_from index q rest) (behind_more start front byte) ∙ next))
    ] refl

pub line_is : (index : ℕ) (text : List ℕ) (found : Option ℕ) → found ≡ line_from index start text → IfSome found (IsLineOf text index)
line_is index text None e = tt
line_is index text (Some line) e = line_past index text [] line (sym e)
