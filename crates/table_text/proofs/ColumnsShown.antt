-- Columns that are read and shown one after the other.
use Rattle.std.proofs.Common.{◌≡◌, ℕ, suc, ◌+◌, ◌-◌, ◌<◌, ◌≤◌, List, [], ◌∷◌, ◌++◌, length, arith, refl, sym, ap, ◌∙◌, append_assoc, append-nil}
use Rattle.std.specs.Prelude.{flat_map, Err, Ok}
use Rattle.std.specs.List.{enumerate_from}
use Rattle.std.proofs.lemmas.Grind.{flat_map-append}
use Rattle.meaning.specs.declared.catalog.Column.{Column}
use Rattle.wire.specs.Reading.{Read}
use Rattle.answer_fields.specs.declared.fault.DecodeFault.{DecodeFault}
use Rattle.answer_text.proofs.Cells.{numbered_more}
use Rattle.table_text.specs.HeaderText.{column_at, column_line, columns_at, columns_text}

pub goes_on : (columns : List Column) (count i : ℕ) (bytes : List ℕ) (c : Column) (rest : List ℕ) (all : Read DecodeFault (List Column)) → i < count → column_at columns bytes ≡ Ok (c, rest)
    → columns_at (count - i) columns bytes ≡ all → columns_at (count - (i + 1)) (columns ++ c ∷ []) rest ≡ all
unfolding columns_at
goes_on columns count i bytes c rest all lt first so_far =
    let left : count - i ≡ suc (count - (i + 1)) = omega arith in
    let one : columns_at (count - i) columns bytes ≡ columns_at (count - (i + 1)) (columns ++ c ∷ []) rest = rw (left, first) refl in
    sym one ∙ so_far

pub fails : (columns : List Column) (count i : ℕ) (bytes : List ℕ) (e : DecodeFault) (all : Read DecodeFault (List Column)) → i < count → column_at columns bytes ≡ Err e → columns_at (count - i) columns bytes ≡ all → all ≡ Err e
unfolding columns_at
fails columns count i bytes e all lt first so_far =
    let left : count - i ≡ suc (count - (i + 1)) = omega arith in
    let one : columns_at (count - i) columns bytes ≡ Err e = rw (left, first) refl in
    sym so_far ∙ one

pub finishes : (columns : List Column) (count i : ℕ) (bytes : List ℕ) (all : Read DecodeFault (List Column)) → count ≤ i → columns_at (count - i) columns bytes ≡ all → all ≡ Ok (columns, bytes)
unfolding columns_at
finishes columns count i bytes all le so_far =
    let left : count - i ≡ 0 = omega arith in
    let one : columns_at (count - i) columns bytes ≡ Ok (columns, bytes) = rw left refl in
    sym so_far ∙ one

pub none_shown : (old : List ℕ) → old ≡ old ++ columns_text []
unfolding columns_text
none_shown old = sym (append-nil old)

pub one_shown : (columns : List Column) (c : Column) (old out new : List ℕ) → out ≡ old ++ columns_text columns → new ≡ out ++ column_line (length columns) c → new ≡ old ++ columns_text (columns ++ c ∷ [])
unfolding columns_text
one_shown columns c old out new so_far more =
    let line = λ (p : ℕ × Column). column_line p.0 p.1 in
    let all : columns_text (columns ++ c ∷ []) ≡ columns_text columns ++ column_line (length columns) c =
    ap (flat_map line) (numbered_more 0 columns c (length columns) (omega arith)) ∙ flat_map-append line (enumerate_from 0 columns) ((length columns, c) ∷ []) ∙ ap (λ t. columns_text columns ++ t) (append-nil (column_line (length columns) c)) in
    more ∙ ap (λ t. t ++ column_line (length columns) c) so_far ∙ append_assoc old (columns_text columns) (column_line (length columns) c) ∙ ap (λ t. old ++ t) (sym all)
