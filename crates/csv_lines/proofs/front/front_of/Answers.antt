-- Proofs of the goals of `front_of` (`front`).
use Rattle.std.proofs.Common.{◌∙◌, ◌≡◌, ◌++◌, ap, sym, true, false}
use Rattle.std.specs.Str.{bytes_eq}
use Rattle.csv.specs.Reading.{strip_bom}
use Rattle.csv_lines.specs.Front.{mark}
use Rattle.csv_lines.proofs.Fronts.{marked_front, plain_front}
use Rattle.csv_lines.proofs.front.front_of.Goals as goal

pub returns-then-is_mark-clause-front : goal.returns-then-is_mark-clause-front
returns-then-is_mark-clause-front g c = λ bytes known.
    let (rest, left, whole, none) = c.in_ok-front.ensures.first bytes known in
    let front = c.in_ok-front.front.items in
    let is : bytes_eq front mark ≡ true = ap (λ xs. bytes_eq xs mark) (sym c.as_slice.ensures.value) ∙ sym c.is_mark.ensures ∙ c.if-is_mark.true in
    (rest, left, ap strip_bom whole ∙ marked_front front rest is ∙ ap (λ xs. xs ++ rest) (sym c.no_bytes.ensures))

pub returns-clause-front : goal.returns-clause-front
returns-clause-front g c = λ bytes known.
    let (rest, left, whole, none) = c.in_ok-front.ensures.first bytes known in
    let front = c.in_ok-front.front.items in
    let is : bytes_eq front mark ≡ false = ap (λ xs. bytes_eq xs mark) (sym c.as_slice.ensures.value) ∙ sym c.is_mark.ensures ∙ c.if-is_mark.false in
    (rest, left, ap strip_bom whole ∙ plain_front front rest c.in_ok-front.ensures.few none is)
