-- Proofs of the goals of `go_on` (`numbers`).
use Rattle.std.proofs.Common.{◌++◌, ◌∙◌, ap, append_assoc, string_bytes, sym}
use Rattle.std.specs.Prelude.{flat_map}
use Rattle.answer_text.specs.Ranges.{joined, range_text, ranges}
use Rattle.answer_text.proofs.Neighbours.{apart, neighbour}
use Rattle.answer_text.proofs.numbers.go_on.Goals as goal

pub returns-then-is_neighbour : goal.returns-then-is_neighbour
returns-then-is_neighbour c = λ behind. ap (λ t. string_bytes c.args.out.now ++ t) (neighbour c.args.first c.args.last c.args.number behind (sym c.is_neighbour.ensures ∙ c.if-is_neighbour.true))

pub returns : goal.returns
returns c = λ behind.
    let old = string_bytes c.args.out.now in
    let left = flat_map range_text (joined (c.args.number, c.args.number) (ranges behind)) in
    ap (λ t. t ++ left) c.in_ok-put_range.ensures
    ∙ append_assoc old (range_text (c.args.first, c.args.last)) left
    ∙ ap (λ t. old ++ t) (apart c.args.first c.args.last c.args.number behind (sym c.is_neighbour.ensures ∙ c.if-is_neighbour.false))
