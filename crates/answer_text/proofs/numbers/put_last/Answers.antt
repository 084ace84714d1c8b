-- Proofs of the goals of `put_last` (`numbers`).
use Rattle.std.proofs.Common.{[], ◌++◌, ◌∙◌, ap, append-nil, string_bytes, sym}
use Rattle.answer_text.specs.Ranges.{pending}
use Rattle.answer_text.proofs.Neighbours.{ended_by, none_left}
use Rattle.answer_text.proofs.numbers.put_last.Goals as goal

pub returns-in-None : goal.returns-in-None
returns-in-None c =
    let old = string_bytes c.args.out.now in
    sym (ap (λ t. old ++ t) (ap (λ r. pending r []) c.in-None.is ∙ none_left) ∙ append-nil old)

pub returns-in-Some : goal.returns-in-Some
returns-in-Some c = ended_by c.put_range.result c.args.range (c.in-Some.first, c.in-Some.last) (string_bytes c.args.out.now) (string_bytes c.put_range.new.out) c.in-Some.is c.put_range.ensures
