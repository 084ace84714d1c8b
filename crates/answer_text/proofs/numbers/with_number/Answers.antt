-- Proofs of the goals of `with_number` (`numbers`).
use Rattle.std.proofs.Common.{◌∷◌, ◌++◌, ◌∙◌, ap, string_bytes, sym}
use Rattle.answer_text.specs.Ranges.{pending}
use Rattle.answer_text.proofs.Neighbours.{begun}
use Rattle.answer_text.proofs.numbers.with_number.Goals as goal

pub returns-in-None : goal.returns-in-None
returns-in-None c = λ behind.
    ap (λ t. string_bytes c.args.out.now ++ t) (begun c.args.number behind ∙ sym (ap (λ r. pending r (c.args.number ∷ behind)) c.in-None.is))
