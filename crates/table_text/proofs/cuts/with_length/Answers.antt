-- Proofs of the goals of `with_length` (`cuts`).
use Rattle.std.proofs.Common.{◌∷◌, ◌++◌, ◌∙◌, ap, string_bytes, sym}
use Rattle.table_text.specs.CutText.{pending}
use Rattle.table_text.proofs.Alikes.{begun}
use Rattle.table_text.proofs.cuts.with_length.Goals as goal

pub returns-in-None : goal.returns-in-None
returns-in-None c = λ behind.
    ap (λ t. string_bytes c.args.out.now ++ t) (begun c.args.fragment c.args.rows behind ∙ sym (ap (λ a. pending a c.args.fragment (c.args.rows ∷ behind)) c.in-None.is))
