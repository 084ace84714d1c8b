-- Proofs of the goals of `put_last` (`cuts`).
use Rattle.std.proofs.Common.{[], ◌++◌, ◌∙◌, ap, append-nil, string_bytes, sym}
use Rattle.table_text.specs.CutText.{pending}
use Rattle.table_text.proofs.Alikes.{ended_by, none_left}
use Rattle.table_text.proofs.cuts.put_last.Goals as goal

pub returns-in-None : goal.returns-in-None
returns-in-None c = λ k.
    let old = string_bytes c.args.out.now in
    sym (ap (λ t. old ++ t) (ap (λ a. pending a k []) c.in-None.is ∙ none_left k) ∙ append-nil old)

pub returns-in-Some : goal.returns-in-Some
returns-in-Some c = ended_by c.put_alike.result c.args.alike c.in-Some.alike (string_bytes c.args.out.now) (string_bytes c.put_alike.new.out) c.in-Some.is c.put_alike.ensures
