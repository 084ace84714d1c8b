-- Proofs of the goals of `go_on` (`cuts`).
use Rattle.std.proofs.Common.{◌+◌, ◌++◌, ◌∙◌, ap, append_assoc, string_bytes}
use Rattle.std.specs.Prelude.{Some}
use Rattle.table_text.specs.CutText.{alike_text, alone, pending}
use Rattle.table_text.proofs.Alikes.{alike, other}
use Rattle.table_text.proofs.cuts.go_on.Goals as goal

pub returns-then-alike-rows : goal.returns-then-alike-rows
returns-then-alike-rows c = λ behind. ap (λ t. string_bytes c.args.out.now ++ t) (alike c.args.alike c.args.fragment c.args.rows behind c.if-alike-rows.true)

pub returns : goal.returns
returns c = λ behind.
    let old = string_bytes c.args.out.now in
    let left = pending (Some (alone c.args.fragment c.args.rows)) (c.args.fragment + 1) behind in
    ap (λ t. t ++ left) c.in_ok-put_alike.ensures
    ∙ append_assoc old (alike_text c.args.alike) left
    ∙ ap (λ t. old ++ t) (other c.args.alike c.args.fragment c.args.rows behind c.if-alike-rows.false)
