-- Proofs of the goals of `shown_of` (`showing`).
use Rattle.std.proofs.Common.{ℕ, subst, sym}
use Rattle.std.specs.Prelude.{Option, string_bytes}
use Rattle.std.proofs.lemmas.Result.{on_ok_weaker}
use Rattle.show.specs.Shown.{IsText}
use Rattle.show.specs.declared.file_kind.FileKind.{FileKind}
use Rattle.show.specs.declared.file_kind.FileKind.TheVariants as kind
use Rattle.show.proofs.showing.shown_of.Goals as goal

pub returns-in-Table : goal.returns-in-Table
returns-in-Table c =
    let bytes = c.args.bytes.now in
    let options = c.args.options in
    let shown = c.rows_of.result in
    on_ok_weaker shown.ended (λ said.
    subst (λ (k : FileKind). IsText k bytes options options.rows (string_bytes shown.front) shown.bytes.items) (sym c.in-Table.is)
    (subst (λ (m : Option ℕ). IsText kind.Table bytes options m (string_bytes shown.front) shown.bytes.items) (sym c.in-Some.is) (said options))) c.rows_of.ensures
