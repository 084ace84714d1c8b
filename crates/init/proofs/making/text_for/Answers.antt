-- Proofs of the goals of `text_for` (`making`).
use Rattle.std.proofs.Common.{inl, inr, subst, ⊎_elim}
use Rattle.std.proofs.lemmas.Result.{IfErr-weaker, IfOk-weaker}
use Rattle.init.specs.Guessing.{AreDimensionsUnmade, IsFactMade}
use Rattle.init.proofs.making.text_for.Goals as goal

pub returns-clause-guess : goal.returns-clause-guess
returns-clause-guess g c = IfOk-weaker c.text_with-text.result _ _ (λ text declared. (c.in_ok-table.table, c.in_ok-table.ensures.named, c.in_ok-table.ensures.shown, declared)) c.text_with-text.ensures.declared

pub returns-clause-refused : goal.returns-clause-refused
returns-clause-refused g c = IfErr-weaker c.text_with-text.result _ _
    (λ e of.
    let made : IsFactMade (g.F.Folder.holds c.args.folder.now) c.args.directory.now c.args.fact.now = (c.in_ok-table.ensures.short, c.in_ok-table.table.columns, c.in_ok-table.ensures.shown) in
    ⊎_elim (λ unmade. inl (inr (made, subst (λ name. AreDimensionsUnmade (g.F.Folder.holds c.args.folder.now) c.args.directory.now c.args.files.now name e) c.in_ok-table.ensures.named unmade))) (λ none. inr none) of)
    c.text_with-text.ensures.refused
