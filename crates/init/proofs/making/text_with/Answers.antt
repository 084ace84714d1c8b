-- Proofs of the goals of `text_with` (`making`).
use Rattle.std.proofs.Common.{List, map, inl, inr, subst, sym}
use Rattle.std.proofs.lemmas.Result.{IfErr-weaker, IfOk-weaker, err_from_is_err_and}
use Rattle.init.specs.declared.keys.Keyed.{Keyed}
use Rattle.init.specs.Guessed.{AreDimensionsOf, others}
use Rattle.init.specs.Guessing.{AreDimensionsUnmade}
use Rattle.init.specs.Saying.{AreSaid}
use Rattle.init.proofs.making.text_with.Goals as goal

pub returns-clause-declared : goal.returns-clause-declared
returns-clause-declared g c = IfOk-weaker c.text_of-text.result _ _ (λ text (catalog, declared, fact, dims).
    let holds = g.F.Folder.holds c.args.folder.now in
    let made = subst (λ name. AreDimensionsOf holds c.args.directory.now (others name c.args.files.now) (map (λ (keyed : Keyed). keyed.dimension) c.in_ok-dims.dims.items)) c.as_str.ensures c.in_ok-dims.ensures.made in
    let read = subst (λ items. AreDimensionsOf holds c.args.directory.now (others c.args.fact.now.name c.args.files.now) (map (λ (keyed : Keyed). keyed.dimension) items)) (sym c.as_slice.ensures.value) made in
    (catalog, declared, fact, subst (AreDimensionsOf holds c.args.directory.now (others c.args.fact.now.name c.args.files.now)) (sym dims) read)) c.text_of-text.ensures.declared

pub returns-clause-refused : goal.returns-clause-refused
returns-clause-refused g c = IfErr-weaker c.text_of-text.result _ _ (λ e of. inr of) c.text_of-text.ensures.refused

pub returns-in_err-dims-clause-refused : goal.returns-in_err-dims-clause-refused
returns-in_err-dims-clause-refused g c =
    let e = c.in_err-dims.field-0.0 in
    let unmade = subst (λ name. AreDimensionsUnmade (g.F.Folder.holds c.args.folder.now) c.args.directory.now c.args.files.now name e) c.as_str.ensures c.in_err-dims.ensures.refused in
    let p = err_from_is_err_and c.from_residual.result c.from_residual.ensures.1 in
    rw (p.1, p.2) (inl unmade)

pub returns-clause-said : goal.returns-clause-said
returns-clause-said g c = IfOk-weaker c.text_of-text.result _ _ (λ text (catalog, declared, fact, dims).
    let holds = g.F.Folder.holds c.args.folder.now in
    let (said, are, appends) = c.in_ok-dims.ensures.said in
    let read = subst (λ (items : List Keyed). AreSaid holds c.args.directory.now (map (λ (keyed : Keyed). keyed.dimension) items) said) (sym c.as_slice.ensures.value) are in
    (catalog, declared, said, subst (λ ds. AreSaid holds c.args.directory.now ds said) (sym dims) read, appends)) c.text_of-text.ensures.declared
