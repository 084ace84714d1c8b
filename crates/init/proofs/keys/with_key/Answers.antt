-- Proofs of the goals of `with_key` (`keys`).
use Rattle.std.proofs.Common.{◌≡◌, ◌∙◌, Some, ap, inl, refl, subst, sym}
use Rattle.std.proofs.lemmas.Result.{IfErr-weaker, IfOk-weaker}
use Rattle.folders.specs.Folder.{csv_path}
use Rattle.init.specs.Guessing.{IsKeyRefused}
use Rattle.init.proofs.keys.with_key.Goals as goal

pub returns-in-Ok-clause-key : goal.returns-in-Ok-clause-key
returns-in-Ok-clause-key g c =
    let holds = g.F.Folder.holds c.args.folder.now in
    let same = c.in-Ok.ensures ∙ ap (csv_path c.args.directory.now) c.as_str.ensures in
    IfOk-weaker c.with_key_of.result _ _ (λ keyed keys csv held. keys csv (subst (λ path. holds path ≡ Some csv) (sym same) held)) c.with_key_of.ensures.key

pub returns-in-Ok-clause-refused : goal.returns-in-Ok-clause-refused
returns-in-Ok-clause-refused g c =
    let holds = g.F.Folder.holds c.args.folder.now in
    let same = c.in-Ok.ensures ∙ ap (csv_path c.args.directory.now) c.as_str.ensures in
    IfErr-weaker c.with_key_of.result _ _ (λ e refused. subst (λ path. IsKeyRefused holds path c.args.table e) same refused) c.with_key_of.ensures.refused

pub returns-in-Err-clause-refused : goal.returns-in-Err-clause-refused
returns-in-Err-clause-refused g c = inl (inl refl)
