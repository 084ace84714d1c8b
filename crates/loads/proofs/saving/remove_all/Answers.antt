-- Proofs of the goals of `remove_all` (`saving`).
use Rattle.std.proofs.Common.{◌≡◌, ◌+◌, suc, ◌≤◌, ◌∷◌, ◌++◌, ap, get_or, length, map, take, drop, sym, ◌∙◌, arith}
use Rattle.std.proofs.Math.Seq.{split_at}
use Rattle.std.proofs.lemmas.List.{drop_more, length-map}
use Rattle.std.proofs.lemmas.Result.{err_from_is_err_and}
use Rattle.loads.specs.Loading.{gone}
use Rattle.loads.proofs.Planned.{all_made, first_made, made_more, next_taken, none_made}
use Rattle.loads.proofs.saving.remove_all.Goals as goal

pub loop-path-init : goal.loop-path-init
loop-path-init g c = (none_made (map gone c.args.paths.now) (g.F.Folder.wrote c.args.folder.now), λ path tried. tried)

pub loop-path-preserved : goal.loop-path-preserved
loop-path-preserved g c =
    let F = g.F.Folder in
    let all = c.args.paths.now in
    let n = c.loop-path.path-index in
    let path = c.path-item.result in
    let split : drop n all ≡ path ∷ drop (n + 1) all = drop_more all n path c.loop-path-test.true ∙ ap (λ x. x ∷ drop (n + 1) all) (sym c.path-item.is) in
    let (made, trying) = c.loop-path.invariant in (
      made_more (map gone all) n (gone path) (F.wrote c.args.folder.now) (F.wrote c.loop-path.folder) (F.wrote c.remove_file.new.folder)
          (next_taken gone all n path (drop (n + 1) all) split) made c.in_ok-remove_file.ensures.removed,
      λ p tried. trying p (c.in_ok-remove_file.ensures.trying p tried),
    )

pub returns-clause-removed : goal.returns-clause-removed
returns-clause-removed g c =
    let F = g.F.Folder in
    let all = c.args.paths.now in
    let few : length (map gone all) ≤ c.loop-path.path-index = omega (arith, c.loop-path-test.false, length-map all gone) in
    all_made (map gone all) c.loop-path.path-index (F.wrote c.args.folder.now) (F.wrote c.loop-path.folder) few c.loop-path.invariant.0

pub returns-in_err-remove_file-clause-left : goal.returns-in_err-remove_file-clause-left
returns-in_err-remove_file-clause-left g c =
    let F = g.F.Folder in
    let all = c.args.paths.now in
    let n = c.loop-path.path-index in
    let p = err_from_is_err_and c.from_residual.result c.from_residual.ensures.1 in
    let few : n ≤ length (map gone all) = omega (arith, c.loop-path-test.true, length-map all gone) in
    rw p.1 (first_made (map gone all) n (F.wrote c.args.folder.now) (F.wrote c.loop-path.folder) (F.wrote c.remove_file.new.folder) few c.in_err-remove_file.ensures.unchanged c.loop-path.invariant.0)

pub returns-in_err-remove_file-clause-refused : goal.returns-in_err-remove_file-clause-refused
returns-in_err-remove_file-clause-refused g c =
    let all = c.args.paths.now in
    let n = c.loop-path.path-index in
    let p = err_from_is_err_and c.from_residual.result c.from_residual.ensures.1 in
    let path = c.path-item.result in
    rw (p.1, p.2) (take n all, drop (suc n) all, path, split_at all n path c.loop-path-test.true ∙ ap (λ x. take n all ++ x ∷ drop (suc n) all) (sym c.path-item.is), c.in_err-remove_file.ensures.refused)
