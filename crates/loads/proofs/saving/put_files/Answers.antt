-- Proofs of the goals of `put_files` (`saving`).
use Rattle.std.proofs.Common.{◌++◌, ◌∷◌, [], map, inl, inr}
use Rattle.std.proofs.lemmas.Result.{IfErr-weaker, err_from_is_err_and, on_err_weaker, on_ok_weaker}
use Rattle.loads.specs.Loading.{gone, put}
use Rattle.loads.proofs.Planned.{put_one, stopped_first, stopped_last, stopped_second, stopped_third, then_made, then_one}
use Rattle.loads.proofs.saving.put_files.Goals as goal

pub returns-clause-written : goal.returns-clause-written
returns-clause-written g c =
    let F = g.F.Folder in
    let A = map (put F.enclosed) c.args.fragments.items in
    let B = map (put F.enclosed) c.args.dims.items in
    let C = map gone c.args.others.now in
    let w0 = F.wrote c.args.folder.now in
    let w1 = F.wrote c.put_all.new.folder in
    let w2 = F.wrote c.put_all-2.new.folder in
    let w3 = F.wrote c.remove_all.new.folder in
    let w4 = F.wrote c.put_ready.new.folder in
    on_ok_weaker c.put_ready.result (λ last front middle known.
    then_one ((A ++ B) ++ C) (put F.enclosed c.args.cut) w0 w3 w4
    (then_made (A ++ B) C w0 w2 w3 (then_made A B w0 w1 w2 (c.in_ok-put_all.ensures.written front) (c.in_ok-put_all-2.ensures.written middle)) c.in_ok-remove_all.ensures.removed)
    (put_one F.enclosed c.args.cut w3 w4 known.0 last)) c.put_ready.ensures.written

pub returns-clause-left : goal.returns-clause-left
returns-clause-left g c =
    let F = g.F.Folder in
    let A = map (put F.enclosed) c.args.fragments.items in
    let B = map (put F.enclosed) c.args.dims.items in
    let C = map gone c.args.others.now in
    let w0 = F.wrote c.args.folder.now in
    let w1 = F.wrote c.put_all.new.folder in
    let w2 = F.wrote c.put_all-2.new.folder in
    let w3 = F.wrote c.remove_all.new.folder in
    let w4 = F.wrote c.put_ready.new.folder in
    on_err_weaker c.put_ready.result (λ same front middle. stopped_last A B C w0 w1 w2 w3 w4 (c.in_ok-put_all.ensures.written front) (c.in_ok-put_all-2.ensures.written middle) c.in_ok-remove_all.ensures.removed same) c.put_ready.ensures.left

pub returns-in_err-put_all-clause-left : goal.returns-in_err-put_all-clause-left
returns-in_err-put_all-clause-left g c =
    let F = g.F.Folder in
    let p = err_from_is_err_and c.from_residual.result c.from_residual.ensures.1 in
    rw p.1 (λ front middle. stopped_first (map (put F.enclosed) c.args.fragments.items) (map (put F.enclosed) c.args.dims.items) (map gone c.args.others.now) (F.wrote c.args.folder.now) (F.wrote c.put_all.new.folder)
    (c.in_err-put_all.ensures.left front))

pub returns-in_err-put_all-2-clause-left : goal.returns-in_err-put_all-2-clause-left
returns-in_err-put_all-2-clause-left g c =
    let F = g.F.Folder in
    let p = err_from_is_err_and c.from_residual-in_err-put_all-2.result c.from_residual-in_err-put_all-2.ensures.1 in
    rw p.1 (λ front middle. stopped_second (map (put F.enclosed) c.args.fragments.items) (map (put F.enclosed) c.args.dims.items) (map gone c.args.others.now) (F.wrote c.args.folder.now) (F.wrote c.put_all.new.folder) (F.wrote c.put_all-2.new.folder)
    (c.in_ok-put_all.ensures.written front) (c.in_err-put_all-2.ensures.left middle))

pub returns-in_err-remove_all-clause-left : goal.returns-in_err-remove_all-clause-left
returns-in_err-remove_all-clause-left g c =
    let F = g.F.Folder in
    let p = err_from_is_err_and c.from_residual-in_err-remove_all.result c.from_residual-in_err-remove_all.ensures.1 in
    rw p.1 (λ front middle. stopped_third (map (put F.enclosed) c.args.fragments.items) (map (put F.enclosed) c.args.dims.items) (map gone c.args.others.now) (F.wrote c.args.folder.now) (F.wrote c.put_all.new.folder) (F.wrote c.put_all-2.new.folder) (F.wrote c.remove_all.new.folder)
    (c.in_ok-put_all.ensures.written front) (c.in_ok-put_all-2.ensures.written middle) c.in_err-remove_all.ensures.left)
