-- Proofs of the goals of `put_all` (`saving`).
use Rattle.std.proofs.Common.{◌≡◌, ◌+◌, suc, ◌≤◌, ◌<◌, ◌∷◌, ◌++◌, ap, length, map, take, drop, sym, refl, subst, ◌∙◌, arith}
use Rattle.std.proofs.Math.Seq.{split_at}
use Rattle.std.proofs.lemmas.List.{length-map}
use Rattle.std.proofs.lemmas.Result.{err_from_is_err_and}
use Rattle.loads.specs.Loading.{put}
use Rattle.loads.proofs.HandedOn.{head_of}
use Rattle.loads.proofs.Planned.{all_made, first_made, none_made, put_next}
use Rattle.loads.proofs.saving.put_all.Goals as goal

pub loop-ready-init : goal.loop-ready-init
loop-ready-init g c =
    let F = g.F.Folder in
    (0, refl, omega arith, (λ known. none_made (map (put F.enclosed) c.args.files.items) (F.wrote c.args.folder.now)), λ path tried. tried)

pub loop-ready-preserved : goal.loop-ready-preserved
loop-ready-preserved g c =
    let F = g.F.Folder in
    let all = c.args.files.items in
    let (n, left, count, made, trying) = c.loop-ready.invariant in
    let r = c.in-Some.ready in
    let rest = c.pop_front.new.self.items in
    let split : drop n all ≡ r ∷ rest = sym left ∙ c.in-Some.ensures.items in
    let (below, at, behind) = head_of all n r rest split in
    let one = ap length c.in-Some.ensures.items in (
      n + 1,
      sym behind,
      omega (arith, count, one),
      (λ known. put_next F.enclosed all n r rest (F.wrote c.args.folder.now) (F.wrote c.loop-ready.folder) (F.wrote c.put_ready.new.folder) known split (made known) c.in_ok-put_ready.ensures.written),
      λ path tried. trying path (c.in_ok-put_ready.ensures.trying path tried),
    )

pub returns-clause-written : goal.returns-clause-written
returns-clause-written g c known =
    let F = g.F.Folder in
    let all = c.args.files.items in
    let (n, left, count, made, trying) = c.loop-ready.invariant in
    let none = c.in_default.ensures.cases.0 in
    let ends = c.loop-ready.files.ok.0 in
    let few : length (map (put F.enclosed) all) ≤ n = omega (arith, none, ends, count, length-map all (put F.enclosed)) in
    all_made (map (put F.enclosed) all) n (F.wrote c.args.folder.now) (F.wrote c.loop-ready.folder) few (made known)

pub returns-in_err-put_ready-clause-left : goal.returns-in_err-put_ready-clause-left
returns-in_err-put_ready-clause-left g c =
    let F = g.F.Folder in
    let all = c.args.files.items in
    let (n, left, count, made, trying) = c.loop-ready.invariant in
    let p = err_from_is_err_and c.from_residual.result c.from_residual.ensures.1 in
    let few : n ≤ length (map (put F.enclosed) all) = omega (arith, count, length-map all (put F.enclosed)) in
    rw p.1 (λ known. first_made (map (put F.enclosed) all) n (F.wrote c.args.folder.now) (F.wrote c.loop-ready.folder) (F.wrote c.put_ready.new.folder) few c.in_err-put_ready.ensures.left (made known))

pub returns-in_err-put_ready-clause-refused : goal.returns-in_err-put_ready-clause-refused
returns-in_err-put_ready-clause-refused g c =
    let all = c.args.files.items in
    let (n, left, count, made, trying) = c.loop-ready.invariant in
    let r = c.in-Some.ready in
    let rest = c.pop_front.new.self.items in
    let split : drop n all ≡ r ∷ rest = sym left ∙ c.in-Some.ensures.items in
    let (below, at, behind) = head_of all n r rest split in
    let p = err_from_is_err_and c.from_residual.result c.from_residual.ensures.1 in
    rw (p.1, p.2) (take n all, drop (suc n) all, r, split_at all n r below ∙ ap (λ x. take n all ++ x ∷ drop (suc n) all) (sym at), c.in_err-put_ready.ensures.refused)

pub returns-in_err-put_ready-clause-unwritten : goal.returns-in_err-put_ready-clause-unwritten
returns-in_err-put_ready-clause-unwritten g c =
    let (n, left, count, made, trying) = c.loop-ready.invariant in
    let p = err_from_is_err_and c.from_residual.result c.from_residual.ensures.1 in
    rw (p.1, p.2) (λ path is. trying path (c.in_err-put_ready.ensures.unwritten path is))

pub returns-clause-trying : goal.returns-clause-trying
returns-clause-trying g c = c.loop-ready.invariant.4

pub returns-in_err-put_ready-clause-trying : goal.returns-in_err-put_ready-clause-trying
returns-in_err-put_ready-clause-trying g c = λ path tried. c.loop-ready.invariant.4 path (c.in_err-put_ready.ensures.trying path tried)
