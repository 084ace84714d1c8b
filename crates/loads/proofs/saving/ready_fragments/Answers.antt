-- Proofs of the goals of `ready_fragments` (`saving`).
use Rattle.std.proofs.Common.{◌≡◌, ◌≤◌, ◌∷◌, ap, length, take, drop, sym, refl, subst, ◌∙◌, arith}
use Rattle.std.specs.List.{enumerate_from}
use Rattle.std.proofs.lemmas.List.{take_all}
use Rattle.folders.specs.Each.{AreEach}
use Rattle.folders.specs.Folder.{fragment_path}
use Rattle.loads.specs.Loading.{IsReadyUnder}
use Rattle.loads.proofs.HandedOn.{head_of}
use Rattle.loads.proofs.Planned.{ready_more}
use Rattle.loads.proofs.saving.ready_fragments.Goals as goal

pub loop-file-preserved : goal.loop-file-preserved
loop-file-preserved g c =
    let target = c.args.target.now in
    let all = c.args.files.items in
    let n = c.loop-file.fragment in
    let file = c.in-Some.file in
    let rest = c.pop_front.new.self.items in
    let split : drop n all ≡ file ∷ rest = sym c.loop-file.invariant.0 ∙ c.in-Some.ensures.items in
    let (below, at, behind) = head_of all n file rest split in
    let count = ap length c.in-Some.ensures.items in (
      sym behind,
      omega (arith, c.loop-file.invariant.1, count),
      ready_more target.directory.now target.catalog.now.fact all n file _ _ _ below at c.loop-file.invariant.2 (c.in_ok-path.ensures ∙ ap (λ n. fragment_path target.directory.now n c.loop-file.fragment) c.as_str-name.ensures) refl c.in_ok-push_back.ensures.items,
    )

pub returns : goal.returns
returns g c =
    let target = c.args.target.now in
    let all = c.args.files.items in
    let none = c.in_default.ensures.cases.0 in
    let left = c.loop-file.files.ok.0 in
    let few : length all ≤ c.loop-file.fragment = omega (arith, none, left, c.loop-file.invariant.1) in
    subst (λ l. AreEach (IsReadyUnder target.directory.now target.catalog.now.fact) (enumerate_from 0 l) c.loop-file.ready.items) (take_all c.loop-file.fragment all few) c.loop-file.invariant.2
