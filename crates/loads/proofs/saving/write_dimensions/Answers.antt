-- Proofs of the goals of `write_dimensions` (`saving`).
use Rattle.std.proofs.Common.{◌≡◌, ◌<◌, List, ℕ, Option, length, get_or, sym, subst, ap, ◌∙◌, arith}
use Rattle.folders.specs.Folder.{Change}
use Rattle.folders.proofs.Each.{each_length}
use Rattle.columns.specs.Column.{ColumnSpec}
use Rattle.loads.specs.Loading.{AreDimensionColumns, IsDimensionReady}
use Rattle.std.proofs.lemmas.Result.{err_from_is_err_and}
use Rattle.loads.proofs.Refusals.{contained}
use Rattle.loads.proofs.Planned.{dimension_ready_more, dimensions_ready}
use Rattle.loads.proofs.WrittenFiles.{dimension_at}
use Rattle.loads.proofs.saving.write_dimensions.Goals as goal

pub bounds-dims-i : goal.bounds-dims-i
bounds-dims-i g c =
    let count = ap length c.as_slice-declared.ensures in
    let alike = each_length AreDimensionColumns c.args.target.now.catalog.now.dims c.args.dims.now c.requires.columns in
    omega (arith, count, alike)

pub write_dimension-requires-clause-columns : goal.write_dimension-requires-clause-columns
write_dimension-requires-clause-columns g c =
    let at = subst (λ (x : List ColumnSpec). x ≡ get_or c.args.dims.now c.loop-i.i x) (sym c.as_slice.ensures) c.index-dims-i.is in
    dimension_at c.args.target.now.catalog.now.dims c.as_slice-declared.result.now c.args.dims.now c.loop-i.i c.index-declared-i.result c.as_slice.result.now
    c.as_slice-declared.ensures c.loop-i-test.true c.index-declared-i.is at c.requires.columns

pub loop-i-preserved : goal.loop-i-preserved
loop-i-preserved g c =
    let F = g.F.Folder in
    let target = c.args.target.now in
    let dims = c.args.dims.now in
    let count = ap length c.as_slice-declared.ensures in
    let alike = each_length AreDimensionColumns target.catalog.now.dims dims c.requires.columns in
    let within : c.loop-i.i < length dims = omega (arith, count, alike) in
    let at = subst (λ (x : List ColumnSpec). x ≡ get_or dims c.loop-i.i x) (sym c.as_slice.ensures) c.index-dims-i.is in
    let (same, all, trying) = c.loop-i.invariant in
    let one = subst (λ (w : Option (List Change)). IsDimensionReady F.enclosed w target.directory.now target.load (c.index-declared-i.result, c.as_slice.result.now) c.in_ok-dim.dim) same c.in_ok-dim.ensures.ready in (
      c.in_ok-dim.ensures.same ∙ same,
      dimension_ready_more F.enclosed (F.wrote c.args.folder.now) target.directory.now target.load c.as_slice-declared.result.now dims c.loop-i.i c.index-declared-i.result c.as_slice.result.now c.in_ok-dim.dim _ _
          c.loop-i-test.true within c.index-declared-i.is at all one c.in_ok-push_back.ensures.items,
      λ path tried. trying path (c.in_ok-dim.ensures.trying path tried),
    )

pub returns-clause-ready : goal.returns-clause-ready
returns-clause-ready g c =
    let F = g.F.Folder in
    let target = c.args.target.now in
    let alike = each_length AreDimensionColumns target.catalog.now.dims c.args.dims.now c.requires.columns in
    dimensions_ready (IsDimensionReady F.enclosed (F.wrote c.args.folder.now) target.directory.now target.load) target.catalog.now.dims c.as_slice-declared.result.now c.args.dims.now c.loop-i.i c.loop-i.ready.items
    c.as_slice-declared.ensures c.loop-i-test.false alike c.loop-i.invariant.1

pub returns-in_err-dim-clause-refused : goal.returns-in_err-dim-clause-refused
returns-in_err-dim-clause-refused g c =
    let d = c.index-declared-i.result in
    let p = err_from_is_err_and c.from_residual.result c.from_residual.ensures.1 in
    rw (p.1, p.2) (
      d,
      contained c.args.target.now.catalog.now.dims c.as_slice-declared.result.now c.loop-i.i d c.as_slice-declared.ensures c.loop-i-test.true c.index-declared-i.is,
      c.in_err-dim.ensures.refused,
    )
