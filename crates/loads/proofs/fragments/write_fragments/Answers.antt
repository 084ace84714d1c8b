-- Proofs of the goals of `write_fragments` (`fragments`).
use Rattle.std.proofs.Common.{◌<◌, ◌++◌, ◌∷◌, [], ℕ, List, Option, length, get_or, ap, refl, subst, sym, ◌∙◌, arith}
use Rattle.std.specs.Prelude.{IfOk}
use Rattle.std.proofs.lemmas.Result.{err_from_is_err_and}
use Rattle.columns.specs.Column.{ColumnSpec}
use Rattle.fragment_file.specs.Writing.{AreColumns}
use Rattle.loader.proofs.Handing.{one_refused}
use Rattle.folders.specs.Folder.{Change}
use Rattle.loads.specs.Loading.{AreFragmentsClosed}
use Rattle.loads.proofs.HandedOn.{all_handed_on, handed_more, next_handed, next_slice, none_closed, none_yet}
use Rattle.loads.proofs.Tried.{tried_either}
use Rattle.loads.proofs.WrittenFiles.{next_fits}
use Rattle.loads.proofs.fragments.write_fragments.Goals as goal

pub loop-files-init : goal.loop-files-init
loop-files-init g c =
    let F = g.F.Folder in
    let target = c.args.target.now in (
      refl,
      refl,
      refl,
      omega arith,
      tt,
      [],
      none_yet g.F.Reader.Read.remaining c.args.reader.now target.catalog.now.fact c.args.cut.now c.requires.declared c.requires.lengths,
      none_closed F.enclosed (F.wrote c.args.folder.now) target.load target.catalog.now.fact c.args.cut.now c.new.result.items c.new.ensures.items,
      λ path asked. asked,
      tt,
      λ path tried. tried,
    )

pub returns-in_err-columns-clause-refused : goal.returns-in_err-columns-clause-refused
returns-in_err-columns-clause-refused g c =
    let p = err_from_is_err_and c.from_residual.result c.from_residual.ensures.1 in
    let so_far = c.loop-files.invariant in
    rw (p.1, p.2) (λ meant coming. one_refused g.F.Reader.Read.remaining meant so_far.5 c.loop-files.reader c.next_fragment.new.self (so_far.6.handed meant coming) c.in_err-columns.field-0.0 c.in_err-columns.ensures.taken)

pub with_fragment-files-requires-clause-columns : goal.with_fragment-files-requires-clause-columns
with_fragment-files-requires-clause-columns g c =
    let table = c.args.target.now.catalog.now.fact in
    let cut = c.args.cut.now in
    let k = c.loop-files.fragment in
    let so_far = c.loop-files.invariant in
    let columns = c.in-Some.columns in
    let next = next_handed g.F.Reader.Read.remaining c.args.reader.now c.loop-files.reader c.next_fragment.new.self table cut k so_far.5 so_far.6 c.in_ok-columns.field-0 columns c.in-Some.is c.in_ok-columns.ensures.next in
    subst (λ (cs : List ColumnSpec). AreColumns table.columns (get_or c.lengths-lengths.result.now k 0) cs) (sym c.as_slice.ensures)
    (subst (λ (l : List ℕ). AreColumns table.columns (get_or l k 0) columns) (sym c.lengths-lengths.ensures.value) next.are)

pub overflow_add-first_row : goal.overflow_add-first_row
overflow_add-first_row g c =
    let cut = c.args.cut.now in
    let lengths = c.lengths-lengths.result.now in
    let k = c.loop-files.fragment in
    let so_far = c.loop-files.invariant in
    let next = next_handed g.F.Reader.Read.remaining c.args.reader.now c.loop-files.reader c.next_fragment.new.self c.args.target.now.catalog.now.fact cut k so_far.5 so_far.6 c.in_ok-columns.field-0 c.in-Some.columns c.in-Some.is c.in_ok-columns.ensures.next in
    let count = ap length c.lengths-lengths.ensures.value in
    let below : k < length lengths = omega (arith, next.below, count) in
    let fits = next_fits cut lengths k c.loop-files.first_row c.from-first_row.result c.lengths-lengths.ensures.within_limits c.lengths-lengths.ensures.value below so_far.2 c.from-first_row.ensures in
    omega (arith, fits.0)

pub loop-files-preserved : goal.loop-files-preserved
loop-files-preserved g c =
    let F = g.F.Folder in
    let known = g.F.Reader.Read.remaining in
    let target = c.args.target.now in
    let table = target.catalog.now.fact in
    let cut = c.args.cut.now in
    let lengths = c.lengths-lengths.result.now in
    let k = c.loop-files.fragment in
    let so_far = c.loop-files.invariant in
    let done = so_far.5 in
    let columns = c.in-Some.columns in
    let next = next_handed known c.args.reader.now c.loop-files.reader c.next_fragment.new.self table cut k done so_far.6 c.in_ok-columns.field-0 columns c.in-Some.is c.in_ok-columns.ensures.next in
    let count = ap length c.lengths-lengths.ensures.value in
    let below : k < length lengths = omega (arith, next.below, count) in
    let fits = next_fits cut lengths k c.loop-files.first_row c.from-first_row.result c.lengths-lengths.ensures.within_limits c.lengths-lengths.ensures.value below so_far.2 c.from-first_row.ensures in
    let slice = next_slice cut lengths k c.loop-files.first_row (get_or lengths k 0) done so_far.6.count so_far.2 c.lengths-lengths.ensures.value refl in
    let before = subst (λ (w : Option (List Change)). IfOk c.loop-files.files (λ closed. AreFragmentsClosed F.enclosed w target.load table cut done closed.items)) (sym so_far.0) so_far.7 in
    let closed = c.with_fragment-files.ensures.closed cut done slice before in (
      c.with_fragment-files.ensures.same ∙ so_far.0,
      c.with_fragment-files.ensures.held ∙ so_far.1,
      fits.1,
      omega (arith, next.below),
      c.with_fragment-files.ensures.refused (length cut) next.below so_far.4,
      done ++ columns ∷ [],
      handed_more known c.args.reader.now c.loop-files.reader c.next_fragment.new.self table cut k done so_far.6 c.in_ok-columns.field-0 columns c.in-Some.is next c.next_fragment.ensures.declared c.in_ok-columns.ensures.taken,
      subst (λ (cs : List ColumnSpec). IfOk c.with_fragment-files.result (λ after. AreFragmentsClosed F.enclosed (F.wrote c.args.folder.now) target.load table cut (done ++ cs ∷ []) after.items)) c.as_slice.ensures
          (subst (λ (w : Option (List Change)). IfOk c.with_fragment-files.result (λ after. AreFragmentsClosed F.enclosed w target.load table cut (done ++ c.as_slice.result.now ∷ []) after.items)) so_far.0 closed),
      λ path asked. so_far.8 path (c.with_fragment-files.ensures.asking path asked),
      tried_either (F.tries c.args.folder.now) (F.tries c.loop-files.folder) c.loop-files.files c.with_fragment-files.result so_far.10 so_far.9 c.with_fragment-files.ensures.unwritten,
      λ path tried. so_far.10 path (c.with_fragment-files.ensures.trying path tried),
    )

pub returns-clause-loaded : goal.returns-clause-loaded
returns-clause-loaded g c =
    let so_far = c.loop-files.invariant in
    let all = all_handed_on g.F.Reader.Read.remaining c.args.reader.now c.loop-files.reader c.next_fragment.new.self c.args.target.now.catalog.now.fact c.args.cut.now c.loop-files.fragment so_far.5 so_far.6 c.in_ok-columns.field-0
    c.in_default.not-Some c.in_ok-columns.ensures.next c.in_ok-columns.ensures.taken in
    (so_far.5, all.0, all.1, so_far.7, so_far.4)
