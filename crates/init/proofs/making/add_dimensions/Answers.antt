-- Proofs of the goals of `add_dimensions` (`making`).
use Rattle.std.proofs.Common.{◌≡◌, [], ◌∷◌, ◌++◌, ◌+◌, false, true, ap, inr, map, subst, sym, take, ◌∙◌}
use Rattle.std.specs.Str.{bytes_eq}
use Rattle.std.proofs.KnownBytes.{Appends-trans}
use Rattle.std.proofs.lemmas.List.{map-append}
use Rattle.std.proofs.lemmas.Result.{err_from_is_err_and}
use Rattle.folders.specs.Folder.{csv_path}
use Rattle.init.specs.declared.keys.Keyed.{Keyed}
use Rattle.init.specs.Guessed.{AreDimensionsOf, AreShown, IsFirstKey, others}
use Rattle.init.specs.Guessing.{IsDimensionUnmade}
use Rattle.init.specs.Saying.{AreKeysOf, AreSaid, dimension_line}
use Rattle.init.specs.Shown.{is_short_name}
use Rattle.init.proofs.Guessing.{first_unmade, one_dimension_more, one_other_more}
use Rattle.init.proofs.Saying.{said_more}
use Rattle.init.proofs.making.add_dimensions.Goals as goal

pub returns-in_err-dimension-clause-refused : goal.returns-in_err-dimension-clause-refused
returns-in_err-dimension-clause-refused g c =
    let file = c.file-item.result in
    let e = c.in_err-dimension.field-0.0 in
    let apart = subst (λ table. bytes_eq table c.args.fact.now ≡ false) c.as_str.ensures.value (sym c.eq.ensures ∙ c.if-eq.false) in
    let unmade = subst (λ table. IsDimensionUnmade (g.F.Folder.holds c.args.folder.now) (csv_path c.args.directory.now table) table e) c.as_str-in-loop-file.ensures.value c.in_err-dimension.ensures.refused in
    let p = err_from_is_err_and c.from_residual.result c.from_residual.ensures.1 in
    rw (p.1, p.2) (λ empty.
    inr (first_unmade (g.F.Folder.holds c.args.folder.now) c.args.directory.now c.args.files.now c.args.fact.now c.loop-file.file-index file (map (λ (keyed : Keyed). keyed.dimension) c.loop-file.dims.items) e c.loop-file-test.true c.file-item.is apart (c.loop-file.invariant empty).0 unmade))

pub loop-file-preserved : goal.loop-file-preserved
loop-file-preserved g c = λ empty.
    let holds = g.F.Folder.holds c.args.folder.now in
    let folder = c.args.directory.now in
    let fact = c.args.fact.now in
    let files = c.args.files.now in
    let index = c.loop-file.file-index in
    let file = c.file-item.result in
    let (read, text, said, begun) = c.loop-file.invariant empty in
    let dimension = c.in_ok-dimension.dimension.dimension in
    let made = subst (λ table. (dimension.table.name ≡ table) × (is_short_name table ≡ true) × AreShown holds (csv_path folder table) dimension.table.columns × IsFirstKey holds (csv_path folder table) dimension) c.as_str-in-loop-file.ensures.value c.in_ok-dimension.ensures.made in
    let apart = subst (λ table. bytes_eq table fact ≡ false) c.as_str.ensures.value (sym c.eq.ensures ∙ c.if-eq.false) in
    let more = one_dimension_more holds folder (others fact (take index files)) (map (λ (keyed : Keyed). keyed.dimension) c.loop-file.dims.items) file dimension read made in
    let pushed = ap (map (λ (keyed : Keyed). keyed.dimension)) c.in_ok-push.ensures.items ∙ map-append (λ (keyed : Keyed). keyed.dimension) c.loop-file.dims.items (c.in_ok-dimension.dimension ∷ []) in
    let keys = subst (λ name. AreKeysOf holds (csv_path folder name) dimension c.in_ok-dimension.dimension.others.items) (sym made.0) (subst (λ table. AreKeysOf holds (csv_path folder table) dimension c.in_ok-dimension.dimension.others.items) c.as_str-in-loop-file.ensures.value c.in_ok-dimension.ensures.keys) in
    let line = dimension_line dimension c.in_ok-dimension.dimension.others.items in (
      subst (AreDimensionsOf holds folder (others fact (take (index + 1) files))) (sym pushed) (subst (λ fs. AreDimensionsOf holds folder fs (map (λ (keyed : Keyed). keyed.dimension) c.loop-file.dims.items ++ dimension ∷ [])) (sym (one_other_more fact files index file c.loop-file-test.true c.file-item.is apart)) more),
      text ++ line,
      subst (λ ds. AreSaid holds folder ds (text ++ line)) (sym pushed) (said_more holds folder (map (λ (keyed : Keyed). keyed.dimension) c.loop-file.dims.items) text dimension c.in_ok-dimension.dimension.others.items said keys),
      Appends-trans _ _ _ text line begun c.in_ok-dimension.ensures.said,
    )
