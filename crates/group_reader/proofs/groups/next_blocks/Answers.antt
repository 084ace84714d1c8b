-- Proofs of the goals of `next_blocks` (`groups`).
use Rattle.std.proofs.Common.{◌≡◌, ◌+◌, suc, ℕ, List, [], ◌∷◌, ◌++◌, take, drop, map, refl, sym, ap, subst, ◌∙◌, arith}
use Rattle.std.proofs.Math.Seq.{take-suc}
use Rattle.std.proofs.lemmas.Result.{err_from_is_err_and}
use Rattle.meaning.specs.declared.catalog.Column.{Column}
use Rattle.blocks.specs.Block.{Block}
use Rattle.fragment_file.specs.FragmentReading.{block_at, blocks_at}
use Rattle.fragment_file.specs.View.{block_in}
use Rattle.fragment_file.proofs.Loops.{begins, behind, blocks_go_on, blocks_fail, blocks_finish}
use Rattle.group_reader.specs.Located.{AreLocated}
use Rattle.group_reader.proofs.BlockSteps.{located_push, none_located, pushed_blocks}
use Rattle.group_reader.proofs.Telling.{begun, finishes, goes_on, passes, stops_at}
use Rattle.group_reader.proofs.groups.next_blocks.Goals as goal

pub loop-column-init : goal.loop-column-init
loop-column-init g c =
    let a = c.args in
    rw c.new-locations.ensures.items (
      none_located a.rows c.clear.new.self.items,
      passes (λ (rest : List ℕ). behind [] (blocks_at a.group 0 a.columns.now a.rows rest)) (begun g.R.Read.remaining a.source.now (blocks_at a.group 0 a.columns.now a.rows))
          (λ rest. sym (begins (blocks_at a.group 0 a.columns.now a.rows rest) (blocks_at a.group 0 a.columns.now a.rows rest) refl)),
    )

pub returns-in_err-location-clause-read : goal.returns-in_err-location-clause-read
returns-in_err-location-clause-read g c =
    let a = c.args in
    let i = c.loop-column.column in
    let one = c.index-columns-column.result in
    let before = map (block_in c.loop-column.bytes.items) c.loop-column.locations.items in
    let p = err_from_is_err_and c.from_residual.result c.from_residual.ensures.1 in
    rw (p.1, p.2) (stops_at (block_at a.group i one a.rows) _ c.loop-column.invariant.1
    (λ bytes err. blocks_fail before a.group a.columns.now a.rows i bytes one _ (behind before (blocks_at a.group i (drop i a.columns.now) a.rows bytes)) c.loop-column-test.true (sym c.index-columns-column.is) err refl)
    c.in_err-location.ensures.read)

pub loop-column-preserved : goal.loop-column-preserved
loop-column-preserved g c =
    let a = c.args in
    let i = c.loop-column.column in
    let one = c.index-columns-column.result in
    let at = sym c.index-columns-column.is in
    let ps = c.loop-column.locations.items in
    let p = c.in_ok-location.location in
    let old = c.loop-column.bytes.items in
    let new = c.next_block.new.bytes.items in
    let inv = c.loop-column.invariant in
    let told = c.in_ok-location.ensures in
    let next : i + 1 ≡ suc i = omega arith in
    let more : take (i + 1) a.columns.now ≡ take i a.columns.now ++ one ∷ [] = ap (λ n. take n a.columns.now) next ∙ take-suc a.columns.now i one c.loop-column-test.true ∙ ap (λ (x : Column). take i a.columns.now ++ x ∷ []) at in
    let before = map (block_in old) ps in
    rw c.in_ok-push.ensures.items (
      subst (λ (cs : List Column). AreLocated cs a.rows new (ps ++ p ∷ [])) (sym more) (located_push (take i a.columns.now) one a.rows old new ps p told.kept inv.0 told.within told.block),
      goes_on (block_at a.group i one a.rows) (block_in new p) (λ (rest : List ℕ). behind (map (block_in new) (ps ++ p ∷ [])) (blocks_at a.group (i + 1) (drop (i + 1) a.columns.now) a.rows rest)) inv.1
          (λ bytes rest read.
          ap (λ (bs : List Block). behind bs (blocks_at a.group (i + 1) (drop (i + 1) a.columns.now) a.rows rest)) (pushed_blocks old new ps p told.kept inv.0.within)
          ∙ blocks_go_on before a.group a.columns.now a.rows i bytes one (block_in new p) rest (behind before (blocks_at a.group i (drop i a.columns.now) a.rows bytes)) c.loop-column-test.true at read refl)
          told.read,
    )

pub returns-clause-read : goal.returns-clause-read
returns-clause-read g c =
    let a = c.args in
    let i = c.loop-column.column in
    let before = map (block_in c.loop-column.bytes.items) c.loop-column.locations.items in
    finishes before c.loop-column.invariant.1 (λ rest. blocks_finish before a.group a.columns.now a.rows i rest (behind before (blocks_at a.group i (drop i a.columns.now) a.rows rest)) c.loop-column-test.false refl)
