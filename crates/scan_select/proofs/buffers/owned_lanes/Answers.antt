-- Proofs of the goals of `owned_lanes` (`buffers`).
use Rattle.std.proofs.Common.{◌≡◌, ℕ, Bool, List, map, take, drop, ap, refl, sym, subst, ◌∙◌}
use Rattle.meaning.specs.declared.outcome.Outcome.TheVariants as gives
use Rattle.meaning.specs.declared.value.ColType.TheVariants as of_type
use Rattle.meaning.specs.Order.{bytes, is_null, number}
use Rattle.blocks.specs.Block.{values_of}
use Rattle.blocks.specs.VectorBuf.{AreParts, Vector}
use Rattle.blocks.specs.declared.vector_buf.Lanes.{Lanes}
use Rattle.blocks.specs.declared.vector_buf.Lanes.TheVariants as lanes
use Rattle.scan_select.proofs.Filling.{taken, window}
use Rattle.scan_select.proofs.Masks.{ints_lent, mask_fits, texts_lent}
use Rattle.scan_select.proofs.buffers.owned_lanes.Goals as goal

nulls_in : (l : Lanes) (nulls : List Bool) (v : Vector) → AreParts l nulls v → nulls ≡ map is_null v.values
nulls_in (lanes.Ints ints) nulls v are = are.2
nulls_in (lanes.Texts texts) nulls v are = are.2

pub owned_nulls-nulls-requires : goal.owned_nulls-nulls-requires
owned_nulls-nulls-requires c =
    let block = c.args.block.now in
    let room = ap (λ (v : Vector). v.room) c.in_ok-values.ensures in
    let is : c.read_into.new.out.values ≡ window block c.args.first c.args.rows c.requires.sound = ap (λ (v : Vector). v.values) c.read_into.ensures ∙ ap (λ (n : ℕ). take n (drop c.args.first (values_of block))) room in
    mask_fits block.col_type c.nullable.result (window block c.args.first c.args.rows c.requires.sound) c.into_parts-lanes.result.1.items
    (taken block c.args.first c.args.rows c.requires.sound block.col_type c.nullable.result refl (sym c.nullable.ensures))
    (nulls_in c.into_parts-lanes.result.0 c.into_parts-lanes.result.1.items c.read_into.new.out c.into_parts-lanes.ensures ∙ ap (map is_null) is)

pub returns-in-Ints-clause-values : goal.returns-in-Ints-clause-values
returns-in-Ints-clause-values c =
    let block = c.args.block.now in
    let room = ap (λ (v : Vector). v.room) c.in_ok-values.ensures in
    let is : c.read_into.new.out.values ≡ window block c.args.first c.args.rows c.requires.sound = ap (λ (v : Vector). v.values) c.read_into.ensures ∙ ap (λ (n : ℕ). take n (drop c.args.first (values_of block))) room in
    let parts = subst (λ (l : Lanes). AreParts l c.into_parts-lanes.result.1.items c.read_into.new.out) c.in-Ints.is c.into_parts-lanes.ensures in
    let type = sym (ap (λ (v : Vector). v.col_type) c.read_into.ensures) ∙ parts.0 in
    ap (map gives.Value) (c.new-in-Ints.ensures ∙ ints_lent c.nullable.result (window block c.args.first c.args.rows c.requires.sound) c.into_parts-lanes.result.1.items c.owned_nulls-nulls.result (parts.2 ∙ ap (map is_null) is) c.owned_nulls-nulls.ensures
    c.in-Ints.ints.items (taken block c.args.first c.args.rows c.requires.sound of_type.Int c.nullable.result type (sym c.nullable.ensures)) (parts.1 ∙ ap (map number) is))

pub returns-in-Texts-clause-values : goal.returns-in-Texts-clause-values
returns-in-Texts-clause-values c =
    let block = c.args.block.now in
    let room = ap (λ (v : Vector). v.room) c.in_ok-values.ensures in
    let is : c.read_into.new.out.values ≡ window block c.args.first c.args.rows c.requires.sound = ap (λ (v : Vector). v.values) c.read_into.ensures ∙ ap (λ (n : ℕ). take n (drop c.args.first (values_of block))) room in
    let parts = subst (λ (l : Lanes). AreParts l c.into_parts-lanes.result.1.items c.read_into.new.out) c.in-Texts.is c.into_parts-lanes.ensures in
    let type = sym (ap (λ (v : Vector). v.col_type) c.read_into.ensures) ∙ parts.0 in
    ap (map gives.Value) (c.new-in-Texts.ensures ∙ texts_lent c.nullable.result (window block c.args.first c.args.rows c.requires.sound) c.into_parts-lanes.result.1.items c.owned_nulls-nulls.result (parts.2 ∙ ap (map is_null) is) c.owned_nulls-nulls.ensures
    (map (λ t. t.now) c.in-Texts.texts.items) (taken block c.args.first c.args.rows c.requires.sound of_type.Text c.nullable.result type (sym c.nullable.ensures)) (parts.1 ∙ ap (map bytes) is))
