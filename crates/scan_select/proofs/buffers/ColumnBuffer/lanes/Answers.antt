-- Proofs of the goals of `lanes` (`buffers`).
use Rattle.std.proofs.Common.{map, ap, sym, subst, ◌∙◌}
use Rattle.meaning.specs.declared.outcome.Outcome.TheVariants as gives
use Rattle.meaning.specs.declared.value.ColType.TheVariants as of_type
use Rattle.meaning.specs.Order.{is_null, number}
use Rattle.fragment_file.specs.Lent.{blocks_in}
use Rattle.scan_select.specs.declared.buffers.Room.{Room}
use Rattle.scan_select.specs.Buffers.{HoldsRows, IsRoomFor, block_of}
use Rattle.scan_select.proofs.Filling.{taken, window}
use Rattle.scan_select.proofs.Masks.{ints_lent, mask_fits}
use Rattle.scan_select.proofs.buffers.ColumnBuffer.lanes.Goals as goal

pub lent_nulls-nulls-requires : goal.lent_nulls-nulls-requires
lent_nulls-nulls-requires c =
    let group = blocks_in c.args.group.now in
    let block = block_of group c.args.self.now.column in
    let type = subst (λ (r : Room). IsRoomFor block.col_type r) c.in-Ints.is c.requires.type in
    let holds = subst (λ (r : Room). HoldsRows group c.args.first c.args.rows c.args.self.now.column r) c.in-Ints.is (c.requires.holds c.if-not-self.false) in
    mask_fits of_type.Int c.args.self.now.nullable (window block c.args.first c.args.rows c.requires.sound) c.nulls.result.now
    (taken block c.args.first c.args.rows c.requires.sound of_type.Int c.args.self.now.nullable type (sym c.requires.nullable)) (c.nulls.ensures ∙ ap (map is_null) holds)

pub returns-in-Ints-clause-values : goal.returns-in-Ints-clause-values
returns-in-Ints-clause-values c =
    let group = blocks_in c.args.group.now in
    let block = block_of group c.args.self.now.column in
    let type = subst (λ (r : Room). IsRoomFor block.col_type r) c.in-Ints.is c.requires.type in
    let holds = subst (λ (r : Room). HoldsRows group c.args.first c.args.rows c.args.self.now.column r) c.in-Ints.is (c.requires.holds c.if-not-self.false) in
    ap (map gives.Value) (c.new.ensures ∙ ints_lent c.args.self.now.nullable (window block c.args.first c.args.rows c.requires.sound) c.nulls.result.now c.lent_nulls-nulls.result (c.nulls.ensures ∙ ap (map is_null) holds) c.lent_nulls-nulls.ensures
    c.ints.result.now (taken block c.args.first c.args.rows c.requires.sound of_type.Int c.args.self.now.nullable type (sym c.requires.nullable)) (c.ints.ensures ∙ ap (map number) holds))
