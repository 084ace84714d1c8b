-- Proofs of the goals of `append_block` (`copying`).
use Rattle.std.proofs.Common.{◌≡◌, true, List, sym, ap, subst, ◌∙◌}
use Rattle.std.specs.Prelude.{Bool}
use Rattle.std.specs.List.{list_all}
use Rattle.meaning.specs.declared.value.ColType.{ColType}
use Rattle.meaning.specs.declared.value.Value.{Value}
use Rattle.blocks.specs.VectorBuf.{Vector}
use Rattle.blocks.specs.Block.{values_of}
use Rattle.fragment_file.specs.Copying.{is_taken, with_values}
use Rattle.fragment_file.proofs.Written.{on_ok}
use Rattle.fragment_file.proofs.CopiedColumns.{all_read}
use Rattle.fragment_file.proofs.TakenValues.{values_taken}
use Rattle.fragment_file.proofs.copying.append_block.Goals as goal

pub append_values-requires : goal.append_values-requires
append_values-requires c =
    let read = ap (λ (v : Vector). v.values) c.read_into.ensures ∙ all_read c.args.block.now c.args.buffer.now.room c.len-rows.ensures.sound c.requires.room in
    let taken = values_taken c.args.block.now c.len-rows.ensures.sound in
    let of_type = subst (λ (t : ColType). list_all (is_taken t c.args.block.now.nullable) (values_of c.args.block.now) ≡ true) c.requires.col_type taken in
    let of_both = subst (λ (n : Bool). list_all (is_taken c.args.column.now.col_type n) (values_of c.args.block.now) ≡ true) c.requires.nullable of_type in
    subst (λ (vs : List Value). list_all (is_taken c.args.column.now.col_type c.args.column.now.nullable) vs ≡ true) (sym read) of_both

pub returns-clause-ok : goal.returns-clause-ok
returns-clause-ok c =
    let read = ap (λ (v : Vector). v.values) c.read_into.ensures ∙ all_read c.args.block.now c.args.buffer.now.room c.len-rows.ensures.sound c.requires.room in
    on_ok c.append_values.result c.append_values.ensures.ok (λ put. put ∙ ap (with_values c.args.column.now) read)
