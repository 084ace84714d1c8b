-- Proofs of the goals of `lend_dictionary` (`dictionary::view`).
use Rattle.blocks.proofs.RowCells.{is_dictionary_of}
use Rattle.blocks.proofs.dictionary.view.lend_dictionary.Goals as goal

pub invariant_of-result : goal.invariant_of-result
invariant_of-result c =
    is_dictionary_of c.args.col_type c.args.rows c.leading_count.result c.args.body.now c.entry_bytes.result.now c.code_bytes.result.now c.requires c.leading_count.ensures c.entry_bytes.ensures c.code_bytes.ensures
