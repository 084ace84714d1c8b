-- Proofs of the goals of `dictionary_cell` (`dictionary::view`).
use Rattle.std.proofs.Common.{arith}
use Rattle.blocks.proofs.RowCells.{code_is, code_within, dictionary_cell_is}
use Rattle.blocks.proofs.dictionary.view.dictionary_cell.Goals as goal

pub value_at-requires-clause-within : goal.value_at-requires-clause-within
value_at-requires-clause-within c =
    let code = code_is c.args.rows c.args.row c.short_at-code.result c.args.body.now c.code_bytes.result.now c.requires.within c.code_bytes.ensures c.short_at-code.ensures in
    let h = code_within c.args.col_type c.args.rows c.args.row c.short_at-code.result c.args.body.now c.requires.form c.requires.within code in
    let e = c.leading_count.ensures in
    omega arith

pub returns : goal.returns
returns c =
    let code = code_is c.args.rows c.args.row c.short_at-code.result c.args.body.now c.code_bytes.result.now c.requires.within c.code_bytes.ensures c.short_at-code.ensures in
    dictionary_cell_is c.args.col_type c.args.rows c.args.row c.short_at-code.result c.leading_count.result c.args.body.now c.entry_bytes.result.now _ c.requires.within c.leading_count.ensures c.entry_bytes.ensures code c.value_at.ensures
