-- Proofs of the goals of `put_cells` (`encoded`).
use Rattle.std.proofs.lemmas.Result.{on_ok_weaker}
use Rattle.encodings.proofs.ChosenRows.{made_turned}
use Rattle.encodings.proofs.EncodedBlocks.{ints_fit, texts_fit, body_turned}
use Rattle.encodings.proofs.encoded.put_cells.Goals as goal

pub put_ints-requires-clause-fit : goal.put_ints-requires-clause-fit
put_ints-requires-clause-fit c =
    let lent = c.in-Ints.ensures.cells in
    (ints_fit c.args.column.now c.args.from c.args.to c.in-Ints.ints.now c.cells.ensures.column lent.0 lent.1).1

pub put_ints-requires-clause-made : goal.put_ints-requires-clause-made
put_ints-requires-clause-made c =
    let lent = c.in-Ints.ensures.cells in
    made_turned c.args.choice.now _ _ (ints_fit c.args.column.now c.args.from c.args.to c.in-Ints.ints.now c.cells.ensures.column lent.0 lent.1).0 c.requires.made

pub returns-in-Ints-clause-ok : goal.returns-in-Ints-clause-ok
returns-in-Ints-clause-ok c =
    let lent = c.in-Ints.ensures.cells in
    on_ok_weaker c.put_ints.result (body_turned _ _ c.args.choice.now.kind _ _ _ _ lent.0 (ints_fit c.args.column.now c.args.from c.args.to c.in-Ints.ints.now c.cells.ensures.column lent.0 lent.1).0) c.put_ints.ensures.ok

pub put_texts-requires-clause-fit : goal.put_texts-requires-clause-fit
put_texts-requires-clause-fit c =
    let lent = c.in-Texts.ensures.cells in
    (texts_fit c.args.column.now c.args.from c.args.to c.in-Texts.texts.now c.cells.ensures.column lent.0 lent.1).1

pub put_texts-requires-clause-made : goal.put_texts-requires-clause-made
put_texts-requires-clause-made c =
    let lent = c.in-Texts.ensures.cells in
    made_turned c.args.choice.now _ _ (texts_fit c.args.column.now c.args.from c.args.to c.in-Texts.texts.now c.cells.ensures.column lent.0 lent.1).0 c.requires.made

pub returns-in-Texts-clause-ok : goal.returns-in-Texts-clause-ok
returns-in-Texts-clause-ok c =
    let lent = c.in-Texts.ensures.cells in
    on_ok_weaker c.put_texts.result (body_turned _ _ c.args.choice.now.kind _ _ _ _ lent.0 (texts_fit c.args.column.now c.args.from c.args.to c.in-Texts.texts.now c.cells.ensures.column lent.0 lent.1).0) c.put_texts.ensures.ok
