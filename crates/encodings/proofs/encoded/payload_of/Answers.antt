-- Proofs of the goals of `payload_of` (`encoded`).
use Rattle.encodings.proofs.EncodedBlocks.{encoded_rows}
use Rattle.encodings.proofs.encoded.payload_of.Goals as goal

pub returns-clause-block : goal.returns-clause-block
returns-clause-block c = (encoded_rows c.args.choice.now.kind c.args.column.now c.args.from c.args.to _ _ _ c.new-out.ensures.items c.len-rows.ensures.column c.requires.some c.requires.within c.requires.few c.in_ok-put_nulls.ensures c.in_ok-put_cells.ensures.ok).block

pub returns-clause-values : goal.returns-clause-values
returns-clause-values c = (encoded_rows c.args.choice.now.kind c.args.column.now c.args.from c.args.to _ _ _ c.new-out.ensures.items c.len-rows.ensures.column c.requires.some c.requires.within c.requires.few c.in_ok-put_nulls.ensures c.in_ok-put_cells.ensures.ok).values_are

pub returns-clause-tight : goal.returns-clause-tight
returns-clause-tight c = (encoded_rows c.args.choice.now.kind c.args.column.now c.args.from c.args.to _ _ _ c.new-out.ensures.items c.len-rows.ensures.column c.requires.some c.requires.within c.requires.few c.in_ok-put_nulls.ensures c.in_ok-put_cells.ensures.ok).tight

pub returns-clause-size : goal.returns-clause-size
returns-clause-size c = (encoded_rows c.args.choice.now.kind c.args.column.now c.args.from c.args.to _ _ _ c.new-out.ensures.items c.len-rows.ensures.column c.requires.some c.requires.within c.requires.few c.in_ok-put_nulls.ensures c.in_ok-put_cells.ensures.ok).size
