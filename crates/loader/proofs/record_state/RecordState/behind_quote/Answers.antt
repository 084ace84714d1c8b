-- Proofs of the goals of `RecordState::behind_quote` (`record_state`).
use Rattle.std.proofs.Common.{sym}
use Rattle.loader.proofs.EndedRecords.{quote_begins, quote_begins_field, quote_closes, quote_doubled, quote_stands}
use Rattle.loader.proofs.record_state.RecordState.behind_quote.Goals as goal

pub returns-in-Between : goal.returns-in-Between
returns-in-Between c = rw c.in-Between.is (sym quote_begins)

pub returns-in-FieldStart : goal.returns-in-FieldStart
returns-in-FieldStart c = rw c.in-FieldStart.is (sym quote_begins_field)

pub returns-in-Field : goal.returns-in-Field
returns-in-Field c = rw c.in-Field.is (sym quote_stands)

pub returns-in-Quoted : goal.returns-in-Quoted
returns-in-Quoted c = rw c.in-Quoted.is (sym quote_closes)

pub returns-in-QuoteEnd : goal.returns-in-QuoteEnd
returns-in-QuoteEnd c = rw c.in-QuoteEnd.is (sym quote_doubled)
