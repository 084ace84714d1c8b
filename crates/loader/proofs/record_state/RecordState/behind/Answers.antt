-- Proofs of the goals of `RecordState::behind` (`record_state`).
use Rattle.std.proofs.Common.{◌∙◌, ap, sym}
use Rattle.loader.specs.Counting.{next_state, state_at}
use Rattle.loader.proofs.EndedRecords.{goes_plain, stays_quoted}
use Rattle.loader.proofs.record_state.RecordState.behind.Goals as goal

pub returns-then-byte-eq34 : goal.returns-then-byte-eq34
returns-then-byte-eq34 c = c.behind_quote.ensures ∙ ap (next_state (state_at c.args.self)) (sym c.if-byte-eq34.true)

pub returns-then-not-is_unquoted : goal.returns-then-not-is_unquoted
returns-then-not-is_unquoted c = stays_quoted c.args.self c.args.byte (sym c.is_unquoted.ensures ∙ c.if-not-is_unquoted.true) c.if-byte-eq34.false

pub returns : goal.returns
returns c = c.behind_plain.ensures ∙ goes_plain (state_at c.args.self) c.args.byte (sym c.is_unquoted.ensures ∙ c.if-not-is_unquoted.false) c.if-byte-eq34.false
