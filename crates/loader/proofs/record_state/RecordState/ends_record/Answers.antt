-- Proofs of the goals of `RecordState::ends_record` (`record_state`).
use Rattle.std.proofs.Common.{sym}
use Rattle.loader.proofs.EndedRecords.{ends_by_parts}
use Rattle.loader.proofs.record_state.RecordState.ends_record.Goals as goal

pub returns : goal.returns
returns c = rw (c.is_line_end.ensures, c.is_open.ensures, c.is_unquoted.ensures) (sym (ends_by_parts c.args.self c.args.byte))
