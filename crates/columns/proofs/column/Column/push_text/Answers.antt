-- Proofs of the goals of `Column::push_text` (`column`).
use Rattle.std.proofs.lemmas.Str.{is_utf8-from_IsUtf8}
use Rattle.columns.proofs.column.Column.push_text.Goals as goal

pub push_utf8-requires : goal.push_utf8-requires
push_utf8-requires c = is_utf8-from_IsUtf8 _ c.as_bytes.ensures.utf8
