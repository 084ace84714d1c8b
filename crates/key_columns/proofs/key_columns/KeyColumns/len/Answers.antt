-- Proofs of the goals of `len` (`key_columns`).
use Rattle.std.proofs.Common.{sym, ap, ◌∙◌, length, List}
use Rattle.meaning.specs.Order.{Row}
use Rattle.key_columns.proofs.KeyRows.{keys_long}
use Rattle.key_columns.proofs.key_columns.KeyColumns.len.Goals as goal

pub returns : goal.returns
returns c = sym (keys_long c.self.inside.many c.self.inside.columns.items) ∙ ap (λ (keys : List Row). length keys) c.self.view_is
