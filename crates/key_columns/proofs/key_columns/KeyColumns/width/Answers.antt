-- Proofs of the goals of `width` (`key_columns`).
use Rattle.std.proofs.Common.{rules, ◌≡◌, ◌∙◌, length}
use Rattle.key_columns.proofs.KeyRows.{wide}
use Rattle.key_columns.proofs.key_columns.KeyColumns.width.Goals as goal

pub returns : goal.returns
returns c =
    let is : length c.self.inside.columns.items ≡ c.len.result = search rules in
    λ g here. wide c.self.inside.many c.self.inside.columns.items c.args.self.now c.self.view_is g 0 here ∙ is
