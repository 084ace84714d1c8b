-- Proofs of the goals of `Keys::insert` (`keys`).
use Rattle.std.proofs.Common.{◌∙◌, sym}
use Rattle.loader.proofs.KeySets.{is_new, holds_more}
use Rattle.loader.proofs.keys.Keys.insert.Goals as goal

pub returns : goal.returns
returns c seen holds =
    let present = sym c.is_null.ensures ∙ c.if-is_null.false in (
      is_new c.args.self.now.present c.insert.new.self seen c.args.key present holds c.in_ok-insert.field-0 c.in_ok-insert.ensures.added,
      holds_more c.args.self.now.present c.insert.new.self seen c.args.key present holds c.in_ok-insert.ensures.updates.0,
    )
