-- Proofs of the goals of `settle_texts` (`index`).
use Rattle.std.proofs.Common.{ℕ, ◌<◌, sym, subst}
use Rattle.group_keys.specs.Rows.{text_keys}
use Rattle.group_keys.proofs.Texts.{text_keys_long}
use Rattle.group_index.proofs.LedKeys.{one_led}
use Rattle.group_index.proofs.index.KeyIndex.settle_texts.Goals as goal

pub loop-k-preserved : goal.loop-k-preserved
loop-k-preserved c =
    one_led (text_keys c.args.texts.now) c.args.self.now.keys c.loop-k.k c.loop-k.group_indexes.items c.loop-k.self.keys c.settle_text.new.self.keys c.in_ok-group_indexes.field-0
    (subst (λ (n : ℕ). c.loop-k.k < n) (sym (text_keys_long c.args.texts.now)) c.loop-k-test.true) c.in_ok-group_indexes.ensures c.loop-k.invariant
