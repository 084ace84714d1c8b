-- Proofs of the goals of `close_group_index` (`close_ints`).
use Rattle.std.proofs.Common.{◌≡◌, ◌-◌, ◌^◌, ◌-ℤ◌, ◌≤ℤ◌, ℕ, ap, arith, get_or, ◌∙◌}
use Rattle.std.specs.Prelude.{unsigned_abs}
use Rattle.std.proofs.lemmas.Int.{ints}
use Rattle.group_keys.proofs.CloseInts.{led_to}
use Rattle.group_keys.proofs.close_ints.close_group_index.Goals as goal

pub returns : goal.returns
returns c = λ keys leads some.
    let least = c.args.least.now in
    let int = c.args.int.now in
    let entries = c.args.entries.now in
    let low : least ≤ℤ int = omega (arith, ints) in
    let far : c.abs_diff.result ≡ unsigned_abs (int -ℤ least) = omega (arith, ints) in
    led_to least entries keys leads int low c.entry_at.result (c.entry_at.ensures ∙ ap (λ (at : ℕ). get_or entries at (2 ^ 32 - 1)) far) some
