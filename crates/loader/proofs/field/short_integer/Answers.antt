-- Proofs of the goals of `short_integer` (`field`).
use Rattle.std.proofs.Common.{◌∙◌, ap, sym, arith, Some}
use Rattle.loader.proofs.Integers.{negated, short_minus, short_plain, word_is}
use Rattle.loader.proofs.field.short_integer.Goals as goal

pub returns-in_ok-short_number-in-Some-eq45 : goal.returns-in_ok-short_number-in-Some-eq45
returns-in_ok-short_number-in-Some-eq45 c =
    let n = c.in_ok-short_number-in-Some-eq45.field-0 in
    let short = c.in_ok-short_number-in-Some-eq45.ensures in
    short_minus c.args.text.now n c.in-Some-eq45.field-0.now c.in-Some-eq45.ensures.value (omega (arith, c.in-Some-eq45.field-0-test)) short ∙ ap Some (sym (negated n short.2))

pub returns-in_ok-short_number-in_default : goal.returns-in_ok-short_number-in_default
returns-in_ok-short_number-in_default c =
    let n = c.in_ok-short_number-in_default.field-0 in
    let short = c.in_ok-short_number-in_default.ensures in
    short_plain c.args.text.now n short ∙ ap Some (sym (word_is n short.2))
