-- Proofs of the goals of `next_char` (`wildcards`).
use Rattle.std.proofs.Common.{rules, ◌≡◌, ◌++◌, ◌≤◌, length, ap, arith}
use Rattle.std.proofs.lemmas.List.{length-append}
use Rattle.std.proofs.lemmas.Str.{chars_past_char, length-encode, len_utf8_bounds}
use Rattle.std.specs.Char.{len_utf8}
use lib.Utf8.{encode}
use Rattle.lane_loops.proofs.wildcards.next_char.Goals as goal

pub returns : goal.returns
returns c =
    let step : c.args.text.now ≡ encode c.in_ok-c.c ++ c.as_str.result.now = search rules in
    let some : 1 ≤ len_utf8 c.in_ok-c.c = (len_utf8_bounds c.in_ok-c.c).0 in
    (chars_past_char c.args.text.now c.as_str.result.now c.in_ok-c.c c.utf8.text step, omega (arith, ap length step, length-append (encode c.in_ok-c.c) c.as_str.result.now, length-encode c.in_ok-c.c, some))
