-- Loop invariants of `fits_some_rest` (`wildcards`).
use Rattle.std.proofs.Common.{◌≡◌, length}
use denote.Text.{Utf8}
use denote.Shadow.{shadow}
use Rattle.std.specs.Str.{chars}
use Rattle.meaning.specs.Like.{after_any_run, characters_fit}
use Rattle.lane_loops.proofs.wildcards.fits_some_rest.Given as goal

-- what is left decides
abbrev pub invariant-loop-behind : goal.invariant-loop-behind
invariant-loop-behind l =
    shadow (Utf8 l.pattern_left) × shadow (Utf8 l.text_left)
    × (after_any_run (characters_fit (chars l.pattern_left)) (chars l.text_left) ≡ after_any_run (characters_fit (chars l.pattern)) (chars l.text))

abbrev pub decreases-loop-behind : goal.decreases-loop-behind
decreases-loop-behind l = length l.pattern_left
