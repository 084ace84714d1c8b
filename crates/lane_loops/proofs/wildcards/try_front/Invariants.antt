-- Loop invariants of `try_front` (`wildcards`).
use Rattle.std.proofs.Common.{◌≡◌, ◌≤◌, true, length}
use denote.Text.{Utf8}
use denote.Shadow.{shadow}
use Rattle.std.specs.Str.{chars}
use Rattle.meaning.specs.Like.{after_any_run, characters_fit}
use Rattle.lane_loops.proofs.wildcards.try_front.Given as goal

abbrev pub invariant-loop-sign : goal.invariant-loop-sign
invariant-loop-sign l = record {
  pattern : shadow (Utf8 l.pattern_left);
  text : shadow (Utf8 l.text_left);
  here : characters_fit (chars l.pattern) (chars l.text) ≡ characters_fit (chars l.pattern_left) (chars l.text_left);
  later : after_any_run (characters_fit (chars l.pattern)) (chars l.text) ≡ true → after_any_run (characters_fit (chars l.pattern_left)) (chars l.text_left) ≡ true;
  shorter : length l.pattern_left ≤ length l.pattern;
}

abbrev pub decreases-loop-sign : goal.decreases-loop-sign
decreases-loop-sign l = length l.pattern_left
