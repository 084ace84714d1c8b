-- Proofs of the goals of `guessed` (`making`).
use Rattle.std.proofs.Common.{◌+◌, ◌≤◌, arith, inr, length, subst}
use Rattle.std.specs.Prelude.{option_map}
use Rattle.std.proofs.lemmas.Result.{IfErr-weaker, IfOk-weaker}
use Rattle.meaning.specs.Limits.{max_dimensions}
use Rattle.init.specs.Guessed.{IsGuess}
use Rattle.init.specs.Guessing.{IsFactOf, IsTextRefused}
use Rattle.init.proofs.Guessing.{as_asked}
use Rattle.init.proofs.Saying.{choices_said, said_of}
use Rattle.init.proofs.making.guessed.Goals as goal

pub returns-clause-named : goal.returns-clause-named
returns-clause-named g c =
    let files = c.in_ok-files.files.items in
    let fact = c.in_ok-fact.fact.now in
    let asked = option_map (λ asked. asked.now) c.args.fact in
    let is_fact = subst (λ items. IsFactOf asked items fact) c.as_slice.ensures.value c.in_ok-fact.ensures.found in
    IfOk-weaker c.checked_text.result _ _ (λ text guess.
    as_asked (g.F.Folder.holds c.args.folder.now) c.args.directory.now files asked fact text is_fact (subst (λ items. IsGuess (g.F.Folder.holds c.args.folder.now) c.args.directory.now items fact text) c.as_slice-2.ensures.value guess)) c.checked_text.ensures.guess

pub returns-clause-guessable : goal.returns-clause-guessable
returns-clause-guessable g c =
    let files = c.in_ok-files.files.items in
    let fact = c.in_ok-fact.fact.now in
    let asked = option_map (λ asked. asked.now) c.args.fact in
    let few : length files ≤ max_dimensions + 1 = let counted = c.len.ensures in let below = c.if-len.false in omega (arith, counted, below) in
    IfOk-weaker c.checked_text.result _ _ (λ text guess. record {
      files = files;
      listed = c.in_ok-files.ensures.listed;
      few = few;
      fact = fact;
      is_fact = subst (λ items. IsFactOf asked items fact) c.as_slice.ensures.value c.in_ok-fact.ensures.found;
      guess = subst (λ items. IsGuess (g.F.Folder.holds c.args.folder.now) c.args.directory.now items fact text) c.as_slice-2.ensures.value guess;
    }) c.checked_text.ensures.guess

pub returns-clause-refused : goal.returns-clause-refused
returns-clause-refused g c =
    let files = c.in_ok-files.files.items in
    let fact = c.in_ok-fact.fact.now in
    let is_fact = subst (λ items. IsFactOf (option_map (λ asked. asked.now) c.args.fact) items fact) c.as_slice.ensures.value c.in_ok-fact.ensures.found in
    let few : length files ≤ max_dimensions + 1 = let counted = c.len.ensures in let below = c.if-len.false in omega (arith, counted, below) in
    IfErr-weaker c.checked_text.result _ _ (λ e refused. inr (
      files,
      c.in_ok-files.ensures.listed,
      inr (
        fact,
        is_fact,
        inr (few, subst (λ items. IsTextRefused (g.F.Folder.holds c.args.folder.now) c.args.directory.now items fact e) c.as_slice-2.ensures.value refused),
      ),
    )) c.checked_text.ensures.refused

pub returns-clause-said : goal.returns-clause-said
returns-clause-said g c =
    let holds = g.F.Folder.holds c.args.folder.now in
    let files = c.in_ok-files.files.items in
    let fact = c.in_ok-fact.fact.now in
    let asked = option_map (λ asked. asked.now) c.args.fact in
    said_of c.checked_text.result (λ text guess said. choices_said holds c.args.directory.now files asked fact text _ _ _ (subst (λ items. IsGuess holds c.args.directory.now items fact text) c.as_slice-2.ensures.value guess) c.in_ok-fact.ensures.said said)
    c.checked_text.ensures.guess c.checked_text.ensures.said
