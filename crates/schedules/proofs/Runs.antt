-- What was heard, event by event.
use Rattle.std.proofs.Common.{◌≡◌, ℕ, ◌+◌, ◌<◌, ◌≤◌, List, [], ◌∷◌, ◌++◌, length, take, map, get_or, refl, sym, subst, ap, ◌∙◌, Option, Some, None}
use Rattle.std.specs.Prelude.{slice_get}
use Rattle.std.proofs.lemmas.List.{length-replicate, length-set, map-append, take_all, take_more}
use Rattle.meaning_laws.specs.Heard as heard
use Rattle.meaning_laws.specs.Heard.{Answers, post, share, save, restart}
use Rattle.partial_codec.specs.Job.{JobSpec}
use Rattle.schedules.specs.declared.event.Event.{Event}
use Rattle.schedules.specs.declared.world.World.{World}
use Rattle.schedules.specs.World.{AreCoordinators, Stands, event_of}
use Rattle.schedules.proofs.Worlds.{all_heard}

after_more : (w : heard.World) (es : List heard.Event) (e : heard.Event) → heard.after w (es ++ e ∷ []) ≡ heard.happens (heard.after w es) e
after_more w [] e = refl
after_more w (x ∷ es) e = after_more (heard.happens w x) es e

-- there are as many coordinators as before
sent_many : (w : heard.World) (o : Option Answers) → length (heard.sent w o).heard ≡ length w.heard
sent_many w None = refl
sent_many w (Some answers) = refl

happens_many : (w : heard.World) (e : heard.Event) → length (heard.happens w e).heard ≡ length w.heard
happens_many w (post answer) = refl
happens_many w (share i) = sent_many w (slice_get w.heard i)
happens_many w (heard.take to packet) = length-set w.heard to _
happens_many w (save i) = refl
happens_many w (restart i) = length-set w.heard i _

after_many : (w : heard.World) (es : List heard.Event) → length (heard.after w es).heard ≡ length w.heard
after_many w [] = refl
after_many w (e ∷ es) = after_many (heard.happens w e) es ∙ happens_many w e

module _ (job : JobSpec) (n : ℕ) (events : List Event) where
  -- behind the first events
  abbrev pub heard_by : ℕ → heard.World
  heard_by i = heard.after (heard.start n) (map (event_of job) (take i events))

  pub next : (i : ℕ) (event : Event) (old new : World) → i < length events → event ≡ get_or events i event → Stands job old (heard_by i)
      → ((w : heard.World) → Stands job old w → Stands job new (heard.happens w (event_of job event))) → Stands job new (heard_by (i + 1))
  next i event old new below is so step =
      let more = ap (map (event_of job)) (take_more events i event below ∙ ap (λ e. take i events ++ e ∷ []) (sym is)) ∙ map-append (event_of job) (take i events) (event ∷ []) in
      let all = ap (heard.after (heard.start n)) more ∙ after_more (heard.start n) (map (event_of job) (take i events)) (event_of job event) in
      subst (Stands job new) (sym all) (step (heard_by i) so)

  pub ended : (i : ℕ) (world : World) → length events ≤ i → Stands job world (heard_by i) → AreCoordinators job n (map (event_of job) events) world.gathers.items
  ended i world over so =
      let all = ap (λ (es : List Event). heard.after (heard.start n) (map (event_of job) es)) (take_all i events over) in
      all_heard job world n (map (event_of job) events) (subst (Stands job world) all so) (after_many (heard.start n) (map (event_of job) events) ∙ length-replicate n [])
