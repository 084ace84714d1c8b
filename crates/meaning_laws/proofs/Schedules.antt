-- Coordinators that keep states alone, and no sets, hold after any events the states of what they have heard.
use Rattle.std.specs.Prelude.{◌≡◌, ℕ, zero, suc, ◌+◌, List, [], ◌∷◌, ◌++◌, map, length, replicate, Option, Some, None, option_to_list, option_map, slice_get, slice_set, slice_index_or}
use Rattle.std.specs.List.{range_with_len}
use Rattle.std.proofs.Common.{refl, sym, ap, ◌∙◌}
use Rattle.std.proofs.Math.ListN.{get_or-map}
use Rattle.std.proofs.lemmas.List.{map-append, map-set}
use Rattle.std.proofs.lemmas.Option.{slice_get-map}
use Rattle.meaning.specs.declared.answer.Cell.TheVariants.{Nothing}
use Rattle.meaning.specs.Cut.{Cut}
use Rattle.meaning.specs.Gather.{cell_of, said_of, joined}
use Rattle.meaning_laws.specs.Heard.{Event, post, share, take, save, restart, Answers, World, start, sent, contents, happens, after, heard}
use Rattle.meaning_laws.specs.Running.{State, Coordinators, join_states, empty_state, started, sends, moves, moves_all, state_after}
use Rattle.meaning_laws.proofs.Cells.{joined-append}

module _ (cut : Cut) where
  nothing_heard : (a m : ℕ) → replicate m Nothing ≡ map (λ k. cell_of (said_of k [])) (range_with_len a m)
  nothing_heard a zero = refl
  nothing_heard a (suc m) = ap (λ cs. Nothing ∷ cs) (nothing_heard (a + 1) m)

  -- the state of no answer
  empty-joined : empty_state cut ≡ joined cut []
  empty-joined = nothing_heard 0 (length cut)

  -- the states of what was heard
  abbrev states : World → Coordinators
  states w = record {
    packets = map (joined cut) w.packets;
    held = map (joined cut) w.heard;
    saved =
        map (joined cut) w.saved;
  }

  at-map : (sets : List Answers) (i : ℕ) → slice_index_or (map (joined cut) sets) i (empty_state cut)
      ≡ joined cut (slice_index_or sets i [])
  at-map sets i = ap (slice_index_or (map (joined cut) sets) i) empty-joined ∙ get_or-map (joined cut) sets i []

  sends-states : (w : World) (answers : Option Answers) → sends cut (states w) (option_map (joined cut) answers)
      ≡ states (sent w answers)
  sends-states w None = refl
  sends-states w (Some answers) =
      λ i. record {
        packets = sym (map-append (joined cut) w.packets (answers ∷ [])) i;
        held =
            map (joined cut) w.heard;
        saved = map (joined cut) w.saved;
      }

  -- a list with the state of a set at one index
  put : (sets : List Answers) (i : ℕ) (answers : Answers) (c : State) → c
      ≡ joined cut answers → slice_set (map (joined cut) sets) i c ≡ map (joined cut) (slice_set sets i answers)
  put sets i answers c e = ap (slice_set (map (joined cut) sets) i) e ∙ sym (map-set (joined cut) sets i answers)

  moves-states : (w : World) (e : Event) → moves cut (states w) e ≡ states (happens w e)
  moves-states w (post answer) = sends-states w (Some (option_to_list answer))
  moves-states w (share i) = ap (sends cut (states w)) (slice_get-map (joined cut) w.heard i)
      ∙ sends-states w (slice_get w.heard i)
  moves-states w (take to packet) = λ i. record {
    packets = map (joined cut) w.packets;
    held = put w.heard to (slice_index_or w.heard to [] ++ contents w packet) _
        ((λ j. join_states (at-map w.heard to j) (at-map w.packets packet j))
        ∙ sym (joined-append cut (slice_index_or w.heard to []) (contents w packet))) i;
    saved = map (joined cut) w.saved;
  }
  moves-states w (save i) = λ j. record {
    packets = map (joined cut) w.packets;
    held =
        map (joined cut) w.heard;
    saved = put w.saved i (slice_index_or w.heard i []) _ (at-map w.heard i) j;
  }
  moves-states w (restart i) = λ j. record {
    packets = map (joined cut) w.packets;
    held =
        put w.heard i (slice_index_or w.saved i []) _ (at-map w.saved i) j;
    saved = map (joined cut) w.saved;
  }

  -- after any events, the states are those of what was heard
  pub moves_all-states : (w : World) (es : List Event) → moves_all cut (states w) es ≡ states (after w es)
  moves_all-states w [] = refl
  moves_all-states w (e ∷ es) = ap (λ v. moves_all cut v es) (moves-states w e) ∙ moves_all-states (happens w e) es

  started-states : (n : ℕ) → started cut n ≡ states (start n)
  started-states n = λ i. record { packets = []; held = all_nothing n i; saved = all_nothing n i }
    where
      all_nothing : (n : ℕ) → replicate n (empty_state cut) ≡ map (joined cut) (replicate n [])
      all_nothing zero = refl
      all_nothing (suc n) = λ i. empty-joined i ∷ all_nothing n i

  -- each coordinator holds the state of what it has heard
  pub state_after-heard : (n i : ℕ) (events : List Event) → state_after cut n i events ≡ joined cut (heard n i events)
  state_after-heard n i events =
      ap (λ w. slice_index_or w.held i (empty_state cut))
      (ap (λ w. moves_all cut w events) (started-states n) ∙ moves_all-states (start n) events)
      ∙ at-map (after (start n) events).heard i
