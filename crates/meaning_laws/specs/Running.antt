-- Coordinators that hold cells alone, and no answers one by one, through any list of events.
use Rattle.std.specs.Prelude.{ℕ, List, [], ◌∷◌, ◌++◌, map, zip, length, replicate, Option, Some, None, option_to_list, slice_get, slice_set, slice_index_or}
use Rattle.meaning.specs.Said.{Cell}
use Rattle.meaning.specs.declared.answer.Cell.TheVariants.{Nothing}
use Rattle.meaning.specs.Cut.{Cut}
use Rattle.meaning.specs.Gather.{join_cells, joined}
use Rattle.meaning_laws.specs.Heard.{Event, post, share, take, save, restart}

-- a cell for each fragment
abbrev pub State : Type 0
State = List Cell

-- the packets as states, and what each coordinator holds and saved
pub record Coordinators : Type 0 where
  pub packets : List State
  pub held : List State
  pub saved : List State

-- two states as one, fragment by fragment
abbrev pub join_states : State → State → State
join_states c d = map (λ p. join_cells p.0 p.1) (zip c d)

module _ (cut : Cut) where
  -- nothing for any fragment
  abbrev pub empty_state : State
  empty_state = replicate (length cut) Nothing

  -- n coordinators that hold nothing
  abbrev pub started : ℕ → Coordinators
  started n = record { packets = []; held = replicate n empty_state; saved = replicate n empty_state }

  abbrev pub sends : Coordinators → Option State → Coordinators
  sends w None = w
  sends w (Some c) = record w { packets = w.packets ++ c ∷ [] }

  -- a packet with an answer is the state of that answer alone
  abbrev pub moves : Coordinators → Event → Coordinators
  moves w (post answer) = sends w (Some (joined cut (option_to_list answer)))
  moves w (share i) = sends w (slice_get w.held i)
  moves w (take to packet) = record w {
    held = slice_set w.held to
        (join_states (slice_index_or w.held to empty_state) (slice_index_or w.packets packet empty_state));
  }
  moves w (save i) = record w { saved = slice_set w.saved i (slice_index_or w.held i empty_state) }
  moves w (restart i) = record w { held = slice_set w.held i (slice_index_or w.saved i empty_state) }

  abbrev pub moves_all : Coordinators → List Event → Coordinators
  moves_all w [] = w
  moves_all w (e ∷ es) = moves_all (moves w e) es

  -- what coordinator i of n holds
  abbrev pub state_after : ℕ → ℕ → List Event → State
  state_after n i events = slice_index_or (moves_all (started n) events).held i empty_state
