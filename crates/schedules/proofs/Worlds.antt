-- Coordinators beside what was heard, after one step.
use Rattle.std.proofs.Common.{◌≡◌, ℕ, zero, suc, ◌≤◌, ◌<◌, List, [], ◌∷◌, ◌++◌, length, refl, sym, subst, ap, ◌∙◌, append-nil, arith, Option, Some, None, Result, Ok, Err}
use Rattle.std.specs.Prelude.{All, OnOk, Vec, slice_get, slice_set, slice_index_or, replicate}
use Rattle.std.specs.List.{AllZip}
use Rattle.std.specs.Vec.{vec_items}
use Rattle.std.specs.declared.alloc.Global.{Global}
use Rattle.std.proofs.lemmas.List.{length-set}
use Rattle.std.proofs.lemmas.List.Elements.{recursion_from_All}
use Rattle.std.proofs.lemmas.Option.{slice_get_past}
use Rattle.meaning_laws.specs.Heard.{Answers}
use Rattle.meaning_laws.specs.Heard as heard
use Rattle.partial_codec.specs.Job.{JobSpec}
use Rattle.gathering.specs.Gathering.{GatherSpec}
use Rattle.schedules.specs.declared.world.Packet.{Packet}
use Rattle.schedules.specs.declared.world.World.{World}
use Rattle.schedules.specs.World.{AreCoordinators, Holds, IsPacket, IsSaved, Stands}
use Rattle.schedules.proofs.Pairs.{as_long, none_at, none_set, one_at, one_more, one_set, one_there, same_of_all, same_set, there}

module _ (job : JobSpec) (world : World) (w : heard.World) (stands : Stands job world w) where
  held_length : length (vec_items world.gathers) ≡ length w.heard
  held_length = as_long (Holds job) (vec_items world.gathers) w.heard stands.held

  saved_length : length (vec_items world.saved) ≡ length w.saved
  saved_length = as_long (IsSaved job) (vec_items world.saved) w.saved stands.saved

  -- a packet was sent
  pub sent_more : (ps : Vec Packet Global) (p : Packet) (answers : Answers) → vec_items ps ≡ vec_items world.packets ++ p ∷ [] → IsPacket job p answers
      → Stands job (record { gathers = world.gathers; packets = ps; saved = world.saved }) (record { packets = w.packets ++ answers ∷ []; heard = w.heard; saved = w.saved })
  sent_more ps p answers is holds = record {
    held = stands.held;
    packets = subst (λ xs. AllZip (IsPacket job) xs (w.packets ++ answers ∷ [])) (sym is) (one_more (IsPacket job) (vec_items world.packets) w.packets p answers stands.packets holds);
    saved = stands.saved;
    as_many = stands.as_many;
  }

  -- what a coordinator that is there holds
  pub holds_at : (i : ℕ) (g : GatherSpec) → i < length (vec_items world.gathers) → g ≡ slice_index_or (vec_items world.gathers) i g → Holds job g (slice_index_or w.heard i [])
  holds_at i g below is = one_there (Holds job) (vec_items world.gathers) w.heard i g [] below is stands.held

  -- its share
  pub shared : (i : ℕ) → i < length (vec_items world.gathers) → slice_get w.heard i ≡ Some (slice_index_or w.heard i [])
  shared i below = there w.heard i [] (omega (arith, below, held_length))

  pub nobody_shares : (i : ℕ) → length (vec_items world.gathers) ≤ i → slice_get w.heard i ≡ None
  nobody_shares i past = slice_get_past w.heard i (omega (arith, past, held_length))

  -- what is in a packet that is there
  pub packet_at : (i : ℕ) (p : Packet) → i < length (vec_items world.packets) → p ≡ slice_index_or (vec_items world.packets) i p → IsPacket job p (slice_index_or w.packets i [])
  packet_at i p below is = one_there (IsPacket job) (vec_items world.packets) w.packets i p [] below is stands.packets

  -- what was saved
  pub saved_at : (i : ℕ) (s : Option (Vec ℕ Global)) → i < length (vec_items world.saved) → s ≡ slice_index_or (vec_items world.saved) i s → IsSaved job s (slice_index_or w.saved i [])
  saved_at i s below is = one_there (IsSaved job) (vec_items world.saved) w.saved i s [] below is stands.saved

  -- a coordinator holds other answers
  pub held_set : (gs : Vec GatherSpec Global) (i : ℕ) (g : GatherSpec) (answers : Answers) → vec_items gs ≡ slice_set (vec_items world.gathers) i g → Holds job g answers
      → Stands job (record { gathers = gs; packets = world.packets; saved = world.saved }) (record { packets = w.packets; heard = slice_set w.heard i answers; saved = w.saved })
  held_set gs i g answers is holds = record {
    held = subst (λ xs. AllZip (Holds job) xs (slice_set w.heard i answers)) (sym is) (one_set (Holds job) (vec_items world.gathers) w.heard i g answers stands.held holds);
    packets = stands.packets;
    saved = stands.saved;
    as_many = length-set w.heard i answers ∙ stands.as_many;
  }

  -- another state is saved
  pub saved_set : (ss : Vec (Option (Vec ℕ Global)) Global) (i : ℕ) (s : Option (Vec ℕ Global)) (answers : Answers) → vec_items ss ≡ slice_set (vec_items world.saved) i s → IsSaved job s answers
      → Stands job (record { gathers = world.gathers; packets = world.packets; saved = ss }) (record { packets = w.packets; heard = w.heard; saved = slice_set w.saved i answers })
  saved_set ss i s answers is holds = record {
    held = stands.held;
    packets = stands.packets;
    saved = subst (λ xs. AllZip (IsSaved job) xs (slice_set w.saved i answers)) (sym is) (one_set (IsSaved job) (vec_items world.saved) w.saved i s answers stands.saved holds);
    as_many = stands.as_many ∙ sym (length-set w.saved i answers);
  }

  -- nobody is there
  same_heard : (heard_so : List Answers) → heard_so ≡ w.heard → Stands job world (record { packets = w.packets; heard = heard_so; saved = w.saved })
  same_heard heard_so is = subst (λ (hs : List Answers). Stands job world (record { packets = w.packets; heard = hs; saved = w.saved })) (sym is) stands

  pub nobody_hears : (i : ℕ) (answers : Answers) → length (vec_items world.gathers) ≤ i → Stands job world (record { packets = w.packets; heard = slice_set w.heard i answers; saved = w.saved })
  nobody_hears i answers past = same_heard (slice_set w.heard i answers) (none_set w.heard i answers (omega (arith, past, held_length)))

  pub nobody_saved : (i : ℕ) (answers : Answers) → length (vec_items world.saved) ≤ i → Stands job world (record { packets = w.packets; heard = slice_set w.heard i answers; saved = w.saved })
  nobody_saved i answers past = same_heard (slice_set w.heard i answers) (none_set w.heard i answers (omega (arith, past, saved_length, stands.as_many)))

  pub nobody_saves : (i : ℕ) (answers : Answers) → length (vec_items world.gathers) ≤ i → Stands job world (record { packets = w.packets; heard = w.heard; saved = slice_set w.saved i answers })
  nobody_saves i answers past = subst (λ (ss : List Answers). Stands job world (record { packets = w.packets; heard = w.heard; saved = ss }))
      (sym (none_set w.saved i answers (omega (arith, past, held_length, stands.as_many)))) stands

  pub nowhere_saved : (i : ℕ) (answers : Answers) → length (vec_items world.saved) ≤ i → Stands job world (record { packets = w.packets; heard = w.heard; saved = slice_set w.saved i answers })
  nowhere_saved i answers past = subst (λ (ss : List Answers). Stands job world (record { packets = w.packets; heard = w.heard; saved = ss }))
      (sym (none_set w.saved i answers (omega (arith, past, saved_length)))) stands

  -- a packet that isn't there is heard as nothing
  pub nothing_heard : (i packet : ℕ) → length (vec_items world.packets) ≤ packet
      → Stands job world (record { packets = w.packets; heard = slice_set w.heard i (slice_index_or w.heard i [] ++ slice_index_or w.packets packet []); saved = w.saved })
  nothing_heard i packet past =
      let as_many = as_long (IsPacket job) (vec_items world.packets) w.packets stands.packets in
      let none = none_at w.packets packet [] (omega (arith, past, as_many)) in
      let same = ap (λ (xs : Answers). slice_index_or w.heard i [] ++ xs) none ∙ append-nil (slice_index_or w.heard i []) in
      same_heard _ (ap (slice_set w.heard i) same ∙ same_set w.heard i [])

-- a packet is taken
pub takes_packet : {X E : Type 0} (result : Result X E) (world : World) (gs : Vec GatherSpec Global) (to packet : ℕ) (old new : GatherSpec) (p : Packet)
    → to < length (vec_items world.gathers) → old ≡ slice_index_or (vec_items world.gathers) to old → packet < length (vec_items world.packets) → p ≡ slice_index_or (vec_items world.packets) packet p
    → vec_items gs ≡ slice_set (vec_items world.gathers) to new
    → OnOk result ((job : JobSpec) (answers others : Answers) → Holds job old answers → IsPacket job p others → Holds job new (answers ++ others))
    → OnOk result ((job : JobSpec) (w : heard.World) → Stands job world w
    → Stands job (record { gathers = gs; packets = world.packets; saved = world.saved }) (heard.happens w (heard.take to packet)))
takes_packet (Ok x) world gs to packet old new p there_is old_is sent_is p_is new_is does = λ job w stands.
    held_set job world w stands gs to new (slice_index_or w.heard to [] ++ slice_index_or w.packets packet []) new_is
    (does job (slice_index_or w.heard to []) (slice_index_or w.packets packet []) (holds_at job world w stands to old there_is old_is) (packet_at job world w stands packet p sent_is p_is))
takes_packet (Err e) world gs to packet old new p there_is old_is sent_is p_is new_is does = tt

-- at the start
pub all_new : (job : JobSpec) (gathers : Vec GatherSpec Global) (packets : Vec Packet Global) (saved : Vec (Option (Vec ℕ Global)) Global) (n : ℕ)
    → All (λ g. Holds job g []) (vec_items gathers) → length (vec_items gathers) ≡ n → vec_items packets ≡ [] → vec_items saved ≡ replicate n None
    → Stands job (record { gathers = gathers; packets = packets; saved = saved }) (heard.start n)
all_new job gathers packets saved n each as_many none nothing = record {
  held = subst (λ m. AllZip (Holds job) (vec_items gathers) (replicate m [])) as_many (same_of_all (Holds job) (vec_items gathers) [] (recursion_from_All (λ g. Holds job g []) (vec_items gathers) each));
  packets = subst (λ ps. AllZip (IsPacket job) ps []) (sym none) tt;
  saved = subst (λ ss. AllZip (IsSaved job) ss (replicate n [])) (sym nothing) (none_saved n);
  as_many = refl;
} where
  none_saved : (m : ℕ) → AllZip (IsSaved job) (replicate m None) (replicate m [])
  none_saved zero = tt
  none_saved (suc m) = (refl, none_saved m)

-- at the end
pub all_heard : (job : JobSpec) (world : World) (n : ℕ) (events : List heard.Event) → Stands job world (heard.after (heard.start n) events) → length (heard.after (heard.start n) events).heard ≡ n
    → AreCoordinators job n events (vec_items world.gathers)
all_heard job world n events stands as_many = record {
  as_many = as_long (Holds job) (vec_items world.gathers) (heard.after (heard.start n) events).heard stands.held ∙ as_many;
  each = λ i g is. one_at (Holds job) (vec_items world.gathers) (heard.after (heard.start n) events).heard i g [] is stands.held;
}
