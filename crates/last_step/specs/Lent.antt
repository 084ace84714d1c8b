-- What is known of a writer that is lent.
use Rattle.std.specs.Prelude.{ℕ, List, [], ◌∷◌, Option}
use Rattle.std.specs.Io.KnownBytes.{prepend_known}
use Rattle.last_step.specs.declared.lent.Lent.{Lent}

-- the bytes that the writer holds, behind the name of the borrow
abbrev pub lent_contents : {W : Type 0} → (W → Option (List ℕ)) → Lent W → Option (List ℕ)
lent_contents contents lent = prepend_known (lent.out.ghost_name ∷ []) (contents lent.out.now)
