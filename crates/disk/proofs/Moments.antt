-- How crashes leave what has P, from call to call.
use Rattle.std.specs.Prelude.{ℕ, List, [], ◌∷◌, ◌++◌}
use Rattle.std.specs.List.{AllByRecursion}
use Rattle.std.proofs.Common.{inl, inr, sym, ap, ◌∙◌, subst, append_assoc}
use Rattle.std.proofs.lemmas.List.{append-nil}
use Rattle.disk.specs.Disk.{State, IsImage, DiskSpec, GoesOn, LeavesOnly}

module _ (Q : State → Type 0) where
  pub all_both : (xs ys : List State) → AllByRecursion Q xs → AllByRecursion Q ys → AllByRecursion Q (xs ++ ys)
  all_both [] ys first second = second
  all_both (x ∷ xs) ys first second = (first.0, all_both xs ys first.1 second)

  pub all_front : (xs ys : List State) → AllByRecursion Q (xs ++ ys) → AllByRecursion Q xs
  all_front [] ys all = tt
  all_front (x ∷ xs) ys all = (all.0, all_front xs ys all.1)

pub all_weaker : (Q R : State → Type 0) → ((s : State) → Q s → R s) → (xs : List State) → AllByRecursion Q xs → AllByRecursion R xs
all_weaker Q R weaker [] all = tt
all_weaker Q R weaker (x ∷ xs) all = (weaker x all.0, all_weaker Q R weaker xs all.1)

-- each crash in the state leaves what has P
abbrev pub Leaves : (List ℕ → Type 0) → State → Type 0
Leaves P s = (image : List ℕ) → IsImage s image → P image

-- before the first call
pub still : (d : DiskSpec) (P : List ℕ → Type 0) → Leaves P d.now → LeavesOnly d d P
still d P here = record { states = []; since = sym (append-nil d.past); each = (here, tt) }

-- one call more
pub goes_on : (old mid new : DiskSpec) (P : List ℕ → Type 0) → LeavesOnly old mid P → GoesOn mid new → Leaves P new.now → LeavesOnly old new P
goes_on old mid new P so_far (inl time) here = record {
  states = so_far.states ++ mid.now ∷ [];
  since = time ∙ ap (λ (past : List State). past ++ mid.now ∷ []) so_far.since ∙ append_assoc old.past so_far.states (mid.now ∷ []);
  each = all_both (Leaves P) (so_far.states ++ mid.now ∷ []) (new.now ∷ []) so_far.each (here, tt);
}
goes_on old mid new P so_far (inr same) here = record {
  states = so_far.states;
  since = same.0 ∙ so_far.since;
  each = subst (λ (s : State). AllByRecursion (Leaves P) (so_far.states ++ s ∷ [])) (sym same.1) so_far.each;
}

-- one run behind the other
pub runs_on : (old mid new : DiskSpec) (P : List ℕ → Type 0) → LeavesOnly old mid P → LeavesOnly mid new P → LeavesOnly old new P
runs_on old mid new P first second = record {
  states = first.states ++ second.states;
  since = second.since ∙ ap (λ (past : List State). past ++ second.states) first.since ∙ append_assoc old.past first.states second.states;
  each = subst (AllByRecursion (Leaves P)) (sym (append_assoc first.states second.states (new.now ∷ [])))
      (all_both (Leaves P) first.states (second.states ++ new.now ∷ []) (all_front (Leaves P) first.states (mid.now ∷ []) first.each) second.each);
}

-- what follows of P
pub leaves_weaker : (old new : DiskSpec) (P R : List ℕ → Type 0) → ((image : List ℕ) → P image → R image) → LeavesOnly old new P → LeavesOnly old new R
leaves_weaker old new P R weaker only = record {
  states = only.states;
  since = only.since;
  each = all_weaker (Leaves P) (Leaves R) (λ s leaves image left. weaker image (leaves image left)) (only.states ++ new.now ∷ []) only.each;
}

-- what a crash leaves of the last of the states
all_last : (Q : State → Type 0) (xs : List State) (x : State) → AllByRecursion Q (xs ++ x ∷ []) → Q x
all_last Q [] x all = all.0
all_last Q (y ∷ xs) x all = all_last Q xs x all.1

-- a crash now is one of those
pub leaves_now : (old new : DiskSpec) (P : List ℕ → Type 0) → LeavesOnly old new P → Leaves P new.now
leaves_now old new P only = all_last (Leaves P) only.states new.now only.each
