-- How a part on the heap holds what it is a part of, so that a tree may hold trees. The names are those that the
-- check asks for.
use mathlib.Core.Path.{refl}
use mathlib.Core.Former.{Former, this, const, pair, via}
use base.Fml.{ftrue}
use base.Stored.{gnil}
use denote.Hole.Fix.{over}
use denote.HoleLaws.{Alike}
use denote.HolePlaces.{Recodes, laid, one_value, struct_places}
use denote.Memory.{part_of}
use denote.Model.Placed.{view_places}
use denote.Param.Weighed.{Weighed}
use denote.RattleType.{RattleType}
use denote.RawPtr.{Ptr}
use denote.Sharing.{nothing}
use Rattle.std.specs.contracts.alloc.Global as global
use Rattle.std.specs.contracts.boxed.Box as std_box
use Rattle.std.specs.contracts.impls.GlobalAllocator.TheImpl.{ghosts}
use Rattle.std.specs.declared.alloc.Global.{Global}
use Rattle.std.specs.declared.boxed.Box.{Box}
use Rattle.meaning.specs.contracts.boxed.Boxed as contract
use Rattle.meaning.specs.contracts.boxed.Boxed.TheInside as inside
use Rattle.meaning.specs.declared.boxed.Boxed.TheInside.{Inside}
use Rattle.meaning.specs.declared.boxed.Boxed.TheView.{view, invariant}

-- just what g holds
abbrev pub the_former : Former {0} → Former {0}
the_former g = g

abbrev pub the_weighed : {g : Former {0}} → Weighed g → Weighed (the_former g)
the_weighed w = w

-- the one field is a `Box`: a pointer and an allocator beside the part
abbrev field : Former {0}
field = via (pair this (const (Ptr × Global))) Inside (λ X f. (f.content.value, (f.content.ptr, f.content.alloc)))
    (λ X p. record { content = record { ptr = p.1.0; alloc = p.1.1; value = p.0 } }) (λ X f. refl) (λ X p. refl)

module _ (R S : RattleType) (h : R.Denot → S.Denot) where
  abbrev moved : Box R.Denot Global → Box S.Denot Global
  moved b = record { ptr = b.ptr; alloc = b.alloc; value = h b.value }

  abbrev boxes : RattleType → RattleType
  boxes T = std_box.the_row T global.the_row ghosts

  -- two boxes are laid out and owned alike where the parts are
  moved_alike : Alike R S h → Alike (boxes R) (boxes S) moved
  unfolding part_of
  moved_alike same = record {
    mir_same = λ i. (boxes (one_value R (same.mir_same i) (λ _. ftrue) (λ _ _. nothing) gnil)).mir;
    own_same = λ b i. (boxes (one_value R (same.mir_same i) (same.own_same b.value i)
        (same.shr_same b.value i) gnil)).own_val (record { ptr = b.ptr; alloc = b.alloc; value = tt });
    shr_same = λ b i. (boxes (one_value R (same.mir_same i) (same.own_same b.value i)
        (same.shr_same b.value i) gnil)).shr_at (record { ptr = b.ptr; alloc = b.alloc; value = tt });
  }

  pub the_places : Alike R S h → Alike (contract.the_row R) (contract.the_row S)
      ((the_former this).map R.Denot S.Denot h)
  the_places same = view_places field this view (λ X Y k u. refl) (λ X u. refl) R.Denot S.Denot h
      (contract.the_row R).coded (contract.the_row S).coded
      (invariant R.Denot) (invariant S.Denot) (λ u p q. refl) (λ u p q. refl) (λ u e. tt) (λ u e. tt)
      (over (inside.the_row R)) (over (inside.the_row S))
      (struct_places (inside.the_type R) (inside.the_type S) (moved, tt) _ (λ d. refl) refl
      (laid _ _ _ (moved_alike same), tt))

  pub the_codes_placed : Recodes R S h
      → Recodes (contract.the_row R) (contract.the_row S) ((the_former this).map R.Denot S.Denot h)
  the_codes_placed same part = same part
