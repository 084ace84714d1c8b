-- How a list holds its elements, so that a tree may hold lists of trees. The names are those that the check asks for.
use mathlib.Core.Path.{◌≡◌, refl, sym}
use mathlib.Core.List.{List, []}
use mathlib.Core.Former.{Former, this, list, via, children}
use base.Stored.{code_map}
use denote.RattleType.{RattleType}
use denote.HoleLaws.{Alike}
use denote.HolePlaces.{Recodes, struct_places, laid}
use denote.Hole.Carrier.{listed, list-listed}
use denote.Hole.Fix.{over}
use denote.Param.Weighed.{Weighed, w_list}
use denote.Model.Placed.{view_places}
use Rattle.std.specs.formers.vec.Vec as vec
use Rattle.std.specs.declared.alloc.Global.{Global}
use Rattle.std.specs.contracts.alloc.Global as global
use Rattle.std.specs.contracts.impls.GlobalAllocator.TheImpl.{ghosts}
use Rattle.meaning.specs.declared.sequence.Sequence.TheInside.{Inside}
use Rattle.meaning.specs.declared.sequence.Sequence.TheView.{view, invariant}
use Rattle.meaning.specs.contracts.sequence.Sequence as contract
use Rattle.meaning.specs.contracts.sequence.Sequence.TheInside as inside

-- a list of what g holds
abbrev pub the_former : Former {0} → Former {0}
the_former g = list g

abbrev pub the_weighed : {g : Former {0}} → Weighed g → Weighed (the_former g)
the_weighed w = w_list w

pub the_empty : List ⊥
the_empty = []

abbrev pub the_items : (X : Type 0) → List X → List X
the_items X xs = xs

pub the_items_listed : (X : Type 0) (xs : List X) → listed _ (children (the_former this) X xs) ≡ the_items X xs
the_items_listed X xs = list-listed X xs

-- the one field is a `Vec`
abbrev field : Former {0}
field = via (vec.the_former this Global) Inside (λ X f. f.items) (λ X v. record { items = v }) (λ X f. refl)
    (λ X v. refl)

module _ (R S : RattleType) (h : R.Denot → S.Denot) where
  pub the_places : Alike R S h → Alike (contract.the_row R) (contract.the_row S)
      ((the_former this).map R.Denot S.Denot h)
  the_places same = view_places field (list this) view (λ X Y k u. refl) (λ X u. refl) R.Denot S.Denot h
      (contract.the_row R).coded (contract.the_row S).coded
      (invariant R.Denot) (invariant S.Denot) (λ u p q. refl) (λ u p q. refl) (λ u e. tt) (λ u e. tt)
      (over (inside.the_row R)) (over (inside.the_row S))
      (struct_places (inside.the_type R) (inside.the_type S) (vec.mapped h, tt) _ (λ d. refl) refl
      (laid _ _ _ (vec.the_places global.the_row ghosts R S h same), tt))

  pub the_codes_placed : Recodes R S h
      → Recodes (contract.the_row R) (contract.the_row S) ((the_former this).map R.Denot S.Denot h)
  the_codes_placed same xs = sym (code_map R.coded.code S.coded.code h (λ x. sym (same x)) xs)
