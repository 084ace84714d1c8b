-- Only a file that was to be written or taken away is reported as one that can't be written.
use Rattle.std.proofs.Common.{◌≡◌, ℕ, List, inl, inr, sym, subst, ◌∙◌}
use Rattle.std.specs.Prelude.{Result, Ok, Err, IfErr}
use Rattle.meaning.specs.Cut.{Cut}
use Rattle.meaning.specs.declared.catalog.Catalog.{Catalog}
use Rattle.meaning.specs.declared.catalog.Dimension.{Dimension}
use Rattle.folders.specs.Folder.{AsksOf, Holds}
use Rattle.folders.specs.Refused.{IsTriedFor}
use Rattle.folders.specs.declared.refusal.Refusal.{Refusal}
use Rattle.folders.specs.declared.refusal.Refusal.TheVariants as refusal
use Rattle.folders.proofs.Others.{IsOther, memory_other, unread_other}
use Rattle.loads.specs.Refusing.{AreDimensionsRefused, IsDimensionRefused, IsFactRefused, IsFactUnloaded, IsTriedOr, IsUneven}

uneven_other : (counted rows : ℕ) (e : Refusal) → IsUneven counted rows e → IsOther e
uneven_other counted rows e (inl memory) = memory_other e memory
uneven_other counted rows e (inr (fault, wrong, returned)) = λ path is. let bad : refusal.Cut fault ≡ refusal.CannotWrite path = sym returned ∙ is in cc bad

unloaded_other : (holds : Holds) (folder : List ℕ) (catalog : Catalog) (cut : Cut) (e : Refusal) → IsFactUnloaded holds folder catalog cut e → IsOther e
unloaded_other holds folder catalog cut e (inl unread) = unread_other _ e unread
unloaded_other holds folder catalog cut e (inr (fault, returned, wrong)) = λ path is. let bad : refusal.Load fault ≡ refusal.CannotWrite path = sym returned ∙ is in cc bad

pub fact_other : (holds : Holds) (folder : List ℕ) (catalog : Catalog) (rows : ℕ) (e : Refusal) → IsFactRefused holds folder catalog rows e → IsOther e
fact_other holds folder catalog rows e (inl unread) = unread_other _ e unread
fact_other holds folder catalog rows e (inr (counted, is, inl uneven)) = uneven_other counted rows e uneven
fact_other holds folder catalog rows e (inr (counted, is, inr (cut, evenly, unloaded))) = unloaded_other holds folder catalog cut e unloaded

dimension_other : (holds : Holds) (folder : List ℕ) (d : Dimension) (e : Refusal) → IsDimensionRefused holds folder d e → IsOther e
dimension_other holds folder d e (inl unread) = unread_other _ e unread
dimension_other holds folder d e (inr (csv, fault, held, wrong, returned)) = λ path is. let bad : refusal.Load fault ≡ refusal.CannotWrite path = sym returned ∙ is in cc bad

pub dimensions_other : (holds : Holds) (folder : List ℕ) (dims : List Dimension) (e : Refusal) → AreDimensionsRefused holds folder dims e → IsOther e
dimensions_other holds folder dims e (inl memory) = memory_other e memory
dimensions_other holds folder dims e (inr first) = dimension_other holds folder first.dim e first.refused

-- what was tried later is tried now
pub tried_before : (before after : List ℕ → Type 0) (e : Refusal) → AsksOf before after → IsTriedFor after e → IsTriedFor before e
tried_before before after e same tried = λ path is. same path (tried path is)

-- a refusal that was there is such as it was
pub tried_either : {A B : Type 0} (before after : List ℕ → Type 0) (files : Result A Refusal) (r : Result B Refusal) → AsksOf before after → IfErr files (IsTriedFor before)
    → IfErr r (IsTriedOr after files) → IfErr r (IsTriedFor before)
tried_either before after files (Ok done) same had refused = tt
tried_either before after files (Err e) same had (inl tried) = tried_before before after e same tried
tried_either {A = A} before after files (Err e) same had (inr there) = subst (λ (x : Result A Refusal). IfErr x (IsTriedFor before)) there had
