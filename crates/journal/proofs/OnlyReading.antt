-- Calls that only read, one behind the other.
use Rattle.std.specs.Prelude.{◌≡◌, ℕ, Result}
use Rattle.std.proofs.Common.{refl, ap, ◌∙◌, subst, arith}
use Rattle.disk.specs.Disk.{DiskSpec, State, IsHonest, IsImage, IsCall}
use Rattle.disk.specs.declared.disk.DiskFault.{DiskFault}
use Rattle.disk.proofs.Moments.{Leaves, still, goes_on, runs_on, leaves_weaker}
use Rattle.journal.specs.Reading.{OnlyReads, CountsNothing, from_offset}
use Rattle.journal.specs.Fault.{RefusesReading}
use Rattle.journal.specs.declared.fault.JournalFault.{JournalFault}
use Rattle.journal.specs.declared.fault.JournalFault.TheVariants as fault

pub only_nothing : (d : DiskSpec) → OnlyReads d d
only_nothing d = record { honest = refl; same = λ honest. refl; any_moment = λ honest. still d (IsImage d.now) (λ image left. left) }

pub only_call : {X : Type 0} (old new : DiskSpec) (result : Result X DiskFault) → IsCall old new result → (IsHonest old → new.now ≡ old.now) → OnlyReads old new
only_call old new result call same = record {
  honest = call.honest;
  same = same;
  any_moment = λ honest.
      let leaves : Leaves (IsImage old.now) new.now = λ image left. subst (λ (s : State). IsImage s image) (same honest) left in
      goes_on old old new (IsImage old.now) (still old (IsImage old.now) (λ image left. left)) (call.time honest) leaves;
}

pub only_then : (a b c : DiskSpec) → OnlyReads a b → OnlyReads b c → OnlyReads a c
only_then a b c first second = record {
  honest = second.honest ∙ first.honest;
  same = λ honest. second.same (first.honest ∙ honest) ∙ first.same honest;
  any_moment = λ honest.
      runs_on a b c (IsImage a.now) (first.any_moment honest)
      (leaves_weaker b c (IsImage b.now) (IsImage a.now) (λ image left. subst (λ (s : State). IsImage s image) (first.same honest) left) (second.any_moment (first.honest ∙ honest)));
}

pub counts_behind : (a b c : DiskSpec) → CountsNothing a b → CountsNothing b c → CountsNothing a c
counts_behind a b c first second = (second.0 ∙ first.0, second.1 ∙ first.1)

-- bytes that were read stand where they stood
pub same_from : (at : ℕ) (a b : DiskSpec) → OnlyReads a b → IsHonest a → from_offset at b ≡ from_offset at a
same_from at a b only honest = ap (λ (s : State). from_offset at (record b { now = s })) (only.same honest)

-- what a later call refuses
pub refuses_later : (a b c : DiskSpec) (P Q : Type 0) (e : JournalFault) → b.is_honest ≡ a.is_honest → CountsNothing a b → (IsHonest a → P → Q) → RefusesReading b c P e → RefusesReading a c Q e
refuses_later a b c P Q fault.Memory honest counts weaker refused = tt
refuses_later a b c P Q (fault.Decode e) honest counts weaker refused = refused
refuses_later a b c P Q fault.Device honest counts weaker refused = omega (arith, counts.0, refused)
refuses_later a b c P Q fault.Full honest counts weaker refused = omega (arith, counts.1, refused)
refuses_later a b c P Q fault.NotAJournal honest counts weaker refused = λ is_honest. weaker is_honest (refused (honest ∙ is_honest))
refuses_later a b c P Q fault.OpenAgain honest counts weaker refused = refused
refuses_later a b c P Q fault.TooLong honest counts weaker refused = refused

pub refuses_weaker : (a c : DiskSpec) (P Q : Type 0) (e : JournalFault) → (IsHonest a → P → Q) → RefusesReading a c P e → RefusesReading a c Q e
refuses_weaker a c P Q e weaker refused = refuses_later a a c P Q e refl (refl, refl) weaker refused
