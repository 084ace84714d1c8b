-- Proofs of the goals of `save_state` (`saving`).
use Rattle.std.proofs.Common.{OnOk, List, sym, subst, refl}
use Rattle.std.specs.Prelude.{ℕ, Option}
use Rattle.partial_codec.specs.State.{state_bytes}
use Rattle.jobs.specs.Gathering.{IsSaved}
use Rattle.jobs.proofs.saving.save_state.Goals as goal

pub returns-in-Some-clause-saved : goal.returns-in-Some-clause-saved
returns-in-Some-clause-saved g c =
    subst (λ (save : Option (List ℕ)). OnOk c.write_state.result (IsSaved save (state_bytes c.args.gather.now.job c.args.gather.now.cells) (g.F.Folder.wrote c.args.folder.now) (g.F.Folder.wrote c.write_state.new.folder)))
    (sym c.in-Some.is) c.write_state.ensures.written

pub returns-in-None-clause-saved : goal.returns-in-None-clause-saved
returns-in-None-clause-saved g c =
    subst (λ (save : Option (List ℕ)). IsSaved save (state_bytes c.args.gather.now.job c.args.gather.now.cells) (g.F.Folder.wrote c.args.folder.now) (g.F.Folder.wrote c.args.folder.now)) (sym c.in-None.is) refl
