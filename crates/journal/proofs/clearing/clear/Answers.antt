-- Proofs of the goals of `clear` (`clearing`).
use Rattle.std.specs.Prelude.{[], ◌∷◌}
use Rattle.std.proofs.Common.{ap, ◌∙◌}
use Rattle.std.proofs.lemmas.Result.{on_ok_weaker}
use Rattle.disk.specs.Disk.{State, Synced, overwritten}
use Rattle.journal.specs.Journal.{journal_magic}
use Rattle.journal.proofs.clearing.clear.Goals as goal

pub returns-clause-cleared : goal.returns-clause-cleared
unfolding journal_magic
returns-clause-cleared g c =
    on_ok_weaker c.sync.result (λ synced honest.
    let behind_cut = c.cut.ensures.call.honest ∙ honest in
    let cut = c.in_ok-cut.ensures.done honest in
    let written = c.in_ok-write_at.ensures.done behind_cut in
    synced (c.write_at.ensures.call.honest ∙ behind_cut)
    ∙ ap (λ (s : State). record { reads = s.reads; unsynced = Synced }) written
    ∙ ap (λ (s : State). record { reads = overwritten 0 (88 ∷ 71 ∷ 74 ∷ 49 ∷ 0 ∷ []) s.reads; unsynced = Synced }) cut)
    c.sync.ensures.synced
