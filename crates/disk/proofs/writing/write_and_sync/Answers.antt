-- Proofs of the goals of `write_and_sync` (`writing`).
use Rattle.std.specs.Prelude.{length}
use Rattle.std.proofs.Common.{ap, sym, ◌∙◌, subst}
use Rattle.std.proofs.lemmas.Result.{on_ok_weaker, on_err_weaker}
use Rattle.disk.specs.declared.disk.Range.{Range}
use Rattle.disk.specs.Disk.{AgreesOutside, State, Synced, IsHonest}
use Rattle.disk.proofs.Offsets.{overwritten_outside}
use Rattle.disk.proofs.Moments.{goes_on, still}
use Rattle.disk.proofs.Writes.{before_leaves, torn_leaves, written_leaves, after_sync}
use Rattle.disk.proofs.Counting.{room_kept, counts_then}
use Rattle.disk.proofs.writing.write_and_sync.Goals as goal

pub sync-requires : goal.sync-requires
sync-requires g c = room_kept (g.D.Disk.shown c.args.disk.now) (g.D.Disk.shown c.write_at.new.self) c.in_ok-write_at.ensures.call.counts c.requires.room

pub returns-in_err-write_at-clause-any_moment : goal.returns-in_err-write_at-clause-any_moment
returns-in_err-write_at-clause-any_moment g c honest =
    let old = g.D.Disk.shown c.args.disk.now in
    let mid = g.D.Disk.shown c.write_at.new.self in
    let r : Range = record { from = c.args.from; count = length c.args.bytes.now } in
    let synced = (c.requires.synced honest).synced in
    goes_on old old mid (AgreesOutside r old.now.reads) (still old _ (before_leaves r old.now synced)) (c.write_at.ensures.call.time honest)
    (torn_leaves r old.now synced mid.now (c.in_err-write_at.ensures.torn honest))

pub returns-clause-counts : goal.returns-clause-counts
returns-clause-counts g c = counts_then c.sync.result (g.D.Disk.shown c.args.disk.now) (g.D.Disk.shown c.write_at.new.self) (g.D.Disk.shown c.sync.new.self) c.in_ok-write_at.ensures.call.counts c.sync.ensures.call.counts

pub returns-clause-honest : goal.returns-clause-honest
returns-clause-honest g c = c.sync.ensures.call.honest ∙ c.write_at.ensures.call.honest

pub returns-clause-written : goal.returns-clause-written
returns-clause-written g c =
    on_ok_weaker c.sync.result (λ synced honest. synced (c.write_at.ensures.call.honest ∙ honest)
    ∙ ap (λ (s : State). record { reads = s.reads; unsynced = Synced }) (c.in_ok-write_at.ensures.done honest)) c.sync.ensures.synced

pub returns-clause-any_moment : goal.returns-clause-any_moment
returns-clause-any_moment g c honest =
    let old = g.D.Disk.shown c.args.disk.now in
    let mid = g.D.Disk.shown c.write_at.new.self in
    let new = g.D.Disk.shown c.sync.new.self in
    let from = c.args.from in
    let bytes = c.args.bytes.now in
    let r : Range = record { from = from; count = length bytes } in
    let P = AgreesOutside r old.now.reads in
    let s = c.requires.synced honest in
    let is = c.in_ok-write_at.ensures.done honest in
    let honest_then : IsHonest mid = c.write_at.ensures.call.honest ∙ honest in
    let mid_leaves = written_leaves from bytes old.now mid.now s.synced s.within is in
    let stands : P mid.now.reads = subst (λ (t : State). P t.reads) (sym is) (overwritten_outside from bytes old.now.reads s.within) in
    goes_on old mid new P (goes_on old old mid P (still old P (before_leaves r old.now s.synced)) (c.write_at.ensures.call.time honest) mid_leaves)
    (c.sync.ensures.call.time honest_then)
    (after_sync c.sync.result mid.now new.now P (on_ok_weaker c.sync.result (λ synced. synced honest_then) c.sync.ensures.synced) (on_err_weaker c.sync.result (λ unsynced. unsynced honest_then) c.sync.ensures.unsynced) stands mid_leaves)
