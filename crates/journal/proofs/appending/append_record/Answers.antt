-- Proofs of the goals of `append_record` (`appending`).
use Rattle.std.specs.Prelude.{ℕ, ◌+◌, List, length, take, drop}
use Rattle.std.proofs.Common.{inl, ap, sym, ◌∙◌}
use Rattle.std.proofs.lemmas.Result.{on_ok_weaker}
use Rattle.disk.specs.Disk.{State, Synced, IsHonest}
use Rattle.disk.proofs.Moments.{leaves_weaker, runs_on}
use Rattle.disk.proofs.Counting.{room_kept}
use Rattle.journal.specs.Journal.{IsClosedBehind, IsButGate, IsWithOrWithout}
use Rattle.journal.proofs.Gates.{gate_within, staged_long, with_or_without, opened_is}
use Rattle.journal.proofs.appending.append_record.Goals as goal

pub open_gate-requires-clause-room : goal.open_gate-requires-clause-room
open_gate-requires-clause-room g c = room_kept (g.D.Disk.shown c.args.disk.now) (g.D.Disk.shown c.write_record.new.disk) c.in_ok-write_record.ensures.counts c.requires.room

pub open_gate-requires-clause-synced : goal.open_gate-requires-clause-synced
open_gate-requires-clause-synced g c honest =
    let file = (g.D.Disk.shown c.args.disk.now).now.reads in
    let entry = c.args.entry.now in
    let was : IsHonest (g.D.Disk.shown c.args.disk.now) = sym c.write_record.ensures.honest ∙ honest in
    let is = c.in_ok-write_record.ensures.written was in
    record {
      synced = ap (λ (s : State). s.unsynced) is;
      within = staged_long c.args.gate file entry (drop (c.args.gate + 1 + length entry) file) (g.D.Disk.shown c.write_record.new.disk).now.reads (ap (λ (s : State). s.reads) is) (gate_within c.args.gate file (c.requires.closed was).closed);
    }

pub returns-clause-appended : goal.returns-clause-appended
returns-clause-appended g c =
    let file = (g.D.Disk.shown c.args.disk.now).now.reads in
    let entry = c.args.entry.now in
    on_ok_weaker c.open_gate.result (λ opened honest.
    opened (c.write_record.ensures.honest ∙ honest)
    ∙ ap (λ (reads : List ℕ). record { reads = reads; unsynced = Synced })
    (opened_is c.args.gate file entry (drop (c.args.gate + 1 + length entry) file) (g.D.Disk.shown c.write_record.new.disk).now.reads (ap (λ (s : State). s.reads) (c.in_ok-write_record.ensures.written honest)) (gate_within c.args.gate file (c.requires.closed honest).closed)))
    c.open_gate.ensures.opened

pub returns-in_err-write_record-clause-any_moment : goal.returns-in_err-write_record-clause-any_moment
returns-in_err-write_record-clause-any_moment g c honest =
    let old = g.D.Disk.shown c.args.disk.now in
    leaves_weaker old (g.D.Disk.shown c.write_record.new.disk) (IsClosedBehind (take c.args.gate old.now.reads)) (IsWithOrWithout (take c.args.gate old.now.reads) c.args.entry.now)
    (λ image closed. inl closed) (c.write_record.ensures.any_moment honest)

pub returns-clause-any_moment : goal.returns-clause-any_moment
returns-clause-any_moment g c honest =
    let old = g.D.Disk.shown c.args.disk.now in
    let mid = g.D.Disk.shown c.write_record.new.disk in
    let new = g.D.Disk.shown c.open_gate.new.disk in
    let file = old.now.reads in
    let entry = c.args.entry.now in
    let P = IsWithOrWithout (take c.args.gate file) entry in
    let is = ap (λ (s : State). s.reads) (c.in_ok-write_record.ensures.written honest) in
    let within = gate_within c.args.gate file (c.requires.closed honest).closed in
    runs_on old mid new P
    (leaves_weaker old mid (IsClosedBehind (take c.args.gate file)) P (λ image closed. inl closed) (c.write_record.ensures.any_moment honest))
    (leaves_weaker mid new (IsButGate c.args.gate mid.now.reads) P
    (λ image but. with_or_without c.args.gate file entry (drop (c.args.gate + 1 + length entry) file) mid.now.reads is within image but)
    (c.open_gate.ensures.any_moment (c.write_record.ensures.honest ∙ honest)))
