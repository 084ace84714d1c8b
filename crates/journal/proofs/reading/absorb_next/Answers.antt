-- Proofs of the goals of `absorb_next` (`reading`).
use Rattle.std.proofs.Common.{◌≡◌, ◌+◌, [], ℕ, length, sym, subst, arith}
use Rattle.std.specs.Prelude.{Some}
use Rattle.std.proofs.lemmas.Result.{err_from_is_err_and}
use Rattle.partial_codec.specs.Job.{IsJob}
use Rattle.journal.specs.Reading.{HasNoSpelling, HasTaken, HasSpelling, IsNoJournal, from_offset}
use Rattle.journal.proofs.OnlyReading.{only_then, refuses_weaker, refuses_later}
use Rattle.journal.proofs.NextRecord.{none_behind_gate, record_taken, record_refused}
use Rattle.journal.proofs.NoRecords.{no_gate}
use Rattle.journal.proofs.reading.absorb_next.Goals as goal

pub returns-in_err-gate-clause-refused : goal.returns-in_err-gate-clause-refused
returns-in_err-gate-clause-refused g c =
    let a = g.D.Disk.shown c.args.disk.now in
    let job = c.args.cells.now.job in
    let p = err_from_is_err_and c.from_residual.result c.from_residual.ensures.1 in
    rw (p.1, p.2) (refuses_weaker a (g.D.Disk.shown c.read_byte.new.disk) (from_offset c.args.at a ≡ []) (IsNoJournal job (from_offset c.args.at a)) _
    (λ honest none. no_gate job (from_offset c.args.at a) none) c.in_err-gate.ensures.refused)

pub returns-in_err-spelling-clause-only : goal.returns-in_err-spelling-clause-only
returns-in_err-spelling-clause-only g c = only_then (g.D.Disk.shown c.args.disk.now) (g.D.Disk.shown c.read_byte.new.disk) (g.D.Disk.shown c.read_spelling.new.disk) c.read_byte.ensures.only c.read_spelling.ensures.only

pub returns-in_err-spelling-clause-refused : goal.returns-in_err-spelling-clause-refused
returns-in_err-spelling-clause-refused g c =
    let a = g.D.Disk.shown c.args.disk.now in
    let b = g.D.Disk.shown c.read_byte.new.disk in
    let job = c.args.cells.now.job in
    let p = err_from_is_err_and c.from_residual-in_err-spelling.result c.from_residual-in_err-spelling.ensures.1 in
    rw (p.1, p.2) (refuses_later a b (g.D.Disk.shown c.read_spelling.new.disk) (HasNoSpelling (from_offset (c.args.at + 1) b)) (IsNoJournal job (from_offset c.args.at a)) _ c.read_byte.ensures.only.honest c.in_ok-gate.ensures.counts
    (none_behind_gate a b c.args.at c.in_ok-gate.gate c.read_byte.ensures.only c.if-gate-eq0.false c.in_ok-gate.ensures.read job) c.in_err-spelling.ensures.refused)

pub returns-in_err-absorb_spelling-clause-only : goal.returns-in_err-absorb_spelling-clause-only
returns-in_err-absorb_spelling-clause-only g c = only_then (g.D.Disk.shown c.args.disk.now) (g.D.Disk.shown c.read_byte.new.disk) (g.D.Disk.shown c.read_spelling.new.disk) c.read_byte.ensures.only c.read_spelling.ensures.only

pub returns-in_err-absorb_spelling-clause-refused : goal.returns-in_err-absorb_spelling-clause-refused
returns-in_err-absorb_spelling-clause-refused g c =
    let a = g.D.Disk.shown c.args.disk.now in
    let b = g.D.Disk.shown c.read_byte.new.disk in
    let job = c.args.cells.now.job in
    let is_job : IsJob job = subst IsJob c.job.ensures.value c.plan-plan.ensures.within_limits in
    let p = err_from_is_err_and c.from_residual-in_err-absorb_spelling.result c.from_residual-in_err-absorb_spelling.ensures.1 in
    let has : HasSpelling (c.args.at + 1) c.args.end b c.as_slice.result.now = subst (HasSpelling (c.args.at + 1) c.args.end b) (sym c.as_slice.ensures.value) c.in_ok-spelling.ensures.read in
    rw (p.1, p.2) (record_refused a b c.args.at c.in_ok-gate.gate c.read_byte.ensures.only c.if-gate-eq0.false c.in_ok-gate.ensures.read c.args.end c.as_slice.result.now has job (g.D.Disk.shown c.read_spelling.new.disk) _ is_job c.in_err-absorb_spelling.ensures.refused)

pub returns-clause-only : goal.returns-clause-only
returns-clause-only g c = only_then (g.D.Disk.shown c.args.disk.now) (g.D.Disk.shown c.read_byte.new.disk) (g.D.Disk.shown c.read_spelling.new.disk) c.read_byte.ensures.only c.read_spelling.ensures.only

pub returns-clause-taken : goal.returns-clause-taken
returns-clause-taken g c honest =
    let a = g.D.Disk.shown c.args.disk.now in
    let b = g.D.Disk.shown c.read_byte.new.disk in
    let has : HasSpelling (c.args.at + 1) c.args.end b c.as_slice.result.now = subst (HasSpelling (c.args.at + 1) c.args.end b) (sym c.as_slice.ensures.value) c.in_ok-spelling.ensures.read in
    let long : length c.as_slice.result.now ≡ c.len.result = omega (arith, c.len.ensures, c.as_slice.ensures.len) in
    subst (λ (n : ℕ). HasTaken c.args.cells.now c.absorb_spelling.new.cells (from_offset c.args.at a) (Some (from_offset (c.args.at + 5 + n) a))) long
    (record_taken a b c.args.at c.in_ok-gate.gate c.read_byte.ensures.only c.if-gate-eq0.false c.in_ok-gate.ensures.read c.args.end c.as_slice.result.now has c.args.cells.now c.absorb_spelling.new.cells c.in_ok-absorb_spelling.ensures.taken honest)
