-- Proofs of the goals of `DurableGather::append` (`durable`).
use Rattle.std.specs.Prelude.{◌≡◌, ◌+◌, true, [], ◌∷◌, ◌++◌, length}
use Rattle.std.proofs.Common.{ap, sym, ◌∙◌, subst, arith}
use Rattle.partial_codec.specs.Answer.{Spells}
use Rattle.partial_codec.specs.Job.{IsJob}
use Rattle.gathering.specs.Gathering.{Takes}
use Rattle.journal.specs.Journal.{record_bytes}
use Rattle.journal.specs.Durable.{DurableSpec}
use Rattle.journal.proofs.Kept.{Changes, Joins, joins_spelled, unchanged, stays_lean, unchanged_leaves, unchanged_lean, from_inside, lean_from_inside, kept_durable, record_fits, append_leaves, append_lean, append_keeps, append_breaks}
use Rattle.journal.proofs.Needed.{last_near}
use Rattle.journal.proofs.Records.{is_closed_at}
use Rattle.journal.proofs.durable.DurableGather.append.Goals as goal

pub returns-in_err-entry-clause-any_moment : goal.returns-in_err-entry-clause-any_moment
returns-in_err-entry-clause-any_moment g c = unchanged c.self.inside.gate _ _ c.args.bytes.now c.self.view_is c.self.invariant c.requires.is_open

pub returns-in_err-entry-clause-lean : goal.returns-in_err-entry-clause-lean
returns-in_err-entry-clause-lean g c = stays_lean c.self.inside.gate _ _ c.self.view_is c.self.invariant c.requires.is_open

pub returns-in_err-returned-clause-any_moment : goal.returns-in_err-returned-clause-any_moment
returns-in_err-returned-clause-any_moment g c =
    let inside : DurableSpec = record { disk = g.D.Disk.shown c.self.inside.disk; gather = c.self.inside.gather; is_open = c.self.inside.is_open } in
    let is_open : inside.is_open ≡ true = ap (λ (d : DurableSpec). d.is_open) c.self.view_is ∙ c.requires.is_open in
    from_inside _ _ c.args.bytes.now (g.D.Disk.shown c.self.inside.disk) c.self.view_is (unchanged_leaves c.self.inside.gate inside c.args.bytes.now c.self.invariant is_open)

pub returns-in_err-returned-clause-lean : goal.returns-in_err-returned-clause-lean
returns-in_err-returned-clause-lean g c =
    let inside : DurableSpec = record { disk = g.D.Disk.shown c.self.inside.disk; gather = c.self.inside.gather; is_open = c.self.inside.is_open } in
    let is_open : inside.is_open ≡ true = ap (λ (d : DurableSpec). d.is_open) c.self.view_is ∙ c.requires.is_open in
    lean_from_inside _ _ (g.D.Disk.shown c.self.inside.disk) c.self.view_is (unchanged_lean c.self.inside.gate inside c.self.invariant is_open)

pub append_record-requires-clause-fits : goal.append_record-requires-clause-fits
append_record-requires-clause-fits g c =
    let inside : DurableSpec = record { disk = g.D.Disk.shown c.self.inside.disk; gather = c.self.inside.gather; is_open = c.self.inside.is_open } in
    let is_open : inside.is_open ≡ true = ap (λ (d : DurableSpec). d.is_open) c.self.view_is ∙ c.requires.is_open in
    let is_job : IsJob inside.gather.job = subst IsJob c.job.ensures.value c.plan-plan.ensures.within_limits in
    let spelled : Spells inside.gather.job c.args.bytes.now c.args.answer = subst (λ (d : DurableSpec). Spells d.gather.job c.args.bytes.now c.args.answer) (sym c.self.view_is) c.requires.spelled in
    let takes : Takes inside.gather c.take_answer.new.self c.args.bytes.now c.in_ok-returned.returned = c.in_ok-returned.ensures.takes c.args.bytes.now spelled in
    let entry_is : c.as_slice.result.now ≡ record_bytes c.args.bytes.now ++ 0 ∷ [] = c.as_slice.ensures.value ∙ c.in_ok-entry.ensures in
    let changes : Changes inside.gather c.args.bytes.now = subst (λ (d : DurableSpec). Changes d.gather c.args.bytes.now) (sym c.self.view_is) c.requires.changes in
    record_fits c.self.inside.gate inside (g.D.Disk.shown c.self.inside.disk) c.take_answer.new.self c.in_ok-returned.returned c.args.bytes.now c.as_slice.result.now entry_is c.self.invariant is_open takes c.requires.short (last_near inside.gather c.job.ensures.sound is_job.cut)

pub append_record-requires-clause-closed : goal.append_record-requires-clause-closed
append_record-requires-clause-closed g c =
    let inside : DurableSpec = record { disk = g.D.Disk.shown c.self.inside.disk; gather = c.self.inside.gather; is_open = c.self.inside.is_open } in
    let is_open : inside.is_open ≡ true = ap (λ (d : DurableSpec). d.is_open) c.self.view_is ∙ c.requires.is_open in
    λ honest. is_closed_at c.self.inside.gate inside.gather inside.disk.now (c.self.invariant.journal is_open honest)

pub overflow_add-self : goal.overflow_add-self
overflow_add-self g c =
    let inside : DurableSpec = record { disk = g.D.Disk.shown c.self.inside.disk; gather = c.self.inside.gather; is_open = c.self.inside.is_open } in
    let is_open : inside.is_open ≡ true = ap (λ (d : DurableSpec). d.is_open) c.self.view_is ∙ c.requires.is_open in
    let is_job : IsJob inside.gather.job = subst IsJob c.job.ensures.value c.plan-plan.ensures.within_limits in
    let spelled : Spells inside.gather.job c.args.bytes.now c.args.answer = subst (λ (d : DurableSpec). Spells d.gather.job c.args.bytes.now c.args.answer) (sym c.self.view_is) c.requires.spelled in
    let takes : Takes inside.gather c.take_answer.new.self c.args.bytes.now c.in_ok-returned.returned = c.in_ok-returned.ensures.takes c.args.bytes.now spelled in
    let entry_is : c.as_slice.result.now ≡ record_bytes c.args.bytes.now ++ 0 ∷ [] = c.as_slice.ensures.value ∙ c.in_ok-entry.ensures in
    let changes : Changes inside.gather c.args.bytes.now = subst (λ (d : DurableSpec). Changes d.gather c.args.bytes.now) (sym c.self.view_is) c.requires.changes in
    let long : c.len.result ≡ length c.as_slice.result.now = omega (arith, c.len.ensures, c.as_slice.ensures.len) in
    let below = record_fits c.self.inside.gate inside (g.D.Disk.shown c.append_record.new.disk) c.take_answer.new.self c.in_ok-returned.returned c.args.bytes.now c.as_slice.result.now entry_is c.self.invariant is_open takes c.requires.short (last_near inside.gather c.job.ensures.sound is_job.cut) in
    omega (arith, below, long)

pub invariant_of-self-in-Ok : goal.invariant_of-self-in-Ok
invariant_of-self-in-Ok g c =
    let inside : DurableSpec = record { disk = g.D.Disk.shown c.self.inside.disk; gather = c.self.inside.gather; is_open = c.self.inside.is_open } in
    let is_open : inside.is_open ≡ true = ap (λ (d : DurableSpec). d.is_open) c.self.view_is ∙ c.requires.is_open in
    let is_job : IsJob inside.gather.job = subst IsJob c.job.ensures.value c.plan-plan.ensures.within_limits in
    let spelled : Spells inside.gather.job c.args.bytes.now c.args.answer = subst (λ (d : DurableSpec). Spells d.gather.job c.args.bytes.now c.args.answer) (sym c.self.view_is) c.requires.spelled in
    let takes : Takes inside.gather c.take_answer.new.self c.args.bytes.now c.in_ok-returned.returned = c.in_ok-returned.ensures.takes c.args.bytes.now spelled in
    let joins : Joins inside.gather c.take_answer.new.self c.args.bytes.now = joins_spelled inside.gather c.take_answer.new.self c.args.bytes.now c.args.answer is_job spelled c.in_ok-returned.ensures.joins in
    let entry_is : c.as_slice.result.now ≡ record_bytes c.args.bytes.now ++ 0 ∷ [] = c.as_slice.ensures.value ∙ c.in_ok-entry.ensures in
    let changes : Changes inside.gather c.args.bytes.now = subst (λ (d : DurableSpec). Changes d.gather c.args.bytes.now) (sym c.self.view_is) c.requires.changes in
    let long : c.len.result ≡ length c.as_slice.result.now = omega (arith, c.len.ensures, c.as_slice.ensures.len) in
    append_keeps c.self.inside.gate inside (g.D.Disk.shown c.append_record.new.disk) c.take_answer.new.self c.in_ok-returned.returned c.args.bytes.now c.as_slice.result.now entry_is c.self.invariant is_open takes c.requires.short c.job.ensures.sound changes
    c.len.result long joins c.in-Ok.ensures.counts c.append_record.ensures.honest c.in-Ok.ensures.appended

pub invariant_of-self-in-Err : goal.invariant_of-self-in-Err
invariant_of-self-in-Err g c =
    let inside : DurableSpec = record { disk = g.D.Disk.shown c.self.inside.disk; gather = c.self.inside.gather; is_open = c.self.inside.is_open } in
    let is_open : inside.is_open ≡ true = ap (λ (d : DurableSpec). d.is_open) c.self.view_is ∙ c.requires.is_open in
    let spelled : Spells inside.gather.job c.args.bytes.now c.args.answer = subst (λ (d : DurableSpec). Spells d.gather.job c.args.bytes.now c.args.answer) (sym c.self.view_is) c.requires.spelled in
    let takes : Takes inside.gather c.take_answer.new.self c.args.bytes.now c.in_ok-returned.returned = c.in_ok-returned.ensures.takes c.args.bytes.now spelled in
    let entry_is : c.as_slice.result.now ≡ record_bytes c.args.bytes.now ++ 0 ∷ [] = c.as_slice.ensures.value ∙ c.in_ok-entry.ensures in
    let changes : Changes inside.gather c.args.bytes.now = subst (λ (d : DurableSpec). Changes d.gather c.args.bytes.now) (sym c.self.view_is) c.requires.changes in
    append_breaks c.self.inside.gate inside (g.D.Disk.shown c.append_record.new.disk) c.take_answer.new.self c.in_ok-returned.returned c.args.bytes.now c.as_slice.result.now entry_is c.self.invariant is_open takes c.requires.short c.job.ensures.sound changes

pub returns-in-Ok-clause-acknowledged : goal.returns-in-Ok-clause-acknowledged
returns-in-Ok-clause-acknowledged g c =
    let inside : DurableSpec = record { disk = g.D.Disk.shown c.self.inside.disk; gather = c.self.inside.gather; is_open = c.self.inside.is_open } in
    let is_open : inside.is_open ≡ true = ap (λ (d : DurableSpec). d.is_open) c.self.view_is ∙ c.requires.is_open in
    kept_durable (c.self.inside.gate + c.len.result) (record { disk = g.D.Disk.shown c.append_record.new.disk; gather = c.take_answer.new.self; is_open = c.self.inside.is_open }) (invariant_of-self-in-Ok g c) is_open

pub returns-in-Ok-clause-any_moment : goal.returns-in-Ok-clause-any_moment
returns-in-Ok-clause-any_moment g c =
    let inside : DurableSpec = record { disk = g.D.Disk.shown c.self.inside.disk; gather = c.self.inside.gather; is_open = c.self.inside.is_open } in
    let is_open : inside.is_open ≡ true = ap (λ (d : DurableSpec). d.is_open) c.self.view_is ∙ c.requires.is_open in
    let is_job : IsJob inside.gather.job = subst IsJob c.job.ensures.value c.plan-plan.ensures.within_limits in
    let spelled : Spells inside.gather.job c.args.bytes.now c.args.answer = subst (λ (d : DurableSpec). Spells d.gather.job c.args.bytes.now c.args.answer) (sym c.self.view_is) c.requires.spelled in
    let takes : Takes inside.gather c.take_answer.new.self c.args.bytes.now c.in_ok-returned.returned = c.in_ok-returned.ensures.takes c.args.bytes.now spelled in
    let joins : Joins inside.gather c.take_answer.new.self c.args.bytes.now = joins_spelled inside.gather c.take_answer.new.self c.args.bytes.now c.args.answer is_job spelled c.in_ok-returned.ensures.joins in
    let entry_is : c.as_slice.result.now ≡ record_bytes c.args.bytes.now ++ 0 ∷ [] = c.as_slice.ensures.value ∙ c.in_ok-entry.ensures in
    from_inside _ _ c.args.bytes.now (g.D.Disk.shown c.append_record.new.disk) c.self.view_is
    (append_leaves c.self.inside.gate inside (g.D.Disk.shown c.append_record.new.disk) c.take_answer.new.self c.in_ok-returned.returned c.args.bytes.now c.as_slice.result.now entry_is c.self.invariant is_open takes c.requires.short joins c.append_record.ensures.any_moment)

pub returns-in-Ok-clause-lean : goal.returns-in-Ok-clause-lean
returns-in-Ok-clause-lean g c =
    let inside : DurableSpec = record { disk = g.D.Disk.shown c.self.inside.disk; gather = c.self.inside.gather; is_open = c.self.inside.is_open } in
    let is_open : inside.is_open ≡ true = ap (λ (d : DurableSpec). d.is_open) c.self.view_is ∙ c.requires.is_open in
    let is_job : IsJob inside.gather.job = subst IsJob c.job.ensures.value c.plan-plan.ensures.within_limits in
    let spelled : Spells inside.gather.job c.args.bytes.now c.args.answer = subst (λ (d : DurableSpec). Spells d.gather.job c.args.bytes.now c.args.answer) (sym c.self.view_is) c.requires.spelled in
    let takes : Takes inside.gather c.take_answer.new.self c.args.bytes.now c.in_ok-returned.returned = c.in_ok-returned.ensures.takes c.args.bytes.now spelled in
    let joins : Joins inside.gather c.take_answer.new.self c.args.bytes.now = joins_spelled inside.gather c.take_answer.new.self c.args.bytes.now c.args.answer is_job spelled c.in_ok-returned.ensures.joins in
    let entry_is : c.as_slice.result.now ≡ record_bytes c.args.bytes.now ++ 0 ∷ [] = c.as_slice.ensures.value ∙ c.in_ok-entry.ensures in
    let changes : Changes inside.gather c.args.bytes.now = subst (λ (d : DurableSpec). Changes d.gather c.args.bytes.now) (sym c.self.view_is) c.requires.changes in
    lean_from_inside _ _ (g.D.Disk.shown c.append_record.new.disk) c.self.view_is
    (append_lean c.self.inside.gate inside (g.D.Disk.shown c.append_record.new.disk) c.take_answer.new.self c.in_ok-returned.returned c.args.bytes.now c.as_slice.result.now entry_is c.self.invariant is_open takes c.requires.short c.job.ensures.sound changes is_job joins c.append_record.ensures.any_moment)

pub returns-clause-any_moment : goal.returns-clause-any_moment
returns-clause-any_moment g c =
    let inside : DurableSpec = record { disk = g.D.Disk.shown c.self.inside.disk; gather = c.self.inside.gather; is_open = c.self.inside.is_open } in
    let is_open : inside.is_open ≡ true = ap (λ (d : DurableSpec). d.is_open) c.self.view_is ∙ c.requires.is_open in
    let is_job : IsJob inside.gather.job = subst IsJob c.job.ensures.value c.plan-plan.ensures.within_limits in
    let spelled : Spells inside.gather.job c.args.bytes.now c.args.answer = subst (λ (d : DurableSpec). Spells d.gather.job c.args.bytes.now c.args.answer) (sym c.self.view_is) c.requires.spelled in
    let takes : Takes inside.gather c.take_answer.new.self c.args.bytes.now c.in_ok-returned.returned = c.in_ok-returned.ensures.takes c.args.bytes.now spelled in
    let joins : Joins inside.gather c.take_answer.new.self c.args.bytes.now = joins_spelled inside.gather c.take_answer.new.self c.args.bytes.now c.args.answer is_job spelled c.in_ok-returned.ensures.joins in
    let entry_is : c.as_slice.result.now ≡ record_bytes c.args.bytes.now ++ 0 ∷ [] = c.as_slice.ensures.value ∙ c.in_ok-entry.ensures in
    from_inside _ _ c.args.bytes.now (g.D.Disk.shown c.append_record.new.disk) c.self.view_is
    (append_leaves c.self.inside.gate inside (g.D.Disk.shown c.append_record.new.disk) c.take_answer.new.self c.in_ok-returned.returned c.args.bytes.now c.as_slice.result.now entry_is c.self.invariant is_open takes c.requires.short joins c.append_record.ensures.any_moment)

pub returns-clause-lean : goal.returns-clause-lean
returns-clause-lean g c =
    let inside : DurableSpec = record { disk = g.D.Disk.shown c.self.inside.disk; gather = c.self.inside.gather; is_open = c.self.inside.is_open } in
    let is_open : inside.is_open ≡ true = ap (λ (d : DurableSpec). d.is_open) c.self.view_is ∙ c.requires.is_open in
    let is_job : IsJob inside.gather.job = subst IsJob c.job.ensures.value c.plan-plan.ensures.within_limits in
    let spelled : Spells inside.gather.job c.args.bytes.now c.args.answer = subst (λ (d : DurableSpec). Spells d.gather.job c.args.bytes.now c.args.answer) (sym c.self.view_is) c.requires.spelled in
    let takes : Takes inside.gather c.take_answer.new.self c.args.bytes.now c.in_ok-returned.returned = c.in_ok-returned.ensures.takes c.args.bytes.now spelled in
    let joins : Joins inside.gather c.take_answer.new.self c.args.bytes.now = joins_spelled inside.gather c.take_answer.new.self c.args.bytes.now c.args.answer is_job spelled c.in_ok-returned.ensures.joins in
    let entry_is : c.as_slice.result.now ≡ record_bytes c.args.bytes.now ++ 0 ∷ [] = c.as_slice.ensures.value ∙ c.in_ok-entry.ensures in
    let changes : Changes inside.gather c.args.bytes.now = subst (λ (d : DurableSpec). Changes d.gather c.args.bytes.now) (sym c.self.view_is) c.requires.changes in
    lean_from_inside _ _ (g.D.Disk.shown c.append_record.new.disk) c.self.view_is
    (append_lean c.self.inside.gate inside (g.D.Disk.shown c.append_record.new.disk) c.take_answer.new.self c.in_ok-returned.returned c.args.bytes.now c.as_slice.result.now entry_is c.self.invariant is_open takes c.requires.short c.job.ensures.sound changes is_job joins c.append_record.ensures.any_moment)
