-- Proofs of the goals of `DurableGather::absorb_answer` (`durable`).
use Rattle.std.specs.Prelude.{Result, Ok, Err, IfOk, OnOk}
use Rattle.std.proofs.Common.{◌≡◌, true, false, refl, sym, subst, arith}
use Rattle.std.proofs.lemmas.Result.{IfOk-weaker}
use Rattle.partial_codec.specs.Answer.{Spells}
use Rattle.gathering.specs.Gathering.{Would}
use Rattle.journal.specs.Durable.{DurableSpec}
use Rattle.journal.proofs.Kept.{Changes, is_not_known, leaves_others, stays_lean, unchanged}
use Rattle.journal.proofs.durable.DurableGather.absorb_answer.Goals as goal

ok_then : {T E : Type 0} {P : T → Type 0} {Q : Type 0} (r : Result T E) → ((x : T) → P x → Q) → IfOk r P → OnOk r Q
ok_then (Ok x) f p = f x p
ok_then (Err e) f p = tt

pub returns-then-not-changes-clause-takes : goal.returns-then-not-changes-clause-takes
returns-then-not-changes-clause-takes g c =
    let spelled = subst (λ (d : DurableSpec). Spells d.gather.job c.args.bytes.now c.args.answer) (sym c.self.view_is) c.requires.spelled in
    let would : Would c.args.self.now.gather c.args.bytes.now c.would_take-returned.result = subst (λ (d : DurableSpec). Would d.gather c.args.bytes.now c.would_take-returned.result) c.self.view_is (c.would_take-returned.ensures c.args.bytes.now spelled) in
    let same : c.would_take-returned.result.1 ≡ false = search (c.if-not-changes.true) in
    would.same same

pub returns-then-not-changes-clause-any_moment : goal.returns-then-not-changes-clause-any_moment
returns-then-not-changes-clause-any_moment g c = unchanged c.self.inside.gate _ _ c.args.bytes.now c.self.view_is c.self.invariant c.requires.is_open

pub returns-then-not-changes-clause-lean : goal.returns-then-not-changes-clause-lean
returns-then-not-changes-clause-lean g c = stays_lean c.self.inside.gate _ _ c.self.view_is c.self.invariant c.requires.is_open

pub append-requires-clause-changes : goal.append-requires-clause-changes
append-requires-clause-changes g c =
    let spelled = subst (λ (d : DurableSpec). Spells d.gather.job c.args.bytes.now c.args.answer) (sym c.self.view_is) c.requires.spelled in
    let would : Would c.args.self.now.gather c.args.bytes.now c.would_take-returned.result = subst (λ (d : DurableSpec). Would d.gather c.args.bytes.now c.would_take-returned.result) c.self.view_is (c.would_take-returned.ensures c.args.bytes.now spelled) in
    let changed : c.would_take-returned.result.1 ≡ true = search (c.if-not-changes.false) in
    would.changed changed

pub returns-then-bytes-gt-MOST_BYTES-clause-refused : goal.returns-then-bytes-gt-MOST_BYTES-clause-refused
returns-then-bytes-gt-MOST_BYTES-clause-refused g c =
    let spelled = subst (λ (d : DurableSpec). Spells d.gather.job c.args.bytes.now c.args.answer) (sym c.self.view_is) c.requires.spelled in
    let would : Would c.args.self.now.gather c.args.bytes.now c.would_take-returned.result = subst (λ (d : DurableSpec). Would d.gather c.args.bytes.now c.would_take-returned.result) c.self.view_is (c.would_take-returned.ensures c.args.bytes.now spelled) in
    let changed : c.would_take-returned.result.1 ≡ true = search (c.if-not-changes.false) in
    (refl, omega (arith, c.if-bytes-gt-MOST_BYTES.true), (c.args.answer, c.requires.spelled, would.changed changed c.args.answer c.requires.spelled))

pub returns-then-bytes-gt-MOST_BYTES-clause-any_moment : goal.returns-then-bytes-gt-MOST_BYTES-clause-any_moment
returns-then-bytes-gt-MOST_BYTES-clause-any_moment g c = unchanged c.self.inside.gate _ _ c.args.bytes.now c.self.view_is c.self.invariant c.requires.is_open

pub returns-then-bytes-gt-MOST_BYTES-clause-lean : goal.returns-then-bytes-gt-MOST_BYTES-clause-lean
returns-then-bytes-gt-MOST_BYTES-clause-lean g c = stays_lean c.self.inside.gate _ _ c.self.view_is c.self.invariant c.requires.is_open

pub returns-clause-known : goal.returns-clause-known
returns-clause-known g c =
    let spelled = subst (λ (d : DurableSpec). Spells d.gather.job c.args.bytes.now c.args.answer) (sym c.self.view_is) c.requires.spelled in
    let would : Would c.args.self.now.gather c.args.bytes.now c.would_take-returned.result = subst (λ (d : DurableSpec). Would d.gather c.args.bytes.now c.would_take-returned.result) c.self.view_is (c.would_take-returned.ensures c.args.bytes.now spelled) in
    let changed : c.would_take-returned.result.1 ≡ true = search (c.if-not-changes.false) in
    let changes : Changes c.args.self.now.gather c.args.bytes.now = would.changed changed in
    IfOk-weaker c.append.result _ _
    (λ returned takes known. absurd (is_not_known c.args.self.now.gather c.append.new.self.gather returned c.args.bytes.now takes changes known))
    c.append.ensures.takes

pub returns-clause-untouched : goal.returns-clause-untouched
returns-clause-untouched g c =
    let spelled = subst (λ (d : DurableSpec). Spells d.gather.job c.args.bytes.now c.args.answer) (sym c.self.view_is) c.requires.spelled in
    let would : Would c.args.self.now.gather c.args.bytes.now c.would_take-returned.result = subst (λ (d : DurableSpec). Would d.gather c.args.bytes.now c.would_take-returned.result) c.self.view_is (c.would_take-returned.ensures c.args.bytes.now spelled) in
    let changed : c.would_take-returned.result.1 ≡ true = search (c.if-not-changes.false) in
    let changes : Changes c.args.self.now.gather c.args.bytes.now = would.changed changed in
    ok_then c.append.result
    (λ returned takes same. absurd (leaves_others c.args.self.now.gather c.append.new.self.gather returned c.args.bytes.now takes changes same))
    c.append.ensures.takes
