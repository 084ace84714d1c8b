-- Proofs of the goals of `put_marks` (`spreading`).
use Rattle.std.proofs.Common.{rules, ◌≡◌, ◌+◌, ◌-◌, ◌∙◌, ◌++◌, Bool, length, replicate, take, ap, sym, arith}
use Rattle.std.proofs.lemmas.Slice.{drop-put_mid}
use Rattle.block_predicates.proofs.RunMarks.{left_unmarked, more_unmarked}
use Rattle.block_predicates.proofs.spreading.put_marks.Goals as goal

pub returns-then-mark-clause-unmarked : goal.returns-then-mark-clause-unmarked
returns-then-mark-clause-unmarked c =
    let from = c.args.from in
    let count = c.args.count in
    let rows = c.args.rows.now in
    let within = c.requires.within in
    let long : length c.fill.new.self ≡ (from + count) - from = search rules in
    drop-put_mid from ((from + count) - from) rows c.fill.new.self (from + count) (omega (arith, within)) (omega (arith, within)) long ∙ left_unmarked rows from count c.requires.unmarked

pub returns-else-mark-clause-marked : goal.returns-else-mark-clause-marked
returns-else-mark-clause-marked c =
    more_unmarked c.args.rows.now c.args.from c.args.count c.requires.within c.requires.unmarked
    ∙ ap (λ (mark : Bool). take c.args.from c.args.rows.now ++ replicate c.args.count mark) (sym c.if-mark.false)

pub returns-else-mark-clause-unmarked : goal.returns-else-mark-clause-unmarked
returns-else-mark-clause-unmarked c = left_unmarked c.args.rows.now c.args.from c.args.count c.requires.unmarked
