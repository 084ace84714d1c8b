-- Proofs of the goals of `keep_positions` (`selection`).
use Rattle.std.proofs.Common.{◌≤◌, arith, length, subst, Bool, true, false}
use Rattle.vectors.specs.Selection.{IsHeld}
use Rattle.vectors.proofs.Positions.{kept_is_held, held_within}
use Rattle.vectors.proofs.selection.keep_positions.Goals as goal

pub returns-then-is_all-clause-held : goal.returns-then-is_all-clause-held
returns-then-is_all-clause-held g c =
    let held = subst (λ (b : Bool). IsHeld b c.args.count c.args.positions.now) c.if-is_all.true c.requires.held in
    kept_is_held _ true c.args.count c.keep_of_all.result c.args.positions.now c.keep_of_all.new.positions held c.keep_of_all.ensures.kept c.keep_of_all.ensures.within c.keep_of_all.auto.positions

pub returns-clause-held : goal.returns-clause-held
returns-clause-held g c =
    let held = subst (λ (b : Bool). IsHeld b c.args.count c.args.positions.now) c.if-is_all.false c.requires.held in
    let front : c.keep_of_front.result ≤ length c.keep_of_front.new.positions = omega (arith, c.keep_of_front.ensures.within, c.keep_of_front.auto.positions, held_within c.args.count c.args.positions.now held) in
    kept_is_held _ false c.args.count c.keep_of_front.result c.args.positions.now c.keep_of_front.new.positions held c.keep_of_front.ensures.kept front c.keep_of_front.auto.positions
