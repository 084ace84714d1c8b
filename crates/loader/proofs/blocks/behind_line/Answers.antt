-- Proofs of the goals of `behind_line` (`blocks`).
use Rattle.std.proofs.Common.{◌+◌, List, ℕ, arith, drop, nat_lt, subst, sym, take_all}
use Rattle.std.proofs.lemmas.List.{length-drop}
use Rattle.loader.specs.Counting.{EndsLine}
use Rattle.loader.proofs.Lines.{ends_line, one_line}
use Rattle.loader.proofs.blocks.behind_line.Goals as goal

pub returns-in_err-end-clause-none : goal.returns-in_err-end-clause-none
returns-in_err-end-clause-none c = λ _. one_line c.args.block.now c.memchr2.result c.in_err-end.was c.memchr2.ensures

pub returns-clause-split : goal.returns-clause-split
returns-clause-split c =
    let block = c.args.block.now in
    let end = c.in_ok-end.end in
    let first = c.in_ok-end.ensures in
    let whole = take_all _ (drop (end + 1) block) (omega (arith, length-drop (end + 1) block)) in
    subst (λ (others : List ℕ). EndsLine block (nat_lt 0 end) others) (sym whole) (ends_line block end first.0 first.1)
