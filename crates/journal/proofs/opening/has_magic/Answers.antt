-- Proofs of the goals of `has_magic` (`opening`).
use Rattle.std.proofs.Common.{◌≡◌, ◌++◌, ℕ, List, length, ap, ◌∙◌, arith, rules}
use Rattle.journal.specs.Reading.{from_offset}
use Rattle.journal.proofs.Files.{other_front, short_file}
use Rattle.journal.proofs.opening.has_magic.Goals as goal

pub returns-then-end-lt4-clause-none : goal.returns-then-end-lt4-clause-none
returns-then-end-lt4-clause-none g c same honest rest is = short_file (g.D.Disk.shown c.args.disk.now).now.reads (omega (arith, c.requires.end honest, c.if-end-lt4.true)) rest is

pub returns-clause-read : goal.returns-clause-read
returns-clause-read g c same honest =
    c.in_ok-read_at.ensures.read honest ∙ ap (λ (l : List ℕ). l ++ from_offset 4 (g.D.Disk.shown c.args.disk.now)) (c.is_magic.ensures.yes same)

pub returns-clause-none : goal.returns-clause-none
returns-clause-none g c same honest =
    let four : length c.read_at.new.out ≡ 4 = search rules in
    other_front c.read_at.new.out (from_offset 4 (g.D.Disk.shown c.args.disk.now)) (g.D.Disk.shown c.args.disk.now).now.reads four (c.in_ok-read_at.ensures.read honest) (c.is_magic.ensures.no same)
