-- Proofs of the goals of `count_front` (`counting`).
use Rattle.std.proofs.Common.{◌∙◌, ◌∷◌, [], ap}
use Rattle.csv.specs.Reading.{strip_bom}
use Rattle.loader.proofs.Marks.{front_counted, goes_through, none_read, none_short, one_read, other_first}
use Rattle.loader.proofs.counting.count_front.Goals as goal

pub returns-in_default-clause-counted : goal.returns-in_default-clause-counted
returns-in_default-clause-counted g c bytes known =
    let known_of = g.R.Read.remaining in
    let reader = c.next_byte.new.reader in
    let (left, none) = none_read (known_of reader) bytes c.in_ok-first.field-0 c.in_default.is (c.in_ok-first.ensures.read bytes known) in
    front_counted known_of reader c.of_front.result [] c.of_front.ensures (strip_bom bytes) [] left
    (ap strip_bom none ∙ none_short)

pub returns-then-first-clause-counted : goal.returns-then-first-clause-counted
returns-then-first-clause-counted g c bytes known =
    let known_of = g.R.Read.remaining in
    let reader = c.next_byte.new.reader in
    let (rest, left, whole) = one_read (known_of reader) bytes c.in_ok-first.field-0 c.in-Some.first c.in-Some.is (c.in_ok-first.ensures.read bytes known) in
    front_counted known_of reader c.of_front-then-first.result (c.in-Some.first ∷ []) c.of_front-then-first.ensures (strip_bom bytes) rest left
    (ap strip_bom whole ∙ other_first c.in-Some.first rest c.if-first.true)

pub returns-clause-counted : goal.returns-clause-counted
returns-clause-counted g c =
    goes_through g.R.Read.remaining c.args.reader.now c.next_byte.new.reader c.count_second.new.reader [] c.in-Some.first (0xEF) c.if-first.false
    (λ bytes known. one_read (g.R.Read.remaining c.next_byte.new.reader) bytes c.in_ok-first.field-0 c.in-Some.first c.in-Some.is (c.in_ok-first.ensures.read bytes known))
    c.count_second.result c.count_second.ensures.counted
