-- Proofs of the goals of `count_second` (`counting`).
use Rattle.std.proofs.Common.{◌∙◌, ◌∷◌, [], ℕ, List, ap}
use Rattle.csv.specs.Reading.{strip_bom}
use Rattle.loader.proofs.Marks.{front_counted, goes_through, none_read, one_read, one_short, other_second}
use Rattle.loader.proofs.counting.count_second.Goals as goal

pub returns-in_default-clause-counted : goal.returns-in_default-clause-counted
returns-in_default-clause-counted g c bytes known =
    let known_of = g.R.Read.remaining in
    let reader = c.next_byte.new.reader in
    let (left, none) = none_read (known_of reader) bytes c.in_ok-second.field-0 c.in_default.is (c.in_ok-second.ensures.read bytes known) in
    front_counted known_of reader c.of_front.result (0xEF ∷ []) c.of_front.ensures (strip_bom (0xEF ∷ bytes)) [] left
    (ap (λ (xs : List ℕ). strip_bom (0xEF ∷ xs)) none ∙ one_short 0xEF)

pub returns-then-second-clause-counted : goal.returns-then-second-clause-counted
returns-then-second-clause-counted g c bytes known =
    let known_of = g.R.Read.remaining in
    let reader = c.next_byte.new.reader in
    let (rest, left, whole) = one_read (known_of reader) bytes c.in_ok-second.field-0 c.in-Some.second c.in-Some.is (c.in_ok-second.ensures.read bytes known) in
    front_counted known_of reader c.of_front-then-second.result (0xEF ∷ c.in-Some.second ∷ []) c.of_front-then-second.ensures (strip_bom (0xEF ∷ bytes)) rest left
    (ap (λ (xs : List ℕ). strip_bom (0xEF ∷ xs)) whole ∙ other_second c.in-Some.second rest c.if-second.true)

pub returns-clause-counted : goal.returns-clause-counted
returns-clause-counted g c =
    goes_through g.R.Read.remaining c.args.reader.now c.next_byte.new.reader c.count_third.new.reader (0xEF ∷ []) c.in-Some.second (0xBB) c.if-second.false
    (λ bytes known. one_read (g.R.Read.remaining c.next_byte.new.reader) bytes c.in_ok-second.field-0 c.in-Some.second c.in-Some.is (c.in_ok-second.ensures.read bytes known))
    c.count_third.result c.count_third.ensures.counted
