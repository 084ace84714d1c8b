-- Proofs of the goals of `count_third` (`counting`).
use Rattle.std.proofs.Common.{◌∙◌, ◌∷◌, [], ℕ, List, ap}
use Rattle.csv.specs.Reading.{strip_bom}
use Rattle.loader.proofs.Marks.{front_counted, marked, none_read, one_read, other_third, two_short}
use Rattle.loader.proofs.counting.count_third.Goals as goal

pub returns-in_default-clause-counted : goal.returns-in_default-clause-counted
returns-in_default-clause-counted g c bytes known =
    let known_of = g.R.Read.remaining in
    let reader = c.next_byte.new.reader in
    let (left, none) = none_read (known_of reader) bytes c.in_ok-third.field-0 c.in_default.is (c.in_ok-third.ensures.read bytes known) in
    front_counted known_of reader c.of_front.result (0xEF ∷ 0xBB ∷ []) c.of_front.ensures (strip_bom (0xEF ∷ 0xBB ∷ bytes)) [] left
    (ap (λ (xs : List ℕ). strip_bom (0xEF ∷ 0xBB ∷ xs)) none ∙ two_short 0xEF 0xBB)

pub returns-then-third-clause-counted : goal.returns-then-third-clause-counted
returns-then-third-clause-counted g c bytes known =
    let known_of = g.R.Read.remaining in
    let reader = c.next_byte.new.reader in
    let (rest, left, whole) = one_read (known_of reader) bytes c.in_ok-third.field-0 c.in-Some.third c.in-Some.is (c.in_ok-third.ensures.read bytes known) in
    front_counted known_of reader c.of_front-then-third.result [] c.of_front-then-third.ensures (strip_bom (0xEF ∷ 0xBB ∷ bytes)) rest left
    (ap (λ (xs : List ℕ). strip_bom (0xEF ∷ 0xBB ∷ xs)) (whole ∙ ap (λ (x : ℕ). x ∷ rest) c.if-third.true) ∙ marked rest)

pub returns-clause-counted : goal.returns-clause-counted
returns-clause-counted g c bytes known =
    let known_of = g.R.Read.remaining in
    let reader = c.next_byte.new.reader in
    let (rest, left, whole) = one_read (known_of reader) bytes c.in_ok-third.field-0 c.in-Some.third c.in-Some.is (c.in_ok-third.ensures.read bytes known) in
    front_counted known_of reader c.of_front-2.result (0xEF ∷ 0xBB ∷ c.in-Some.third ∷ []) c.of_front-2.ensures (strip_bom (0xEF ∷ 0xBB ∷ bytes)) rest left
    (ap (λ (xs : List ℕ). strip_bom (0xEF ∷ 0xBB ∷ xs)) whole ∙ other_third c.in-Some.third rest c.if-third.false)
