-- States, groups and bodies: what is read is spelled so, and what is spelled is read again.
use Rattle.std.proofs.Common.{◌≡◌, ℕ, ◌^◌, ◌<◌, zero, suc, false, eqb, List, [], ◌∷◌, ◌++◌, length, Option, Some, None, Result, Ok, refl, sym, ap, subst, ◌∙◌, append_assoc, arith}
use Rattle.std.specs.List.{flat_map, AllByRecursion}
use Rattle.std.proofs.lemmas.Bool.{ne_eqb}
use Rattle.meaning.specs.declared.value.Value.{Value}
use Rattle.meaning.specs.declared.value.Value.TheVariants.{Null, Int, Text}
use Rattle.meaning.specs.declared.plan.AggregateKind.{AggregateKind}
use Rattle.meaning.specs.declared.plan.AggregateKind.TheVariants.{CountRows, Count, Sum, Min, Max, Avg, CountDistinct, SumDistinct}
use Rattle.meaning.specs.declared.answer.Statistics.{Statistics}
use Rattle.meaning.specs.declared.answer.Group.{Group}
use Rattle.meaning.specs.Said.{Body}
use Rattle.meaning.specs.declared.answer.Body.TheVariants.{Groups, Fault}
use Rattle.meaning.specs.Aggregate.{no_statistics}
use Rattle.answer_fields.specs.declared.fault.DecodeFault.{DecodeFault}
use Rattle.answer_fields.specs.declared.shape.AggregateShape.{AggregateShape}
use Rattle.wire.specs.Reading.{◌>>=◌, number_at, repeat_at, i128_at}
use Rattle.answer_fields.specs.Shape.{Shape}
use Rattle.wire.specs.Bytes.{number_bytes, i128_bytes}
use Rattle.answer_fields.specs.Spelling.{value_bytes, value_or_null, set_bytes, state_bytes, states_bytes, group_bytes, body_bytes}
use Rattle.answer_fields.specs.LayoutReading.{value_at, unless_null, set_at, state_at, states_at, group_at, groups_at, fault_at, tagged_body_at, body_at}
use Rattle.answer_fields.specs.Ranges.{IsValue, IsExtreme, IsState, AreStates, IsGroup, IsBody}
use Rattle.wire.proofs.Numbers.{bind_ok, ok_is, IsBytes, Takes, Takes-then, number_takes, number_again}
use Rattle.wire.proofs.Parts.{IsSpelled, IsReadAgain, repeat_takes, repeat_again, i128_takes, i128_again}
use Rattle.answer_fields.proofs.ValueLaws.{value_takes, value_again}
use Rattle.answer_fields.proofs.FromWire.{read_ok}
use Rattle.answer_fields.specs.Fault.{from_wire}

-- ---- states

null_back : (v : Value) → value_or_null (unless_null v) ≡ v
null_back Null = refl
null_back (Int z) = refl
null_back (Text t) = refl

count_takes : (bytes : List ℕ) (p : Statistics × List ℕ) → IsBytes bytes → (from_wire (number_at 4 bytes) >>= λ n. Ok (record no_statistics { count = n.0 }, n.1)) ≡ Ok p → Takes bytes (number_bytes 4 p.0.count) p.1
count_takes bytes p fits e =
    let a = read_ok (number_at 4 bytes) (λ n. Ok (record no_statistics { count = n.0 }, n.1)) p e in
    let n = number_takes 4 bytes a.0.0 a.0.1 fits a.1 in
    let made : Statistics × List ℕ = (record no_statistics { count = a.0.0 }, a.0.1) in
    subst (λ (q : Statistics × List ℕ). Takes bytes (number_bytes 4 q.0.count) q.1) (ok_is made p a.2) n.0

sum_state_takes : (bytes : List ℕ) (p : Statistics × List ℕ) → IsBytes bytes → (from_wire (number_at 4 bytes) >>= λ n. from_wire (i128_at n.1) >>= λ sum. Ok (record no_statistics { count = n.0; sum = sum.0 }, sum.1)) ≡ Ok p
    → Takes bytes (number_bytes 4 p.0.count ++ i128_bytes p.0.sum) p.1
sum_state_takes bytes p fits e =
    let a = read_ok (number_at 4 bytes) (λ n. from_wire (i128_at n.1) >>= λ sum. Ok (record no_statistics { count = n.0; sum = sum.0 }, sum.1)) p e in
    let b = read_ok (i128_at a.0.1) (λ sum. Ok (record no_statistics { count = a.0.0; sum = sum.0 }, sum.1)) p a.2 in
    let n = number_takes 4 bytes a.0.0 a.0.1 fits a.1 in
    let sum = i128_takes a.0.1 b.0 n.0.rest_fits b.1 in
    let made : Statistics × List ℕ = (record no_statistics { count = a.0.0; sum = b.0.0 }, b.0.1) in
    subst (λ (q : Statistics × List ℕ). Takes bytes (number_bytes 4 q.0.count ++ i128_bytes q.0.sum) q.1) (ok_is made p b.2)
    (Takes-then bytes (number_bytes 4 a.0.0) a.0.1 (i128_bytes b.0.0) b.0.1 n.0 sum)

-- a state of a count and a value, which `put` makes
value_state_takes : (put : ℕ → Option Value → Statistics) (spell : Statistics → List ℕ)
    → ((n : ℕ) (v : Value) → spell (put n (unless_null v)) ≡ number_bytes 4 n ++ value_bytes v)
    → (bytes : List ℕ) (p : Statistics × List ℕ) → IsBytes bytes → (from_wire (number_at 4 bytes) >>= λ n. value_at n.1 >>= λ value. Ok (put n.0 (unless_null value.0), value.1)) ≡ Ok p
    → Takes bytes (spell p.0) p.1
value_state_takes put spell same bytes p fits e =
    let a = read_ok (number_at 4 bytes) (λ n. value_at n.1 >>= λ value. Ok (put n.0 (unless_null value.0), value.1)) p e in
    let b = bind_ok (value_at a.0.1) (λ value. Ok (put a.0.0 (unless_null value.0), value.1)) p a.2 in
    let n = number_takes 4 bytes a.0.0 a.0.1 fits a.1 in
    let value = value_takes a.0.1 b.0 n.0.rest_fits b.1 in
    let made : Statistics × List ℕ = (put a.0.0 (unless_null b.0.0), b.0.1) in
    subst (λ (q : Statistics × List ℕ). Takes bytes (spell q.0) q.1) (ok_is made p b.2)
    (rw (same a.0.0 b.0.0) (Takes-then bytes (number_bytes 4 a.0.0) a.0.1 (value_bytes b.0.0) b.0.1 n.0 value))

set_takes : IsSpelled set_at set_bytes
unfolding set_at set_bytes
set_takes bytes p fits e =
    let a = read_ok (number_at 4 bytes) (λ count. repeat_at value_at count.0 count.1) p e in
    let count = number_takes 4 bytes a.0.0 a.0.1 fits a.1 in
    let entries = repeat_takes value_at value_bytes value_takes a.0.0 a.0.1 p count.0.rest_fits a.2 in
    let counted : Takes bytes (number_bytes 4 (length p.0)) a.0.1 = subst (λ (n : ℕ). Takes bytes (number_bytes 4 n) a.0.1) (sym entries.1) count.0 in
    Takes-then bytes (number_bytes 4 (length p.0)) a.0.1 (flat_map value_bytes p.0) p.1 counted entries.0

set_state_takes : (bytes : List ℕ) (p : Statistics × List ℕ) → IsBytes bytes → (set_at bytes >>= λ entries. Ok (record no_statistics { entries = entries.0 }, entries.1)) ≡ Ok p
    → Takes bytes (set_bytes p.0.entries) p.1
set_state_takes bytes p fits e =
    let a = bind_ok (set_at bytes) (λ entries. Ok (record no_statistics { entries = entries.0 }, entries.1)) p e in
    let set = set_takes bytes a.0 fits a.1 in
    let made : Statistics × List ℕ = (record no_statistics { entries = a.0.0 }, a.0.1) in
    subst (λ (q : Statistics × List ℕ). Takes bytes (set_bytes q.0.entries) q.1) (ok_is made p a.2) set

pub state_takes : (kind : AggregateKind) → IsSpelled (state_at kind) (state_bytes kind)
unfolding state_at state_bytes
state_takes CountRows bytes p fits e = count_takes bytes p fits e
state_takes Count bytes p fits e = count_takes bytes p fits e
state_takes Sum bytes p fits e = sum_state_takes bytes p fits e
state_takes Avg bytes p fits e = sum_state_takes bytes p fits e
state_takes Min bytes p fits e =
    value_state_takes (λ n v. record no_statistics { count = n; least = v }) (λ s. number_bytes 4 s.count ++ value_bytes (value_or_null s.least)) (λ n v. rw (null_back v) refl) bytes p fits e
state_takes Max bytes p fits e =
    value_state_takes (λ n v. record no_statistics { count = n; greatest = v }) (λ s. number_bytes 4 s.count ++ value_bytes (value_or_null s.greatest)) (λ n v. rw (null_back v) refl) bytes p fits e
state_takes CountDistinct bytes p fits e = set_state_takes bytes p fits e
state_takes SumDistinct bytes p fits e = set_state_takes bytes p fits e

pub extreme_back : (o : Option Value) → IsExtreme o → unless_null (value_or_null o) ≡ o
extreme_back None fits = refl
extreme_back (Some Null) fits = absurd fits
extreme_back (Some (Int z)) fits = refl
extreme_back (Some (Text t)) fits = refl

pub extreme_value : (o : Option Value) → IsExtreme o → IsValue (value_or_null o)
extreme_value None fits = tt
extreme_value (Some Null) fits = absurd fits
extreme_value (Some (Int z)) fits = fits
extreme_value (Some (Text t)) fits = fits

pub set_again : (entries : List Value) (rest : List ℕ) → length entries < 2 ^ 32 → AllByRecursion IsValue entries → set_at (set_bytes entries ++ rest) ≡ Ok (entries, rest)
unfolding set_at set_bytes
set_again entries rest few each =
    let values = flat_map value_bytes entries in
    ap set_at (append_assoc (number_bytes 4 (length entries)) values rest)
    ∙ rw (number_again 4 (length entries) (values ++ rest) few, repeat_again value_at value_bytes IsValue value_again (length entries) entries rest refl each) refl

pub state_again : (kind : AggregateKind) → IsReadAgain (state_at kind) (state_bytes kind) (IsState kind)
unfolding state_at state_bytes
state_again CountRows s rest fits = rw (number_again 4 s.count rest fits.count) (ap (λ (t : Statistics). Ok (t, rest)) fits.kept)
state_again Count s rest fits = rw (number_again 4 s.count rest fits.count) (ap (λ (t : Statistics). Ok (t, rest)) fits.kept)
state_again Sum s rest fits =
    ap (state_at Sum) (append_assoc (number_bytes 4 s.count) (i128_bytes s.sum) rest) ∙ rw (number_again 4 s.count (i128_bytes s.sum ++ rest) fits.count, i128_again s.sum rest fits.sum) (ap (λ (t : Statistics). Ok (t, rest)) fits.kept)
state_again Avg s rest fits =
    ap (state_at Avg) (append_assoc (number_bytes 4 s.count) (i128_bytes s.sum) rest) ∙ rw (number_again 4 s.count (i128_bytes s.sum ++ rest) fits.count, i128_again s.sum rest fits.sum) (ap (λ (t : Statistics). Ok (t, rest)) fits.kept)
state_again Min s rest fits =
    let value = value_or_null s.least in
    ap (state_at Min) (append_assoc (number_bytes 4 s.count) (value_bytes value) rest)
    ∙ rw (number_again 4 s.count (value_bytes value ++ rest) fits.count, value_again value rest (extreme_value s.least fits.least), extreme_back s.least fits.least) (ap (λ (t : Statistics). Ok (t, rest)) fits.kept)
state_again Max s rest fits =
    let value = value_or_null s.greatest in
    ap (state_at Max) (append_assoc (number_bytes 4 s.count) (value_bytes value) rest)
    ∙ rw (number_again 4 s.count (value_bytes value ++ rest) fits.count, value_again value rest (extreme_value s.greatest fits.greatest), extreme_back s.greatest fits.greatest) (ap (λ (t : Statistics). Ok (t, rest)) fits.kept)
state_again CountDistinct s rest fits = rw (set_again s.entries rest fits.few fits.entries) (ap (λ (t : Statistics). Ok (t, rest)) fits.kept)
state_again SumDistinct s rest fits = rw (set_again s.entries rest fits.few fits.entries) (ap (λ (t : Statistics). Ok (t, rest)) fits.kept)

pub states_take : (shapes : List AggregateShape) → IsSpelled (states_at shapes) (states_bytes shapes)
unfolding states_at states_bytes
states_take [] bytes p fits e = subst (λ (q : List Statistics × List ℕ). Takes bytes (states_bytes [] q.0) q.1) (ok_is ([], bytes) p e) (record { parts = refl; rest_fits = fits })
states_take (shape ∷ shapes) bytes p fits e =
    let a = bind_ok (state_at shape.kind bytes) (λ first. states_at shapes first.1 >>= λ others. Ok (first.0 ∷ others.0, others.1)) p e in
    let b = bind_ok (states_at shapes a.0.1) (λ others. Ok (a.0.0 ∷ others.0, others.1)) p a.2 in
    let first = state_takes shape.kind bytes a.0 fits a.1 in
    let others = states_take shapes a.0.1 b.0 first.rest_fits b.1 in
    let made : List Statistics × List ℕ = (a.0.0 ∷ b.0.0, b.0.1) in
    subst (λ (q : List Statistics × List ℕ). Takes bytes (states_bytes (shape ∷ shapes) q.0) q.1) (ok_is made p b.2)
    (Takes-then bytes (state_bytes shape.kind a.0.0) a.0.1 (states_bytes shapes b.0.0) b.0.1 first others)

pub states_again : (shapes : List AggregateShape) → IsReadAgain (states_at shapes) (states_bytes shapes) (AreStates shapes)
unfolding states_at states_bytes
states_again [] [] rest fits = refl
states_again [] (s ∷ states) rest fits = absurd fits
states_again (shape ∷ shapes) [] rest fits = absurd fits
states_again (shape ∷ shapes) (s ∷ states) rest fits =
    ap (states_at (shape ∷ shapes)) (append_assoc (state_bytes shape.kind s) (states_bytes shapes states) rest)
    ∙ rw (state_again shape.kind s (states_bytes shapes states ++ rest) fits.0, states_again shapes states rest fits.1) refl

-- ---- groups

pub group_takes : (shape : Shape) → IsSpelled (group_at shape) (group_bytes shape)
unfolding group_at group_bytes
group_takes shape bytes p fits e =
    let after_rows : List Value → ℕ → List ℕ → Result (Group × List ℕ) DecodeFault = λ key rows rest. states_at shape.aggregates rest >>= λ states. Ok (record { key = key; rows = rows; states = states.0 }, states.1) in
    let a = bind_ok (repeat_at value_at (length shape.keys) bytes) (λ key. from_wire (number_at 4 key.1) >>= λ rows. after_rows key.0 rows.0 rows.1) p e in
    let b = read_ok (number_at 4 a.0.1) (λ rows. after_rows a.0.0 rows.0 rows.1) p a.2 in
    let c = bind_ok (states_at shape.aggregates b.0.1) (λ states. Ok (record { key = a.0.0; rows = b.0.0; states = states.0 }, states.1)) p b.2 in
    let key = repeat_takes value_at value_bytes value_takes (length shape.keys) bytes a.0 fits a.1 in
    let rows = number_takes 4 a.0.1 b.0.0 b.0.1 key.0.rest_fits b.1 in
    let states = states_take shape.aggregates b.0.1 c.0 rows.0.rest_fits c.1 in
    let front = Takes-then bytes (flat_map value_bytes a.0.0) a.0.1 (number_bytes 4 b.0.0) b.0.1 key.0 rows.0 in
    let made : Group × List ℕ = (record { key = a.0.0; rows = b.0.0; states = c.0.0 }, c.0.1) in
    subst (λ (q : Group × List ℕ). Takes bytes (group_bytes shape q.0) q.1) (ok_is made p c.2)
    (Takes-then bytes (flat_map value_bytes a.0.0 ++ number_bytes 4 b.0.0) b.0.1 (states_bytes shape.aggregates c.0.0) c.0.1 front states)

pub group_again : (shape : Shape) → IsReadAgain (group_at shape) (group_bytes shape) (IsGroup shape)
unfolding group_at group_bytes
group_again shape g rest fits =
    let key = flat_map value_bytes g.key in
    let rows = number_bytes 4 g.rows in
    let states = states_bytes shape.aggregates g.states in
    ap (group_at shape) (append_assoc (key ++ rows) states rest ∙ append_assoc key rows (states ++ rest))
    ∙ rw (repeat_again value_at value_bytes IsValue value_again (length shape.keys) g.key (rows ++ (states ++ rest)) fits.keys fits.key, number_again 4 g.rows (states ++ rest) fits.rows, states_again shape.aggregates g.states rest fits.states) refl

-- ---- bodies

tagged_takes : (shape : Shape) (start : List ℕ) (tag : ℕ) (bytes : List ℕ) (p : Body × List ℕ) → IsBytes bytes → Takes start (number_bytes 1 tag) bytes → tagged_body_at shape tag bytes ≡ Ok p
    → Takes start (body_bytes shape p.0) p.1
unfolding tagged_body_at fault_at groups_at body_bytes
tagged_takes shape start zero bytes p fits first e =
    let a = read_ok (number_at 8 bytes) (λ row. from_wire (number_at 1 row.1) >>= λ code. Ok (Fault (record { row = row.0; code = code.0 }), code.1)) p e in
    let b = read_ok (number_at 1 a.0.1) (λ code. Ok (Fault (record { row = a.0.0; code = code.0 }), code.1)) p a.2 in
    let row = number_takes 8 bytes a.0.0 a.0.1 fits a.1 in
    let code = number_takes 1 a.0.1 b.0.0 b.0.1 row.0.rest_fits b.1 in
    let front = Takes-then start (number_bytes 1 0) bytes (number_bytes 8 a.0.0) a.0.1 first row.0 in
    let made : Body × List ℕ = (Fault (record { row = a.0.0; code = b.0.0 }), b.0.1) in
    subst (λ (q : Body × List ℕ). Takes start (body_bytes shape q.0) q.1) (ok_is made p b.2)
    (Takes-then start (number_bytes 1 0 ++ number_bytes 8 a.0.0) a.0.1 (number_bytes 1 b.0.0) b.0.1 front code.0)
tagged_takes shape start (suc zero) bytes p fits first e =
    let a = read_ok (number_at 4 bytes) (λ count. repeat_at (group_at shape) count.0 count.1 >>= λ groups. Ok (Groups groups.0, groups.1)) p e in
    let b = bind_ok (repeat_at (group_at shape) a.0.0 a.0.1) (λ groups. Ok (Groups groups.0, groups.1)) p a.2 in
    let count = number_takes 4 bytes a.0.0 a.0.1 fits a.1 in
    let groups = repeat_takes (group_at shape) (group_bytes shape) (group_takes shape) a.0.0 a.0.1 b.0 count.0.rest_fits b.1 in
    let front = Takes-then start (number_bytes 1 1) bytes (number_bytes 4 a.0.0) a.0.1 first count.0 in
    let counted : Takes start (number_bytes 1 1 ++ number_bytes 4 (length b.0.0)) a.0.1 = subst (λ (n : ℕ). Takes start (number_bytes 1 1 ++ number_bytes 4 n) a.0.1) (sym groups.1) front in
    let made : Body × List ℕ = (Groups b.0.0, b.0.1) in
    subst (λ (q : Body × List ℕ). Takes start (body_bytes shape q.0) q.1) (ok_is made p b.2)
    (Takes-then start (number_bytes 1 1 ++ number_bytes 4 (length b.0.0)) a.0.1 (flat_map (group_bytes shape) b.0.0) b.0.1 counted groups.0)
tagged_takes shape start (suc (suc n)) bytes p fits first e =
    let not0 : eqb (suc (suc n)) 0 ≡ false = ne_eqb _ _ (λ h. omega (arith, h)) in
    let not1 : eqb (suc (suc n)) 1 ≡ false = ne_eqb _ _ (λ h. omega (arith, h)) in
    let wrong = rw (not0, not1) at e in
    absurd cc

pub body_takes : (shape : Shape) → IsSpelled (body_at shape) (body_bytes shape)
unfolding body_at
body_takes shape bytes p fits e =
    let a = read_ok (number_at 1 bytes) (λ tag. tagged_body_at shape tag.0 tag.1) p e in
    let tag = number_takes 1 bytes a.0.0 a.0.1 fits a.1 in
    tagged_takes shape bytes a.0.0 a.0.1 p tag.0.rest_fits tag.0 a.2

pub body_again : (shape : Shape) → IsReadAgain (body_at shape) (body_bytes shape) (IsBody shape)
unfolding body_at tagged_body_at fault_at groups_at body_bytes
body_again shape (Fault f) rest fits =
    let row = number_bytes 8 f.row in
    let code = number_bytes 1 f.code in
    ap (body_at shape) (append_assoc (number_bytes 1 0 ++ row) code rest ∙ append_assoc (number_bytes 1 0) row (code ++ rest))
    ∙ rw (number_again 1 0 (row ++ (code ++ rest)) (omega arith), number_again 8 f.row (code ++ rest) fits.0, number_again 1 f.code rest fits.1) refl
body_again shape (Groups gs) rest fits =
    let count = number_bytes 4 (length gs) in
    let groups = flat_map (group_bytes shape) gs in
    ap (body_at shape) (append_assoc (number_bytes 1 1 ++ count) groups rest ∙ append_assoc (number_bytes 1 1) count (groups ++ rest))
    ∙ rw (number_again 1 1 (count ++ (groups ++ rest)) (omega arith), number_again 4 (length gs) (groups ++ rest) fits.0, repeat_again (group_at shape) (group_bytes shape) (IsGroup shape) (group_again shape) (length gs) gs rest refl fits.1) refl
