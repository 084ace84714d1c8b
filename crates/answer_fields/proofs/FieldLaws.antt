-- Shapes, the fields that describe the job, and the whole layout: what is read is spelled so, and what is spelled is read again.
use Rattle.std.proofs.Common.{◌≡◌, ℕ, ◌^◌, ◌<◌, Bool, true, false, cond, eqb, List, [], ◌∷◌, ◌++◌, length, Option, Some, None, Result, Ok, refl, sym, ap, subst, ◌∙◌, append_assoc, arith}
use Rattle.std.specs.List.{flat_map, AllByRecursion}
use Rattle.std.proofs.lemmas.Bool.{eqb-true}
use Rattle.meaning.specs.declared.value.ColType.{ColType}
use Rattle.meaning.specs.declared.value.ColType.TheVariants as of_type
use Rattle.meaning.specs.declared.plan.AggregateKind.{AggregateKind}
use Rattle.meaning.specs.declared.plan.AggregateKind.TheVariants.{CountRows, Count, Sum, Min, Max, Avg, CountDistinct, SumDistinct}
use Rattle.answer_fields.specs.declared.fault.DecodeFault.{DecodeFault}
use Rattle.answer_fields.specs.declared.fault.DecodeFault.TheVariants as fault
use Rattle.answer_fields.specs.declared.format.Content.TheVariants as content
use Rattle.answer_fields.specs.declared.format.Format.{Format}
use Rattle.answer_fields.specs.Format.{has_kind, has_kinds, magic, format_at}
use Rattle.answer_fields.specs.declared.shape.AggregateShape.{AggregateShape}
use Rattle.wire.specs.Reading.{◌>>=◌, number_at, text_at, repeat_at}
use Rattle.meaning.specs.TypeCodes.{type_code}
use Rattle.answer_fields.specs.Shape.{Shape, argument_code, kind_code}
use Rattle.answer_fields.specs.Spelling.{Layout, job_bytes, aggregate_bytes, shape_bytes, body_bytes, layout_bytes}
use Rattle.wire.specs.Bytes.{number_bytes, text_bytes, IsText}
use Rattle.answer_fields.specs.LayoutReading.{JobFields, type_of, type_at, kind_of, known_to, kind_at, argument_from, argument_at, aggregate_at, shape_at, job_at, body_at, laid_out, layout_at, length_at}
use Rattle.answer_fields.specs.Ranges.{IsBody}
use Rattle.wire.proofs.Numbers.{bind_ok, ok_is, test_passed, IsBytes, Takes, Takes-then, number_takes, number_again}
use Rattle.wire.proofs.Parts.{IsSpelled, IsReadAgain, repeat_takes, repeat_again, repeat_all, text_takes, text_again}
use Rattle.answer_fields.proofs.Groups.{body_takes, body_again}
use Rattle.answer_fields.proofs.FromWire.{read_ok, wire_ok}
use Rattle.answer_fields.specs.Fault.{from_wire}
use Rattle.answer_fields.proofs.Formats.{format_takes, format_again}

-- ---- codes

-- one more code of a table
code_case : {A : Type 0} (b : Bool) (n c : ℕ) → (b ≡ true → n ≡ c) → (x : A) (more : Result A DecodeFault) (y : A) (code : A → ℕ) → code x ≡ c → (more ≡ Ok y → code y ≡ n)
    → cond b (Ok x) more ≡ Ok y → code y ≡ n
code_case true n c is x more y code same next e = ap code (sym (ok_is x y e)) ∙ same ∙ sym (is refl)
code_case false n c is x more y code same next e = next e

type_from : (n : ℕ) (t : ColType) → type_of n ≡ Ok t → type_code t ≡ n
type_from n t e =
    code_case (eqb n 1) n 1 (eqb-true n 1) of_type.Int _ t type_code refl
    (code_case (eqb n 2) n 2 (eqb-true n 2) of_type.Text _ t type_code refl (λ wrong. absurd cc)) e

pub type_again : (t : ColType) → type_of (type_code t) ≡ Ok t
type_again of_type.Int = refl
type_again of_type.Text = refl

kind_from : (n : ℕ) (k : AggregateKind) → kind_of n ≡ Ok k → kind_code k ≡ n
kind_from n k e =
    code_case (eqb n 1) n 1 (eqb-true n 1) CountRows _ k kind_code refl
    (code_case (eqb n 2) n 2 (eqb-true n 2) Count _ k kind_code refl
    (code_case (eqb n 3) n 3 (eqb-true n 3) Sum _ k kind_code refl
    (code_case (eqb n 4) n 4 (eqb-true n 4) Min _ k kind_code refl
    (code_case (eqb n 5) n 5 (eqb-true n 5) Max _ k kind_code refl
    (code_case (eqb n 6) n 6 (eqb-true n 6) Avg _ k kind_code refl
    (code_case (eqb n 7) n 7 (eqb-true n 7) CountDistinct _ k kind_code refl
    (code_case (eqb n 8) n 8 (eqb-true n 8) SumDistinct _ k kind_code refl (λ wrong. absurd cc)))))))) e

pub kind_again : (k : AggregateKind) → kind_of (kind_code k) ≡ Ok k
kind_again CountRows = refl
kind_again Count = refl
kind_again Sum = refl
kind_again Min = refl
kind_again Max = refl
kind_again Avg = refl
kind_again CountDistinct = refl
kind_again SumDistinct = refl

some_from : (n : ℕ) (o : Option ColType) → (type_of n >>= λ t. Ok (Some t)) ≡ Ok o → argument_code o ≡ n
some_from n o e =
    let a = bind_ok (type_of n) (λ t. Ok (Some t)) o e in
    ap argument_code (sym (ok_is (Some a.0) o a.2)) ∙ type_from n a.0 a.1

argument_is : (k : AggregateKind) (n : ℕ) (o : Option ColType) → argument_from k n ≡ Ok o → argument_code o ≡ n
argument_is CountRows n o e = code_case (eqb n 0) n 0 (eqb-true n 0) None _ o argument_code refl (λ wrong. absurd cc) e
argument_is Count n o e = some_from n o e
argument_is Sum n o e = some_from n o e
argument_is Min n o e = some_from n o e
argument_is Max n o e = some_from n o e
argument_is Avg n o e = some_from n o e
argument_is CountDistinct n o e = some_from n o e
argument_is SumDistinct n o e = some_from n o e

-- ---- shapes

type_takes : IsSpelled type_at (λ t. number_bytes 1 (type_code t))
unfolding type_at
type_takes bytes p fits e =
    let a = read_ok (number_at 1 bytes) (λ n. type_of n.0 >>= λ t. Ok (t, n.1)) p e in
    let b = bind_ok (type_of a.0.0) (λ t. Ok (t, a.0.1)) p a.2 in
    let n = number_takes 1 bytes a.0.0 a.0.1 fits a.1 in
    let made : ColType × List ℕ = (b.0, a.0.1) in
    subst (λ (q : ColType × List ℕ). Takes bytes (number_bytes 1 (type_code q.0)) q.1) (ok_is made p b.2) (rw (type_from a.0.0 b.0 b.1) n.0)

type_fits : (t : ColType) → type_code t < 256
type_fits of_type.Int = omega arith
type_fits of_type.Text = omega arith

types_again : IsReadAgain type_at (λ t. number_bytes 1 (type_code t)) (λ t. Unit {0})
unfolding type_at
types_again t rest fits = rw (number_again 1 (type_code t) rest (type_fits t), type_again t) refl

-- ---- aggregates

-- the kind is one that the format has
known_ok : (format : Format) (kind known : AggregateKind) → known_to format kind ≡ Ok known → (kind ≡ known) × (has_kind format known ≡ true)
known_ok format kind known e =
    let t = test_passed (has_kind format kind) fault.Shape (Ok kind) known e in
    let same = ok_is kind known t.1 in
    (same, subst (λ (k : AggregateKind). has_kind format k ≡ true) same t.0)

-- what reading a kind gave
record IsReadKind (format : Format) (bytes : List ℕ) (p : AggregateKind × List ℕ) : Type 0 where
  spelled : IsBytes bytes → Takes bytes (number_bytes 1 (kind_code p.0)) p.1
  known : has_kind format p.0 ≡ true

kind_read : (format : Format) (bytes : List ℕ) (p : AggregateKind × List ℕ) → kind_at format bytes ≡ Ok p → IsReadKind format bytes p
unfolding kind_at
kind_read format bytes p e =
    let a = read_ok (number_at 1 bytes) (λ n. kind_of n.0 >>= λ kind. known_to format kind >>= λ known. Ok (known, n.1)) p e in
    let b = bind_ok (kind_of a.0.0) (λ kind. known_to format kind >>= λ known. Ok (known, a.0.1)) p a.2 in
    let d = bind_ok (known_to format b.0) (λ known. Ok (known, a.0.1)) p b.2 in
    let known = known_ok format b.0 d.0 d.1 in
    let code : kind_code d.0 ≡ a.0.0 = ap kind_code (sym known.0) ∙ kind_from a.0.0 b.0 b.1 in
    let made : AggregateKind × List ℕ = (d.0, a.0.1) in
    let read : IsReadKind format bytes made = record {
      spelled = λ fits. subst (λ (n : ℕ). Takes bytes (number_bytes 1 n) a.0.1) (sym code) (number_takes 1 bytes a.0.0 a.0.1 fits a.1).0;
      known = known.1;
    } in
    subst (λ (q : AggregateKind × List ℕ). IsReadKind format bytes q) (ok_is made p d.2) read

-- what reading an argument gave
record IsReadArgument (kind : AggregateKind) (bytes : List ℕ) (p : AggregateShape × List ℕ) : Type 0 where
  spelled : IsBytes bytes → Takes bytes (number_bytes 1 (argument_code p.0.argument)) p.1
  same : kind ≡ p.0.kind

argument_read : (kind : AggregateKind) (bytes : List ℕ) (p : AggregateShape × List ℕ) → argument_at kind bytes ≡ Ok p → IsReadArgument kind bytes p
unfolding argument_at
argument_read kind bytes p e =
    let a = read_ok (number_at 1 bytes) (λ n. argument_from kind n.0 >>= λ argument. Ok (record { kind = kind; argument = argument }, n.1)) p e in
    let b = bind_ok (argument_from kind a.0.0) (λ argument. Ok (record { kind = kind; argument = argument }, a.0.1)) p a.2 in
    let made : AggregateShape × List ℕ = (record { kind = kind; argument = b.0 }, a.0.1) in
    let read : IsReadArgument kind bytes made = record {
      spelled = λ fits. subst (λ (n : ℕ). Takes bytes (number_bytes 1 n) a.0.1) (sym (argument_is kind a.0.0 b.0 b.1)) (number_takes 1 bytes a.0.0 a.0.1 fits a.1).0;
      same = refl;
    } in
    subst (λ (q : AggregateShape × List ℕ). IsReadArgument kind bytes q) (ok_is made p b.2) read

-- what reading an aggregate gave
record IsReadAggregate (format : Format) (bytes : List ℕ) (p : AggregateShape × List ℕ) : Type 0 where
  spelled : IsBytes bytes → Takes bytes (aggregate_bytes p.0) p.1
  known : has_kind format p.0.kind ≡ true

aggregate_read : (format : Format) (bytes : List ℕ) (p : AggregateShape × List ℕ) → aggregate_at format bytes ≡ Ok p → IsReadAggregate format bytes p
unfolding aggregate_at
aggregate_read format bytes p e =
    let a = bind_ok (kind_at format bytes) (λ kind. argument_at kind.0 kind.1) p e in
    let kind = kind_read format bytes a.0 a.1 in
    let argument = argument_read a.0.0 a.0.1 p a.2 in
    record {
      spelled = λ fits.
          let first = subst (λ (k : AggregateKind). Takes bytes (number_bytes 1 (kind_code k)) a.0.1) argument.same (kind.spelled fits) in
          Takes-then bytes (number_bytes 1 (kind_code p.0.kind)) a.0.1 (number_bytes 1 (argument_code p.0.argument)) p.1 first (argument.spelled first.rest_fits);
      known = subst (λ (k : AggregateKind). has_kind format k ≡ true) argument.same kind.known;
    }

aggregate_takes : (format : Format) → IsSpelled (aggregate_at format) aggregate_bytes
aggregate_takes format bytes p fits e = (aggregate_read format bytes p e).spelled fits

-- an aggregate that has a spelling
pub record IsAggregate (format : Format) (a : AggregateShape) : Type 0 where
  pub known : has_kind format a.kind ≡ true
  pub argument : argument_from a.kind (argument_code a.argument) ≡ Ok a.argument

pub kind_fits : (k : AggregateKind) → kind_code k < 256
kind_fits CountRows = omega arith
kind_fits Count = omega arith
kind_fits Sum = omega arith
kind_fits Min = omega arith
kind_fits Max = omega arith
kind_fits Avg = omega arith
kind_fits CountDistinct = omega arith
kind_fits SumDistinct = omega arith

argument_fits : (o : Option ColType) → argument_code o < 256
argument_fits None = omega arith
argument_fits (Some t) = type_fits t

aggregate_again : (format : Format) → IsReadAgain (aggregate_at format) aggregate_bytes (IsAggregate format)
unfolding aggregate_at kind_at argument_at
aggregate_again format a rest fits =
    let argument = number_bytes 1 (argument_code a.argument) in
    ap (aggregate_at format) (append_assoc (number_bytes 1 (kind_code a.kind)) argument rest)
    ∙ rw (number_again 1 (kind_code a.kind) (argument ++ rest) (kind_fits a.kind), kind_again a.kind, fits.known, number_again 1 (argument_code a.argument) rest (argument_fits a.argument), fits.argument) refl

abbrev type_bytes : ColType → List ℕ
type_bytes t = number_bytes 1 (type_code t)

-- the format has the kinds of a shape that is read
pub shape_known : (format : Format) (bytes : List ℕ) (p : Shape × List ℕ) → shape_at format bytes ≡ Ok p → has_kinds format p.0 ≡ true
unfolding shape_at
shape_known format bytes p e =
    let a = read_ok (number_at 2 bytes) (λ n. repeat_at type_at n.0 n.1 >>= λ keys. from_wire (number_at 2 keys.1) >>= λ m. repeat_at (aggregate_at format) m.0 m.1 >>= λ aggregates. Ok (record { keys = keys.0; aggregates = aggregates.0 }, aggregates.1)) p e in
    let b = bind_ok (repeat_at type_at a.0.0 a.0.1) (λ keys. from_wire (number_at 2 keys.1) >>= λ m. repeat_at (aggregate_at format) m.0 m.1 >>= λ aggregates. Ok (record { keys = keys.0; aggregates = aggregates.0 }, aggregates.1)) p a.2 in
    let c = read_ok (number_at 2 b.0.1) (λ m. repeat_at (aggregate_at format) m.0 m.1 >>= λ aggregates. Ok (record { keys = b.0.0; aggregates = aggregates.0 }, aggregates.1)) p b.2 in
    let d = bind_ok (repeat_at (aggregate_at format) c.0.0 c.0.1) (λ aggregates. Ok (record { keys = b.0.0; aggregates = aggregates.0 }, aggregates.1)) p c.2 in
    let each = repeat_all (aggregate_at format) (λ (x : AggregateShape). has_kind format x.kind) (λ bs q h. (aggregate_read format bs q h).known) c.0.0 c.0.1 d.0 d.1 in
    let made : Shape × List ℕ = (record { keys = b.0.0; aggregates = d.0.0 }, d.0.1) in
    subst (λ (q : Shape × List ℕ). has_kinds format q.0 ≡ true) (ok_is made p d.2) each.1

pub shape_takes : (format : Format) → IsSpelled (shape_at format) shape_bytes
unfolding shape_at shape_bytes
shape_takes format bytes p fits e =
    let a = read_ok (number_at 2 bytes) (λ n. repeat_at type_at n.0 n.1 >>= λ keys. from_wire (number_at 2 keys.1) >>= λ m. repeat_at (aggregate_at format) m.0 m.1 >>= λ aggregates. Ok (record { keys = keys.0; aggregates = aggregates.0 }, aggregates.1)) p e in
    let b = bind_ok (repeat_at type_at a.0.0 a.0.1) (λ keys. from_wire (number_at 2 keys.1) >>= λ m. repeat_at (aggregate_at format) m.0 m.1 >>= λ aggregates. Ok (record { keys = keys.0; aggregates = aggregates.0 }, aggregates.1)) p a.2 in
    let c = read_ok (number_at 2 b.0.1) (λ m. repeat_at (aggregate_at format) m.0 m.1 >>= λ aggregates. Ok (record { keys = b.0.0; aggregates = aggregates.0 }, aggregates.1)) p b.2 in
    let d = bind_ok (repeat_at (aggregate_at format) c.0.0 c.0.1) (λ aggregates. Ok (record { keys = b.0.0; aggregates = aggregates.0 }, aggregates.1)) p c.2 in
    let n = number_takes 2 bytes a.0.0 a.0.1 fits a.1 in
    let keys = repeat_takes type_at type_bytes type_takes a.0.0 a.0.1 b.0 n.0.rest_fits b.1 in
    let m = number_takes 2 b.0.1 c.0.0 c.0.1 keys.0.rest_fits c.1 in
    let aggregates = repeat_takes (aggregate_at format) aggregate_bytes (aggregate_takes format) c.0.0 c.0.1 d.0 m.0.rest_fits d.1 in
    let counted : Takes bytes (number_bytes 2 (length b.0.0)) a.0.1 = subst (λ (x : ℕ). Takes bytes (number_bytes 2 x) a.0.1) (sym keys.1) n.0 in
    let counted2 : Takes b.0.1 (number_bytes 2 (length d.0.0)) c.0.1 = subst (λ (x : ℕ). Takes b.0.1 (number_bytes 2 x) c.0.1) (sym aggregates.1) m.0 in
    let one = Takes-then bytes (number_bytes 2 (length b.0.0)) a.0.1 (flat_map type_bytes b.0.0) b.0.1 counted keys.0 in
    let two = Takes-then bytes (number_bytes 2 (length b.0.0) ++ flat_map type_bytes b.0.0) b.0.1 (number_bytes 2 (length d.0.0)) c.0.1 one counted2 in
    let made : Shape × List ℕ = (record { keys = b.0.0; aggregates = d.0.0 }, d.0.1) in
    subst (λ (q : Shape × List ℕ). Takes bytes (shape_bytes q.0) q.1) (ok_is made p d.2)
    (Takes-then bytes (number_bytes 2 (length b.0.0) ++ flat_map type_bytes b.0.0 ++ number_bytes 2 (length d.0.0)) c.0.1 (flat_map aggregate_bytes d.0.0) d.0.1 two aggregates.0)

-- a shape that has a spelling
pub record IsShape (format : Format) (shape : Shape) : Type 0 where
  pub keys : length shape.keys < 2 ^ 16
  pub aggregates : length shape.aggregates < 2 ^ 16
  pub each : AllByRecursion (IsAggregate format) shape.aggregates

all_types : (ts : List ColType) → AllByRecursion (λ t. Unit {0}) ts
all_types [] = tt
all_types (t ∷ ts) = (tt, all_types ts)

pub shape_again : (format : Format) → IsReadAgain (shape_at format) shape_bytes (IsShape format)
unfolding shape_at shape_bytes
shape_again format shape rest fits =
    let n = number_bytes 2 (length shape.keys) in
    let keys = flat_map type_bytes shape.keys in
    let m = number_bytes 2 (length shape.aggregates) in
    let aggregates = flat_map aggregate_bytes shape.aggregates in
    ap (shape_at format) (append_assoc (n ++ keys ++ m) aggregates rest ∙ append_assoc (n ++ keys) m (aggregates ++ rest) ∙ append_assoc n keys (m ++ (aggregates ++ rest)))
    ∙ rw (
      number_again 2 (length shape.keys) (keys ++ (m ++ (aggregates ++ rest))) fits.keys,
      repeat_again type_at type_bytes (λ t. Unit {0}) types_again (length shape.keys) shape.keys (m ++ (aggregates ++ rest)) refl (all_types shape.keys),
      number_again 2 (length shape.aggregates) (aggregates ++ rest) fits.aggregates,
      repeat_again (aggregate_at format) aggregate_bytes (IsAggregate format) (aggregate_again format) (length shape.aggregates) shape.aggregates rest refl fits.each,
    ) refl

-- ---- the fields that describe the job

word_takes : IsSpelled length_at (number_bytes 4)
word_takes bytes p fits e = (number_takes 4 bytes p.0 p.1 fits (wire_ok (number_at 4 bytes) p e)).0

abbrev pub job_text : JobFields → List ℕ
job_text job = job_bytes job.load job.text job.cut

pub job_takes : IsSpelled job_at job_text
unfolding job_at job_bytes
job_takes bytes p fits e =
    let a = read_ok (number_at 8 bytes) (λ load. from_wire (text_at 4 load.1) >>= λ text. from_wire (number_at 4 text.1) >>= λ n. repeat_at length_at n.0 n.1 >>= λ cut. Ok (record { load = load.0; text = text.0; cut = cut.0 }, cut.1)) p e in
    let b = read_ok (text_at 4 a.0.1) (λ text. from_wire (number_at 4 text.1) >>= λ n. repeat_at length_at n.0 n.1 >>= λ cut. Ok (record { load = a.0.0; text = text.0; cut = cut.0 }, cut.1)) p a.2 in
    let c = read_ok (number_at 4 b.0.1) (λ n. repeat_at length_at n.0 n.1 >>= λ cut. Ok (record { load = a.0.0; text = b.0.0; cut = cut.0 }, cut.1)) p b.2 in
    let d = bind_ok (repeat_at length_at c.0.0 c.0.1) (λ cut. Ok (record { load = a.0.0; text = b.0.0; cut = cut.0 }, cut.1)) p c.2 in
    let load = number_takes 8 bytes a.0.0 a.0.1 fits a.1 in
    let text = text_takes 4 a.0.1 b.0 load.0.rest_fits b.1 in
    let n = number_takes 4 b.0.1 c.0.0 c.0.1 text.rest_fits c.1 in
    let cut = repeat_takes length_at (number_bytes 4) word_takes c.0.0 c.0.1 d.0 n.0.rest_fits d.1 in
    let counted : Takes b.0.1 (number_bytes 4 (length d.0.0)) c.0.1 = subst (λ (x : ℕ). Takes b.0.1 (number_bytes 4 x) c.0.1) (sym cut.1) n.0 in
    let one = Takes-then bytes (number_bytes 8 a.0.0) a.0.1 (text_bytes 4 b.0.0) b.0.1 load.0 text in
    let two = Takes-then bytes (number_bytes 8 a.0.0 ++ text_bytes 4 b.0.0) b.0.1 (number_bytes 4 (length d.0.0)) c.0.1 one counted in
    let made : JobFields × List ℕ = (record { load = a.0.0; text = b.0.0; cut = d.0.0 }, d.0.1) in
    subst (λ (q : JobFields × List ℕ). Takes bytes (job_text q.0) q.1) (ok_is made p d.2)
    (Takes-then bytes (number_bytes 8 a.0.0 ++ text_bytes 4 b.0.0 ++ number_bytes 4 (length d.0.0)) c.0.1 (flat_map (number_bytes 4) d.0.0) d.0.1 two cut.0)

-- fields that have a spelling
pub record AreJobFields (job : JobFields) : Type 0 where
  pub load : job.load < 2 ^ 64
  pub text : IsText 4 job.text
  pub fragments : length job.cut < 2 ^ 32
  pub each : AllByRecursion (λ n. n < 2 ^ 32) job.cut

word_again : IsReadAgain length_at (number_bytes 4) (λ n. n < 2 ^ 32)
word_again n rest fits = rw (number_again 4 n rest fits) refl

pub job_again : IsReadAgain job_at job_text AreJobFields
unfolding job_at job_bytes
job_again job rest fits =
    let load = number_bytes 8 job.load in
    let text = text_bytes 4 job.text in
    let n = number_bytes 4 (length job.cut) in
    let cut = flat_map (number_bytes 4) job.cut in
    ap job_at (append_assoc (load ++ text ++ n) cut rest ∙ append_assoc (load ++ text) n (cut ++ rest) ∙ append_assoc load text (n ++ (cut ++ rest)))
    ∙ rw (
      number_again 8 job.load (text ++ (n ++ (cut ++ rest))) fits.load,
      text_again 4 job.text (n ++ (cut ++ rest)) fits.text,
      number_again 4 (length job.cut) (cut ++ rest) fits.fragments,
      repeat_again length_at (number_bytes 4) (λ k. k < 2 ^ 32) word_again (length job.cut) job.cut rest refl fits.each,
    ) refl

-- ---- the whole

abbrev pub job_of : Layout → JobFields
job_of l = record { load = l.load; text = l.text; cut = l.cut }

-- what reading a layout gave, field by field
pub record IsReadLayout (bytes : List ℕ) (p : Layout × List ℕ) : Type 0 where
  behind_format : List ℕ
  behind_job : List ℕ
  behind_k : List ℕ
  pub behind_shape : List ℕ
  format : format_at content.Answer bytes ≡ Ok (p.0.format, behind_format)
  job : job_at behind_format ≡ Ok (job_of p.0, behind_job)
  k : number_at 4 behind_job ≡ Ok (p.0.k, behind_k)
  pub shape : shape_at p.0.format behind_k ≡ Ok (p.0.shape, behind_shape)
  pub body : body_at p.0.shape behind_shape ≡ Ok (p.0.body, p.1)

pub layout_read : (bytes : List ℕ) (p : Layout × List ℕ) → layout_at bytes ≡ Ok p → IsReadLayout bytes p
unfolding layout_at
layout_read bytes p e =
    let a = bind_ok (format_at content.Answer bytes) (λ format. job_at format.1 >>= λ job. from_wire (number_at 4 job.1) >>= λ k. shape_at format.0 k.1 >>= λ shape. body_at shape.0 shape.1 >>= λ body. Ok (laid_out format.0 job.0 k.0 shape.0 body.0, body.1)) p e in
    let b = bind_ok (job_at a.0.1) (λ job. from_wire (number_at 4 job.1) >>= λ k. shape_at a.0.0 k.1 >>= λ shape. body_at shape.0 shape.1 >>= λ body. Ok (laid_out a.0.0 job.0 k.0 shape.0 body.0, body.1)) p a.2 in
    let c = read_ok (number_at 4 b.0.1) (λ k. shape_at a.0.0 k.1 >>= λ shape. body_at shape.0 shape.1 >>= λ body. Ok (laid_out a.0.0 b.0.0 k.0 shape.0 body.0, body.1)) p b.2 in
    let d = bind_ok (shape_at a.0.0 c.0.1) (λ shape. body_at shape.0 shape.1 >>= λ body. Ok (laid_out a.0.0 b.0.0 c.0.0 shape.0 body.0, body.1)) p c.2 in
    let f = bind_ok (body_at d.0.0 d.0.1) (λ body. Ok (laid_out a.0.0 b.0.0 c.0.0 d.0.0 body.0, body.1)) p d.2 in
    let made : Layout × List ℕ = (laid_out a.0.0 b.0.0 c.0.0 d.0.0 f.0.0, f.0.1) in
    let read : IsReadLayout bytes made = record { behind_format = a.0.1; behind_job = b.0.1; behind_k = c.0.1; behind_shape = d.0.1; format = a.1; job = b.1; k = c.1; shape = d.1; body = f.1 } in
    subst (λ (q : Layout × List ℕ). IsReadLayout bytes q) (ok_is made p f.2) read

pub layout_takes : IsSpelled layout_at layout_bytes
unfolding layout_bytes
layout_takes bytes p fits e =
    let read = layout_read bytes p e in
    let l = p.0 in
    let named = magic content.Answer l.format in
    let job = job_of l in
    let format = format_takes content.Answer bytes (l.format, read.behind_format) fits read.format in
    let fields = job_takes read.behind_format (job, read.behind_job) format.rest_fits read.job in
    let k = number_takes 4 read.behind_job l.k read.behind_k fields.rest_fits read.k in
    let shape = shape_takes l.format read.behind_k (l.shape, read.behind_shape) k.0.rest_fits read.shape in
    let body = body_takes l.shape read.behind_shape (l.body, p.1) shape.rest_fits read.body in
    let one = Takes-then bytes named read.behind_format (job_text job) read.behind_job format fields in
    let two = Takes-then bytes (named ++ job_text job) read.behind_job (number_bytes 4 l.k) read.behind_k one k.0 in
    let three = Takes-then bytes (named ++ job_text job ++ number_bytes 4 l.k) read.behind_k (shape_bytes l.shape) read.behind_shape two shape in
    Takes-then bytes (named ++ job_text job ++ number_bytes 4 l.k ++ shape_bytes l.shape) read.behind_shape (body_bytes l.shape l.body) p.1 three body

-- the format has the kinds of a layout that is read
pub layout_known : (bytes : List ℕ) (p : Layout × List ℕ) → layout_at bytes ≡ Ok p → has_kinds p.0.format p.0.shape ≡ true
layout_known bytes p e =
    let read = layout_read bytes p e in
    shape_known p.0.format _ (p.0.shape, read.behind_shape) read.shape

-- a layout that has a spelling
pub record IsLayout (l : Layout) : Type 0 where
  pub job : AreJobFields (job_of l)
  pub k : l.k < 2 ^ 32
  pub shape : IsShape l.format l.shape
  pub body : IsBody l.shape l.body

pub layout_again : IsReadAgain layout_at layout_bytes IsLayout
unfolding layout_at layout_bytes
layout_again l rest fits =
    let named = magic content.Answer l.format in
    let job = job_text (job_of l) in
    let k = number_bytes 4 l.k in
    let shape = shape_bytes l.shape in
    let body = body_bytes l.shape l.body in
    ap layout_at (append_assoc (named ++ job ++ k ++ shape) body rest ∙ append_assoc (named ++ job ++ k) shape (body ++ rest) ∙ append_assoc (named ++ job) k (shape ++ (body ++ rest)) ∙ append_assoc named job (k ++ (shape ++ (body ++ rest))))
    ∙ rw (
      format_again content.Answer l.format (job ++ (k ++ (shape ++ (body ++ rest)))),
      job_again (job_of l) (k ++ (shape ++ (body ++ rest))) fits.job,
      number_again 4 l.k (shape ++ (body ++ rest)) fits.k,
      shape_again l.format l.shape (body ++ rest) fits.shape,
      body_again l.shape l.body rest fits.body,
    ) refl
