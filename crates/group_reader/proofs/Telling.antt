-- What a call told of a source, step by step.
use Rattle.std.specs.Prelude.{◌≡◌, ℕ, Bool, true, false, List, [], ◌++◌, Option, Some, None, Result, Ok, Err}
use Rattle.std.proofs.Common.{refl, sym, ap, subst, ◌∙◌, append_assoc}
use Rattle.std.proofs.lemmas.List.{append-nil}
use Rattle.sha2.specs.Hashers.{Holds256}
use Rattle.wire.specs.Reading.{◌>>=◌, Read, Reads, bytes_at}
use Rattle.wire.proofs.Numbers.{bytes_parts}
use Rattle.fragment_file.specs.declared.fault.FileFault.{FileFault}
use Rattle.fragment_file.specs.declared.fault.FileFault.TheVariants.{Header, Limit}
use Rattle.fragment_file.specs.Fault.{from_wire}
use Rattle.fragment_file.specs.FragmentReading.{formed, within}
use Rattle.group_reader.specs.declared.source.Source.{Source}
use Rattle.group_reader.proofs.Pieces.{from_ok}
use Rattle.group_reader.specs.Source.{MayBeLeft, Refuses, Takes, Took, Yields}

-- ---- bytes that may be left

abbrev some_of : List ℕ → Option (List ℕ)
some_of bytes = Some bytes

abbrev none_of : Option (List ℕ)
none_of = None

some_is : (a b : List ℕ) → some_of a ≡ some_of b → b ≡ a
some_is a b e = sym cc

none_known : (b : List ℕ) → none_of ≡ some_of b → ⊥
none_known b e = cc

-- there always are some
pub some_left : (left : Option (List ℕ)) → (bytes : List ℕ) × MayBeLeft left bytes
some_left None = ([], (λ known is. absurd (none_known known is)))
some_left (Some bytes) = (bytes, (λ known is. some_is bytes known is))

pub before : {R : Type 0} (known : R → Option (List ℕ)) (old new : Source R) (given rest : List ℕ) → Yields known old new given → MayBeLeft (known new.reader) rest → MayBeLeft (known old.reader) (given ++ rest)
before known old new given rest yields left = λ bytes is.
    let next = yields.left bytes is in
    next.2 ∙ ap (λ (r : List ℕ). given ++ r) (left next.0 next.1)

pub yields_nothing : {R : Type 0} (known : R → Option (List ℕ)) (s : Source R) → Yields known s s []
yields_nothing known s = record {
  left = λ bytes is. (bytes, is, refl);
  hashed = λ front holds. subst (Holds256 s.hasher) (sym (append-nil front)) holds;
}

pub yields_both : {R : Type 0} (known : R → Option (List ℕ)) (old now new : Source R) (a b : List ℕ) → Yields known old now a → Yields known now new b → Yields known old new (a ++ b)
yields_both known old now new a b first second = record {
  left = λ bytes is.
      let one = first.left bytes is in
      let two = second.left one.0 one.1 in
      (two.0, two.1, one.2 ∙ ap (λ (r : List ℕ). a ++ r) two.2 ∙ sym (append_assoc a b two.0));
  hashed = λ front holds. subst (Holds256 new.hasher) (append_assoc front a b) (second.hashed (front ++ a) (first.hashed front holds));
}

-- ---- how far the reading of a part came

-- bytes were given behind which the part goes on so
pub record Reached {R Y : Type 0} (known : R → Option (List ℕ)) (old new : Source R) (part left : List ℕ → Read FileFault Y) : Type 0 where
  pub given : List ℕ
  pub yields : Yields known old new given
  pub same : (rest : List ℕ) → part (given ++ rest) ≡ left rest

pub begun : {R Y : Type 0} (known : R → Option (List ℕ)) (s : Source R) (part : List ℕ → Read FileFault Y) → Reached known s s part part
begun known s part = record { given = []; yields = yields_nothing known s; same = λ rest. refl }

module _ {R W Y : Type 0} {known : R → Option (List ℕ)} {old now : Source R} {part left : List ℕ → Read FileFault Y} where
  -- a step was read
  pub step_on : {new : Source R} (step : List ℕ → Read FileFault W) (next : W × List ℕ → Read FileFault Y) (y : W) → Reached known old now part left → ((rest : List ℕ) → left rest ≡ (step rest >>= next))
      → Took known now new step y → Reached known old new part (λ rest. next (y, rest))
  step_on {new} step next y reached is took = record {
    given = reached.given ++ took.0;
    yields = yields_both known old now new reached.given took.0 reached.yields took.1;
    same = λ rest. ap part (append_assoc reached.given took.0 rest) ∙ reached.same (took.0 ++ rest) ∙ is (took.0 ++ rest) ∙ ap (λ r. r >>= next) (took.2 rest);
  }

  -- a step failed
  pub fails_at : (step : List ℕ → Read FileFault W) (next : W × List ℕ → Read FileFault Y) (e : FileFault) → Reached known old now part left → ((rest : List ℕ) → left rest ≡ (step rest >>= next))
      → Refuses known now step e → Refuses known old part e
  fails_at step next e reached is refused = λ no_memory no_device.
      let wrong = refused no_memory no_device in
      (reached.given ++ wrong.0, before known old now reached.given wrong.0 reached.yields wrong.1, reached.same wrong.0 ∙ is wrong.0 ∙ ap (λ r. r >>= next) wrong.2)

  -- a turn of a loop
  pub goes_on : {new : Source R} (step : List ℕ → Read FileFault W) (y : W) (next : List ℕ → Read FileFault Y) → Reached known old now part left
      → ((bytes rest : List ℕ) → step bytes ≡ Ok (y, rest) → next rest ≡ left bytes) → Took known now new step y → Reached known old new part next
  goes_on {new} step y next reached is took = record {
    given = reached.given ++ took.0;
    yields = yields_both known old now new reached.given took.0 reached.yields took.1;
    same = λ rest. ap part (append_assoc reached.given took.0 rest) ∙ reached.same (took.0 ++ rest) ∙ sym (is (took.0 ++ rest) rest (took.2 rest));
  }

  -- the last turn of a loop
  pub stops_at : (step : List ℕ → Read FileFault W) (e : FileFault) → Reached known old now part left → ((bytes : List ℕ) → step bytes ≡ Err e → left bytes ≡ Err e)
      → Refuses known now step e → Refuses known old part e
  stops_at step e reached is refused = λ no_memory no_device.
      let wrong = refused no_memory no_device in
      (reached.given ++ wrong.0, before known old now reached.given wrong.0 reached.yields wrong.1, reached.same wrong.0 ∙ is wrong.0 wrong.2)

module _ {R Y : Type 0} {known : R → Option (List ℕ)} {old now : Source R} {part left : List ℕ → Read FileFault Y} where
  -- a test was passed
  pub passes : (next : List ℕ → Read FileFault Y) → Reached known old now part left → ((rest : List ℕ) → left rest ≡ next rest) → Reached known old now part next
  passes next reached is = record { given = reached.given; yields = reached.yields; same = λ rest. reached.same rest ∙ is rest }

  -- a test wasn't passed
  pub rejects : (e : FileFault) → Reached known old now part left → ((rest : List ℕ) → left rest ≡ Err e) → Refuses known old part e
  rejects e reached is = λ no_memory no_device.
      let some = some_left (known now.reader) in
      (reached.given ++ some.0, before known old now reached.given some.0 reached.yields some.1, reached.same some.0 ∙ is some.0)

  pub finishes : (y : Y) → Reached known old now part left → ((rest : List ℕ) → left rest ≡ Ok (y, rest)) → Took known old now part y
  finishes y reached is = (reached.given, reached.yields, (λ rest. reached.same rest ∙ is rest))

  -- the last step, whatever it gave
  pub told_as : {X : Type 0} (new : Source R) (view : X → Y) (r : Result X FileFault) (step : List ℕ → Read FileFault Y) → Reached known old now part left → ((rest : List ℕ) → left rest ≡ step rest)
      → Takes known now new view r step → Takes known old new view r part
  told_as new view (Ok x) step reached is took =
      (reached.given ++ took.0, yields_both known old now new reached.given took.0 reached.yields took.1, (λ rest. ap part (append_assoc reached.given took.0 rest) ∙ reached.same (took.0 ++ rest) ∙ is (took.0 ++ rest) ∙ took.2 rest))
  told_as new view (Err e) step reached is refused = λ no_memory no_device.
      let wrong = refused no_memory no_device in
      (reached.given ++ wrong.0, before known old now reached.given wrong.0 reached.yields wrong.1, reached.same wrong.0 ∙ is wrong.0 ∙ wrong.2)

  -- what was judged behind all that was read
  pub judged_told : {X : Type 0} (view : X → Y) (r : Result X FileFault) (read : Result Y FileFault) → Reached known old now part left → ((rest : List ℕ) → left rest ≡ (read >>= (λ y. Ok (y, rest))))
      → Reads view r read → Takes known old now view r part
  judged_told view (Ok x) read reached is told = finishes (view x) reached (λ rest. is rest ∙ ap (λ r. r >>= (λ y. Ok (y, rest))) told)
  judged_told view (Err e) read reached is told = rejects e reached (λ rest. is rest ∙ ap (λ r. r >>= (λ y. Ok (y, rest))) told)

-- ---- bytes

-- the bytes by another name
pub bytes_told : {R X : Type 0} (known : R → Option (List ℕ)) (old new : Source R) (r : Result X FileFault) (n m : ℕ) (out final : List ℕ) → out ≡ final → m ≡ n
    → Takes known old new (λ _. out) r (λ rest. from_wire (bytes_at m rest)) → Takes known old new (λ _. final) r (λ rest. from_wire (bytes_at n rest))
bytes_told known old new r n m out final same long told =
    subst (λ (k : ℕ). Takes known old new (λ _. final) r (λ rest. from_wire (bytes_at k rest))) long
    (subst (λ (bytes : List ℕ). Takes known old new (λ _. bytes) r (λ rest. from_wire (bytes_at m rest))) same told)

-- the bytes that were read are those that were given
pub took_bytes : {R : Type 0} (known : R → Option (List ℕ)) (old new : Source R) (n : ℕ) (out : List ℕ) → Took known old new (λ rest. from_wire (bytes_at n rest)) out → Yields known old new out
took_bytes known old new n out took =
    let all : took.0 ++ [] ≡ out ++ [] = bytes_parts n (took.0 ++ []) out [] (from_ok (bytes_at n (took.0 ++ [])) (out, []) (took.2 [])) in
    subst (Yields known old new) (sym (append-nil took.0) ∙ all ∙ append-nil out) took.1

-- ---- tests

pub behind_ok : {A B : Type 0} {r : Result A FileFault} {x : A} (next : A → Result B FileFault) → r ≡ Ok x → (r >>= next) ≡ next x
behind_ok next is = ap (λ r. r >>= next) is

pub behind_err : {A B : Type 0} {r : Result A FileFault} {e : FileFault} (next : A → Result B FileFault) → r ≡ Err e → (r >>= next) ≡ Err e
behind_err next is = ap (λ r. r >>= next) is

pub kept_test : {X : Type 0} (b : Bool) (x : X) → b ≡ true → within b x ≡ Ok x
kept_test b x is = ap (λ t. within t x) is

pub kept_not : {X : Type 0} (b : Bool) (x : X) → b ≡ false → within b x ≡ Err Limit
kept_not b x is = ap (λ t. within t x) is

pub formed_test : {X : Type 0} (b : Bool) (x : X) → b ≡ true → formed b x ≡ Ok x
formed_test b x is = ap (λ t. formed t x) is

pub formed_not : {X : Type 0} (b : Bool) (x : X) → b ≡ false → formed b x ≡ Err Header
formed_not b x is = ap (λ t. formed t x) is
